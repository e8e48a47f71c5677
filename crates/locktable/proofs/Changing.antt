-- What a call changes and leaves.
use Rattle.std.proofs.Common.{◌≡◌, ◌≢◌, ℕ, ◌<◌, inl, inr, cond, length, Option, refl, sym, ap, ◌∙◌, eqb, eq-eqb}
use Rattle.std.proofs.lemmas.Bool.Decides.{eqb_tells}
use Rattle.std.specs.FinMap.{get, empty, get-empty}
use Rattle.procedure.specs.Bytes.{Bytes}
use Rattle.procedure.specs.Table.{KeyMap}
use Rattle.procedure.proofs.Base.{keys}
use Rattle.locktable.specs.Modes.{Mode}
use Rattle.locktable.specs.Locks.{Locks, locks_of, mode_of, with_entry, with_lock}
use Rattle.locktable.specs.Changes.{ChangesOneLock, ReleasesOneSession}
use Rattle.procedure.proofs.Maps.{by_bytes}
use Rattle.locktable.proofs.Lookups.{get-with_entry_same, get-with_entry_other}
use Rattle.locktable.proofs.Tables.{mode_of-set}

other_key : (locks : Locks) (session : ℕ) (key : Bytes) (mode : Option Mode) → session < length locks → (s : ℕ) (k : Bytes) → k ≢ key →
    mode_of (with_lock locks session key mode) s k ≡ mode_of locks s k
other_key locks session key mode within s k ne =
    mode_of-set locks session (with_entry (locks_of locks session) key mode) s k within
    ∙ elim (keys k key) [
      | inl e ↦ absurd (ne e)
      | inr f ↦ ap (λ x. cond (eqb s session) x (mode_of locks s k)) (get-with_entry_other (locks_of locks session) key mode k f) ∙ elim (eqb_tells s session) [
        | inl e ↦ ap (λ b. cond b (mode_of locks session k) (mode_of locks s k)) e.0 ∙ ap (λ n. mode_of locks n k) (sym e.1)
        | inr e ↦ ap (λ b. cond b (mode_of locks session k) (mode_of locks s k)) e.0
      ]
    ]

pub changes_one_lock : ChangesOneLock
changes_one_lock locks session key mode within = (
  mode_of-set locks session (with_entry (locks_of locks session) key mode) session key within
      ∙ ap (λ b. cond b (get (with_entry (locks_of locks session) key mode) key) (mode_of locks session key)) (eq-eqb session session refl)
      ∙ get-with_entry_same (locks_of locks session) key mode,
  λ s k other. elim other [
    | inl ne ↦ elim (eqb_tells s session) [
      | inl e ↦ absurd (ne e.1)
      | inr e ↦ mode_of-set locks session (with_entry (locks_of locks session) key mode) s k within ∙ ap (λ b. cond b (get (with_entry (locks_of locks session) key mode) k) (mode_of locks s k)) e.0
    ]
    | inr ne ↦ other_key locks session key mode within s k ne
  ],
)

pub releases_one_session : ReleasesOneSession
releases_one_session locks session within =
    let nothing : KeyMap Mode = empty in (
      λ k. mode_of-set locks session nothing session k within ∙ ap (λ b. cond b (get nothing k) (mode_of locks session k)) (eq-eqb session session refl) ∙ get-empty by_bytes k,
      λ s k ne. elim (eqb_tells s session) [
        | inl e ↦ absurd (ne e.1)
        | inr e ↦ mode_of-set locks session nothing s k within ∙ ap (λ b. cond b (get nothing k) (mode_of locks s k)) e.0
      ],
    )
