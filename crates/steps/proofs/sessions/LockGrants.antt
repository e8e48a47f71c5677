-- The locks of an instruction: what a grant changes, and that it can be taken back.
use Rattle.std.proofs.Common.{◌≡◌, ◌≢◌, IsSome, ℕ, ◌<◌, ◌⊎◌, Bool, true, false, ◌||◌, Option, Some, None, length, inl, inr, refl, sym, ap, ◌∙◌, subst, length-set, true≢false}
use Rattle.std.proofs.lemmas.Bool.{cases_eq}
use Rattle.procedure.specs.Bytes.{Bytes, same}
use Rattle.procedure.specs.Needs.{Touch, Nothing, Reads, Writes}
use Rattle.procedure.specs.Runs.{reads_after, writes_after}
use Rattle.procedure.proofs.Base.{keys, same_refl}
use Rattle.locktable.specs.declared.modes.Mode.{Mode}
use Rattle.locktable.specs.declared.modes.Mode.TheVariants.{Shared, Exclusive}
use Rattle.locktable.specs.Modes.{IsAtMost, stronger}
use Rattle.locktable.specs.Locks.{Locks, mode_of, with_lock}
use Rattle.locktable.proofs.Changing.{changes_one_lock}
use Rattle.steps.specs.inside.CoreFields.{mode_by}
use Rattle.steps.specs.inside.InstructionLocks.{SameLocks, mode_of_touch, held_so, locked}

-- what is granted is at least what was held
at_most_stronger : (m : Option Mode) (asked : Mode) → IsAtMost m (Some (stronger m asked))
at_most_stronger None asked = tt
at_most_stronger (Some Shared) asked = tt
at_most_stronger (Some Exclusive) asked = tt

pub weaker : (locks : Locks) (s : ℕ) (n : Touch) → s < length locks → IsAtMost (mode_of_touch locks s n) (mode_of_touch (locked locks s n) s n)
weaker locks s Nothing lt = tt
weaker locks s (Reads k) lt =
    let m = stronger (mode_of locks s k) Shared in
    subst (λ h. IsAtMost (mode_of locks s k) h) (sym (changes_one_lock locks s k (Some m) lt).0) (at_most_stronger (mode_of locks s k) Shared)
weaker locks s (Writes k) lt =
    let m = stronger (mode_of locks s k) Exclusive in
    subst (λ h. IsAtMost (mode_of locks s k) h) (sym (changes_one_lock locks s k (Some m) lt).0) (at_most_stronger (mode_of locks s k) Exclusive)

-- whether it is this session's lock on this key, or another
which : (s t : ℕ) (k q : Bytes) → ((t ≡ s) × (q ≡ k)) ⊎ ((t ≢ s) ⊎ (q ≢ k))
which s t k q =
    elim (cases_eq t s) [
      | inr differs ↦ inr (inl differs)
      | inl is ↦ elim (keys q k) [
        | inl same_key ↦ inl (is, same_key)
        | inr f ↦ inr (inr (λ e. true≢false (sym (ap (λ b. same q b) (sym e) ∙ same_refl q) ∙ f)))
      ]
    ]

back_on : (locks : Locks) (s : ℕ) (k : Bytes) (m : Option Mode) → s < length locks → SameLocks locks (with_lock (with_lock locks s k m) s k (mode_of locks s k))
back_on locks s k m lt t q =
    let first = changes_one_lock locks s k m lt in
    let second = changes_one_lock (with_lock locks s k m) s k (mode_of locks s k) (subst (λ n. s < n) (sym (length-set locks s _)) lt) in
    elim (which s t k q) [
      | inl here ↦
          ap (λ u. mode_of (with_lock (with_lock locks s k m) s k (mode_of locks s k)) u q) here.0
          ∙ ap (mode_of (with_lock (with_lock locks s k m) s k (mode_of locks s k)) s) here.1
          ∙ second.0 ∙ sym (ap (λ u. mode_of locks u q) here.0 ∙ ap (mode_of locks s) here.1)
      | inr other ↦ second.1 t q other ∙ first.1 t q other
    ]

-- a grant that is taken back leaves every lock as it was
pub taken_back : (locks : Locks) (s : ℕ) (n : Touch) → s < length locks → SameLocks locks (held_so (locked locks s n) s n (mode_of_touch locks s n))
taken_back locks s Nothing lt t q = refl
taken_back locks s (Reads k) lt t q = back_on locks s k (Some (stronger (mode_of locks s k) Shared)) lt t q
taken_back locks s (Writes k) lt t q = back_on locks s k (Some (stronger (mode_of locks s k) Exclusive)) lt t q

pub length_held_so : (locks : Locks) (s : ℕ) (n : Touch) (m : Option Mode) → length (held_so locks s n m) ≡ length locks
length_held_so locks s Nothing m = refl
length_held_so locks s (Reads k) m = length-set locks s _
length_held_so locks s (Writes k) m = length-set locks s _

-- THE LOCKS AFTER A STEP

read_more : (w r : Bool) → Some (stronger (mode_by w r) Shared) ≡ mode_by w true
read_more true r = refl
read_more false true = refl
read_more false false = refl

write_more : (w r : Bool) → Some (stronger (mode_by w r) Exclusive) ≡ mode_by true r
write_more true r = refl
write_more false true = refl
write_more false false = refl

apart : (q k : Bytes) → q ≢ k → same q k ≡ false
apart q k ne =
    elim (keys q k) [
      | inl e ↦ absurd (ne e)
      | inr f ↦ f
    ]

-- the session's own locks are those of the keys that it has touched then
pub own_locks :
    (locks : Locks) (s : ℕ) (n : Touch) (w r : Bytes → Bool) → s < length locks → ((q : Bytes) → mode_of locks s q ≡ mode_by (w q) (r q)) → (q : Bytes) →
    mode_of (locked locks s n) s q ≡ mode_by (writes_after n w q) (reads_after n r q)
own_locks locks s Nothing w r lt e q = e q
own_locks locks s (Reads k) w r lt e q =
    let changes = changes_one_lock locks s k (Some (stronger (mode_of locks s k) Shared)) lt in
    elim (which s s k q) [
      | inl here ↦
          ap (mode_of (locked locks s (Reads k)) s) here.1 ∙ changes.0 ∙ ap (λ m. Some (stronger m Shared)) (e k) ∙ read_more (w k) (r k)
          ∙ ap (λ b. mode_by (w k) (b || r k)) (sym (same_refl k)) ∙ ap (λ z. mode_by (w z) (same z k || r z)) (sym here.1)
      | inr (inl differs) ↦ absurd (differs refl)
      | inr (inr differs) ↦ changes.1 s q (inr differs) ∙ e q ∙ ap (λ b. mode_by (w q) (b || r q)) (sym (apart q k differs))
    ]
own_locks locks s (Writes k) w r lt e q =
    let changes = changes_one_lock locks s k (Some (stronger (mode_of locks s k) Exclusive)) lt in
    elim (which s s k q) [
      | inl here ↦
          ap (mode_of (locked locks s (Writes k)) s) here.1 ∙ changes.0 ∙ ap (λ m. Some (stronger m Exclusive)) (e k) ∙ write_more (w k) (r k)
          ∙ ap (λ b. mode_by (b || w k) (r k)) (sym (same_refl k)) ∙ ap (λ z. mode_by (same z k || w z) (r z)) (sym here.1)
      | inr (inl differs) ↦ absurd (differs refl)
      | inr (inr differs) ↦ changes.1 s q (inr differs) ∙ e q ∙ ap (λ b. mode_by (b || w q) (r q)) (sym (apart q k differs))
    ]

-- those of the others stay
pub other_locks : (locks : Locks) (s : ℕ) (n : Touch) → s < length locks → (t : ℕ) (q : Bytes) → t ≢ s → mode_of (locked locks s n) t q ≡ mode_of locks t q
other_locks locks s Nothing lt t q ne = refl
other_locks locks s (Reads k) lt t q ne = (changes_one_lock locks s k (Some (stronger (mode_of locks s k) Shared)) lt).1 t q (inl ne)
other_locks locks s (Writes k) lt t q ne = (changes_one_lock locks s k (Some (stronger (mode_of locks s k) Exclusive)) lt).1 t q (inl ne)

granted_lock : (locks : Locks) (s : ℕ) (k : Bytes) (m : Mode) → s < length locks → (t : ℕ) (q : Bytes) → IsSome (mode_of locks t q) → IsSome (mode_of (with_lock locks s k (Some m)) t q)
granted_lock locks s k m lt t q is =
    let changes = changes_one_lock locks s k (Some m) lt in
    elim (which s t k q) [
      | inl here ↦ subst (λ o. IsSome o) (sym (ap (λ i. mode_of (with_lock locks s k (Some m)) i q) here.0 ∙ ap (mode_of (with_lock locks s k (Some m)) s) here.1 ∙ changes.0)) refl
      | inr differs ↦ subst (λ o. IsSome o) (sym (changes.1 t q differs)) is
    ]

-- whoever holds a key holds it still
pub lock_stays : (locks : Locks) (s : ℕ) (n : Touch) → s < length locks → (t : ℕ) (q : Bytes) → IsSome (mode_of locks t q) → IsSome (mode_of (locked locks s n) t q)
lock_stays locks s Nothing lt t q is = is
lock_stays locks s (Reads k) lt t q is = granted_lock locks s k (stronger (mode_of locks s k) Shared) lt t q is
lock_stays locks s (Writes k) lt t q is = granted_lock locks s k (stronger (mode_of locks s k) Exclusive) lt t q is
