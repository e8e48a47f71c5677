-- Why records are set aside stays known, whatever calls and checkpoints do.
use Rattle.std.proofs.Common.{◌≡◌, ◌<◌, ℕ, Bool, false, true, Option, Some, None, option_map, inl, inr, refl, sym, ap, ◌∙◌, length, true≢false}
use Rattle.procedure.specs.Bytes.{Bytes}
use Rattle.procedure.specs.Needs.{Touch}
use Rattle.locktable.specs.Locks.{Locks}
use Rattle.record_store.specs.Stores.{StoreRecord, Slots, key_at, record_at}
use Rattle.steps.specs.inside.SetAside.{AsideIn, IsLocked, StaysFor, after_release, aside_at, is_aside}
use Rattle.steps.specs.inside.RecordEdits.{KeepsSlots}
use Rattle.steps.specs.inside.InstructionLocks.{locked}
use Rattle.steps.specs.declared.reclaiming.Aside.{Aside}
use Rattle.steps.specs.declared.reclaiming.Aside.TheVariants.{Unknown, Collected, CollectedOrLocked}
use Rattle.steps.proofs.sessions.LockGrants.{lock_stays}

stays_still : (a : Aside) (x y : Bool) (L M : Type 0) → (x ≡ true → y ≡ true) → (L → M) → StaysFor a x L → StaysFor a y M
stays_still Unknown x y L M f g is = tt
stays_still Collected x y L M f g is = f is
stays_still CollectedOrLocked x y L M f g (inl is) = inl (f is)
stays_still CollectedOrLocked x y L M f g (inr is) = inr (g is)

stays_released : (a : Aside) (x y : Bool) (L M : Type 0) → (x ≡ true → y ≡ true) → StaysFor a x L → StaysFor (after_release a) y M
stays_released Unknown x y L M f is = tt
stays_released Collected x y L M f is = f is
stays_released CollectedOrLocked x y L M f is = tt

-- the record that was set aside in a slot, by its key
was_aside : (old new : Slots) → KeepsSlots old new → (slot : ℕ) (key : Bytes) → key_at new slot ≡ Some key → aside_at new slot ≡ true → (key_at old slot ≡ Some key) × (aside_at old slot ≡ true)
was_aside old new keeps slot key at is = by (record_at old slot) refl
  where
    by : (o : Option StoreRecord) → record_at old slot ≡ o → (key_at old slot ≡ Some key) × (aside_at old slot ≡ true)
    by None e = absurd (let no : aside_at old slot ≡ false = ap is_aside e in true≢false (sym (keeps.aside slot is) ∙ no))
    by (Some r) e =
        let there : key_at old slot ≡ Some r.key = ap (option_map (λ (r : StoreRecord). r.key)) e in
        (there ∙ sym (keeps.keys slot r.key there) ∙ at, keeps.aside slot is)

-- where the records keep their slots, and what was collected or locked still is
pub aside_kept :
    (a : Aside) (old new : Slots) (collected again : Bytes → Bool) (locks after : Locks) → KeepsSlots old new → ((q : Bytes) → collected q ≡ true → again q ≡ true) →
    ((q : Bytes) → IsLocked locks q → IsLocked after q) → AsideIn a old collected locks → AsideIn a new again after
aside_kept a old new collected again locks after keeps f g aside slot key at is =
    let was = was_aside old new keeps slot key at is in
    stays_still a (collected key) (again key) (IsLocked locks key) (IsLocked after key) (f key) (g key) (aside slot key was.0 was.1)

-- and where locks went
pub aside_released :
    (a : Aside) (old new : Slots) (collected again : Bytes → Bool) (locks after : Locks) → KeepsSlots old new → ((q : Bytes) → collected q ≡ true → again q ≡ true) → AsideIn a old collected locks →
    AsideIn (after_release a) new again after
aside_released a old new collected again locks after keeps f aside slot key at is =
    let was = was_aside old new keeps slot key at is in
    stays_released a (collected key) (again key) (IsLocked locks key) (IsLocked after key) (f key) (aside slot key was.0 was.1)

-- a session that is granted a lock releases none
pub locked_still : (locks : Locks) (s : ℕ) (n : Touch) → s < length locks → (q : Bytes) → IsLocked locks q → IsLocked (locked locks s n) q
locked_still locks s n lt q (t, is) = (t, lock_stays locks s n lt t q is)
