-- Which records are set aside from reclaim, and why.
use Rattle.std.specs.Prelude.{◌≡◌, ◌⊎◌, ℕ, Bool, true, false, Option, Some, None, IsSome, length}
use Rattle.procedure.specs.Bytes.{Bytes}
use Rattle.locktable.specs.Locks.{Locks, mode_of}
use Rattle.record_store.specs.Stores.{StoreRecord, Slots, changed, key_at, record_at, with_aside}
use Rattle.steps.specs.Versions.{versions_in}
use Rattle.steps.specs.declared.reclaiming.Aside.{Aside}
use Rattle.steps.specs.declared.reclaiming.Aside.TheVariants.{Unknown, Collected, CollectedOrLocked}

abbrev pub is_aside : Option StoreRecord → Bool
is_aside None = false
is_aside (Some r) = r.aside

-- is the record in the slot set aside?
abbrev pub aside_at : Slots → ℕ → Bool
aside_at slots slot = is_aside (record_at slots slot)

-- some session holds the key
abbrev pub IsLocked : Locks → Bytes → Type 0
IsLocked locks key = (session : ℕ) × IsSome (mode_of locks session key)

-- why a record is set aside, as far as it is known: its key was collected, or it is locked
abbrev pub StaysFor : Aside → (collected : Bool) → (locked : Type 0) → Type 0
StaysFor Unknown collected locked = Unit {0}
StaysFor Collected collected locked = collected ≡ true
StaysFor CollectedOrLocked collected locked = (collected ≡ true) ⊎ locked

-- why each record that is set aside is so
abbrev pub AsideIn : Aside → Slots → (collected : Bytes → Bool) → Locks → Type 0
AsideIn aside slots collected locks = (slot : ℕ) (key : Bytes) → key_at slots slot ≡ Some key → aside_at slots slot ≡ true → StaysFor aside (collected key) (IsLocked locks key)

-- something is known of the records that are set aside
abbrev pub IsKnown : Aside → Type 0
IsKnown Unknown = ⊥
IsKnown Collected = Unit {0}
IsKnown CollectedOrLocked = Unit {0}

-- the record in the slot is set aside
abbrev pub put_aside : Slots → ℕ → Slots
put_aside slots slot = changed (with_aside true) slots slot

-- what is known of them after locks went
abbrev pub after_release : Aside → Aside
after_release Unknown = Unknown
after_release Collected = Collected
after_release CollectedOrLocked = Unknown

-- the same records in the same slots, whichever are set aside
pub record SameRecords (old new : Slots) : Type 0 where
  pub slots : length new ≡ length old
  pub keys : (slot : ℕ) → key_at new slot ≡ key_at old slot
  pub versions : (q : Bytes) → versions_in new q ≡ versions_in old q
