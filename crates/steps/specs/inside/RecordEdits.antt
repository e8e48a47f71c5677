-- How the records of a store stand for the machine's versions, and what writes and undoing do to them.
use Rattle.std.specs.Prelude.{◌≡◌, ℕ, Bool, true, false, cond, List, [], ◌∷◌, Option, Some, None, is_some}
use Rattle.procedure.specs.Bytes.{Bytes, Cell, same}
use Rattle.phase.specs.declared.phases.Phase.{Phase}
use Rattle.procedure.specs.Needs.{Touch, Nothing, Reads, Writes}
use Rattle.record_store.specs.Stores.{Finds, HasKeysOnce, StoreRecord, Slots, key_at, record_at}
use Rattle.record_store.specs.Versions as stored
use Rattle.record_store.specs.declared.records.Stable.{Stable}
use Rattle.record_store.specs.declared.records.Stable.TheVariants.{Empty, Was}
use Rattle.steps.specs.inside.SetAside.{aside_at}
use Rattle.steps.specs.Versions.{KeyVersions, VersionsByKey, captured_at, copied, undone, undone_key, kept_key, cell_of, key_versions, Noted, given_at, wrote}
use Rattle.steps.specs.declared.notes.Note.{Note}
use Rattle.phase.specs.declared.phases.Phase.TheVariants.{Rest}
use Rattle.image.specs.Images.{Entry}

abbrev pub stored_stable : Option Cell → Stable Cell
stored_stable None = Empty
stored_stable (Some x) = Was x

-- each key that has a record keeps its slot, and no record is newly set aside
pub record KeepsSlots (old new : Slots) : Type 0 where
  pub keys : (slot : ℕ) (key : Bytes) → key_at old slot ≡ Some key → key_at new slot ≡ Some key
  pub aside : (slot : ℕ) → aside_at new slot ≡ true → aside_at old slot ≡ true

-- what a look-up of a key has found: the slot of its record, if it has one; no two slots have the same key
pub record IsFound (slots : Slots) (key : Bytes) (slot : Option ℕ) : Type 0 where
  pub finds : Finds slots key slot
  pub once : HasKeysOnce slots

-- the same of the key of a touch
abbrev pub IsFoundBy : Slots → Touch → Option ℕ → Type 0
IsFoundBy slots Nothing slot = slot ≡ None
IsFoundBy slots (Reads k) slot = IsFound slots k slot
IsFoundBy slots (Writes k) slot = IsFound slots k slot

-- the record, with another version
abbrev pub with_version : StoreRecord → KeyVersions → StoreRecord
with_version r v = record r { live = v.live; stable = stored_stable v.stable; available = v.available }

-- the record, whose version is changed so
abbrev pub edited : (KeyVersions → KeyVersions) → StoreRecord → StoreRecord
edited f r = with_version r (f (key_versions (stored.version r)))

-- a write by a call that started in this phase
abbrev pub written_versions : Phase → Cell → KeyVersions → KeyVersions
written_versions start x v = record (copied start v) { live = x }

abbrev pub noted_of : {A : Type 0} → Note A → Noted
noted_of n = (n.key, n.before)

-- the live version before the first write of a key
abbrev pub first_noted : List Noted → Bytes → Option Cell
first_noted [] q = None
first_noted (n ∷ ns) q = cond (same q n.0) (Some n.1) (first_noted ns q)

-- the versions after these writes are undone
abbrev pub all_undone : List Noted → VersionsByKey → VersionsByKey
all_undone ns vs q = undone_key (first_noted ns q) (vs q)

-- the versions after these writes are kept
abbrev pub all_kept : Phase → Phase → List Noted → VersionsByKey → VersionsByKey
all_kept start phase ns vs q = kept_key start phase (first_noted ns q) (vs q)

abbrev pub is_available : Option StoreRecord → Bool
is_available None = false
is_available (Some r) = r.available

abbrev pub has_stable : Option StoreRecord → Bool
has_stable None = false
has_stable (Some r) = is_some (cell_of r.stable)

-- is the record in the slot available?
abbrev pub available_at : Slots → ℕ → Bool
available_at slots slot = is_available (record_at slots slot)

-- has the record in the slot a stable version?
abbrev pub has_stable_at : Slots → ℕ → Bool
has_stable_at slots slot = has_stable (record_at slots slot)

-- a version whose last write is undone
abbrev pub undone_version : Cell → KeyVersions → KeyVersions
undone_version x v = undone v.available x v

-- a version whose record a scan visited
abbrev pub captured : KeyVersions → KeyVersions
captured v = captured_at v.available v

-- by that in a slot
abbrev pub given_by : Option StoreRecord → Option Noted
given_by None = None
given_by (Some r) = given_at r.key (Some (key_versions (stored.version r)))

-- the versions with one entry more
abbrev pub with_opened : VersionsByKey → Entry → VersionsByKey
with_opened vs e q = cond (same q e.0) (Some (wrote Rest Rest (vs e.0) e.1)) (vs q)

-- the versions with these entries, one after another
abbrev pub opened_with : VersionsByKey → List Entry → VersionsByKey
opened_with vs [] = vs
opened_with vs (e ∷ es) = opened_with (with_opened vs e) es
