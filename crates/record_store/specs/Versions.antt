-- A store as a map from keys to versions, whatever the slots that the records stand in.
use Rattle.std.specs.Prelude.{◌≡◌, ℕ, Bool, false, if◌then◌else◌, [], ◌∷◌, Option, Some, None}
use Rattle.procedure.specs.Bytes.{Bytes, Cell, same}
use Rattle.record_store.specs.Stores.{StoreRecord, Slots, record_at}
use Rattle.record_store.specs.declared.records.Stable.{Stable}
use Rattle.record_store.specs.declared.records.Stable.TheVariants.{Empty}

-- a record without its key, and without whether it is set aside
pub record Version : Type 0 where
  pub live : Cell
  pub stable : Stable Cell
  pub available : Bool

abbrev pub version : StoreRecord → Version
version r = record { live = r.live; stable = r.stable; available = r.available }

-- what the record with this key has; None, where no record has it
unfoldable pub version_of : Slots → Bytes → Option Version
version_of [] key = None
version_of (None ∷ slots) key = version_of slots key
version_of (Some r ∷ slots) key = if same key r.key then Some (version r) else version_of slots key

-- the version of a record as it is made
abbrev pub new_version : Bool → Version
new_version available = record { live = None; stable = Empty; available = available }

-- the version of a record at rest
abbrev pub rested : Version → Version
rested v = record v { stable = Empty; available = false }

-- a slot whose record has the key and the version
pub record Holds (slots : Slots) (key : Bytes) (v : Version) : Type 0 where
  pub slot : ℕ
  pub kept : StoreRecord
  pub there : record_at slots slot ≡ Some kept
  pub key_is : kept.key ≡ key
  pub version_is : version kept ≡ v

-- the change keeps each record's key
abbrev pub KeepsKey : (StoreRecord → StoreRecord) → Type 0
KeepsKey f = (r : StoreRecord) → (f r).key ≡ r.key
