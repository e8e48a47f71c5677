-- The versions of a key: what calls and a scan make of them, and how a key's record and what a core lends tell them.
use Rattle.std.specs.Prelude.{ℕ, ◌+◌, Option, Bool, [], ◌∷◌, Some, None, false, true, ◌&&◌, cond, if◌then◌else◌, is_none, is_some, length, max, List}
use Rattle.std.specs.Option.{option_copied, option_map}
use Rattle.record_store.specs.Entries.{lent_stable}
use Rattle.record_store.specs.Stores.{Slots, record_at, records}
use Rattle.record_store.specs.Versions as stored
use Rattle.steps.specs.declared.versions.Versions.{Versions as Lent}
use Rattle.procedure.specs.Bytes.{Cell, Bytes, same}
use Rattle.phase.specs.declared.phases.Phase.{Phase}
use Rattle.phase.specs.declared.phases.Phase.TheVariants.{Rest, Prepare, Resolve, Capture, Complete}
use Rattle.procedure.specs.Needs.{Touch, Nothing, Reads, Writes}
use Rattle.record_store.specs.declared.records.Stable.{Stable}
use Rattle.record_store.specs.declared.records.Stable.TheVariants.{Empty, Was}
use Rattle.image.specs.declared.images.Kind.{Kind}
use Rattle.image.specs.declared.images.Kind.TheVariants.{Full, Partial}

-- a key's live and stable versions, and whether it is available; a stable version is none where it is empty
pub record KeyVersions : Type 0 where
  pub live : Cell
  pub stable : Option Cell
  pub available : Bool

abbrev pub VersionsByKey : Type 0
VersionsByKey = Bytes → Option KeyVersions

-- a key without a record is absent
abbrev pub live_version : Option KeyVersions → Cell
live_version None = None
live_version (Some v) = v.live

-- those that a key has in a core that is opened
abbrev pub opened_versions : Cell → Option KeyVersions
opened_versions None = None
opened_versions (Some b) = Some (record { live = Some b; stable = None; available = false })

abbrev pub is_late : Phase → Bool
is_late Capture = true
is_late Complete = true
is_late _ = false

-- the record of a key, made where there is none
abbrev pub made_versions : Phase → Option KeyVersions → KeyVersions
made_versions p None = record { live = None; stable = None; available = is_late p }
made_versions p (Some v) = v

abbrev pub first_stable : Option Cell → Cell → Option Cell
first_stable None l = Some l
first_stable (Some x) l = Some x

abbrev pub copied_early : Bool → KeyVersions → KeyVersions
copied_early true v = v
copied_early false v = record v { stable = first_stable v.stable v.live }

abbrev pub copied_late : Bool → KeyVersions → KeyVersions
copied_late true v = v
copied_late false v = record { live = v.live; stable = Some v.live; available = true }

-- the copy before a write, by the phase in which the call started
abbrev pub copied : Phase → KeyVersions → KeyVersions
copied Rest v = v
copied Prepare v = copied_early v.available v
copied Resolve v = copied_late v.available v
copied Capture v = copied_late v.available v
copied Complete v = v

-- those after a write in a phase, by the phase in which its call started
abbrev pub wrote : Phase → Phase → Option KeyVersions → Cell → KeyVersions
wrote phase start o x = record (copied start (made_versions phase o)) { live = x }

abbrev pub wrote_key : Phase → Phase → Touch → Option Cell → VersionsByKey → VersionsByKey
wrote_key phase start (Writes k) (Some x) vs = λ q. cond (same q k) (Some (wrote phase start (vs k) x)) (vs q)
wrote_key phase start _ _ vs = vs

-- what the key of a touch holds
abbrev pub found : VersionsByKey → Touch → Cell
found vs Nothing = None
found vs (Reads k) = live_version (vs k)
found vs (Writes k) = live_version (vs k)

-- must a touch, by which a key becomes this, make a record of the key?
abbrev pub makes_record : VersionsByKey → Touch → Option Cell → Bool
makes_record vs Nothing x = false
makes_record vs (Reads k) x = false
makes_record vs (Writes k) x = is_some x && is_none (vs k)

-- how many slots there are once a record was made, or none was: a vacant slot is used before a new one
abbrev pub slots_with : (made : Bool) → Slots → ℕ
slots_with false slots = length slots
slots_with true slots = max (length slots) (records slots + 1)

-- what commits does to the record of a written key, by the phase in which its call started and the phase of now
abbrev pub kept : Phase → Phase → KeyVersions → KeyVersions
kept Prepare Prepare v = record v { stable = None }
kept Prepare Resolve v = record v { available = true }
kept _ _ v = v

-- those of a key, where it was written
abbrev pub kept_key : Phase → Phase → Option Cell → Option KeyVersions → Option KeyVersions
kept_key start phase None v = v
kept_key start phase (Some x) None = None
kept_key start phase (Some x) (Some v) = Some (kept start phase v)

abbrev pub undone : Bool → Cell → KeyVersions → KeyVersions
undone true x v = record v { live = x }
undone false x v = record { live = x; stable = None; available = false }

-- those of a key after its writes are undone, where it was written
abbrev pub undone_key : Option Cell → Option KeyVersions → Option KeyVersions
undone_key None v = v
undone_key (Some x) None = None
undone_key (Some x) (Some v) = Some (undone v.available x v)

-- what a record gives, and what it is then
abbrev pub gives_at : Bool → KeyVersions → Option Cell
gives_at true v = v.stable
gives_at false v = Some v.live

abbrev pub gives : KeyVersions → Option Cell
gives v = gives_at v.available v

abbrev pub captured_at : Bool → KeyVersions → KeyVersions
captured_at true v = record v { stable = None }
captured_at false v = record v { available = true }

-- what a change replaced, where there is one
abbrev pub undo_of : Option Cell → Cell → Option Cell
undo_of None x = None
undo_of (Some y) x = Some x

abbrev pub cell_of : Stable Cell → Option Cell
cell_of Empty = None
cell_of (Was x) = Some x

-- those that a record has
abbrev pub key_versions : stored.Version → KeyVersions
key_versions v = record { live = v.live; stable = cell_of v.stable; available = v.available }

-- what a key's record says
unfoldable pub versions_in : Slots → VersionsByKey
versions_in slots key = option_map key_versions (stored.version_of slots key)

-- a write noted: the key, and the live version before it
abbrev pub Noted : Type 0
Noted = Bytes × Cell

-- what a scan is given by a record, if there is one: the key, and what it held at the cut
abbrev pub given_at : Bytes → Option KeyVersions → Option Noted
given_at key None = None
given_at key (Some v) = option_map (λ x. (key, x)) (gives v)

-- by that of a key, if there is a key
abbrev pub given_of : VersionsByKey → Option Bytes → Option Noted
given_of vs None = None
given_of vs (Some key) = given_at key (vs key)

-- a full image keeps present values; a partial one keeps all that the scan of its keys is given
abbrev pub is_kept : Kind → Noted → Bool
is_kept Full e = is_some e.1
is_kept Partial e = true

abbrev pub kept_of : Kind → Option Noted → List Noted
kept_of kind None = []
kept_of kind (Some e) = if is_kept kind e then e ∷ [] else []

abbrev pub lent_versions : {A : Type 0} → Lent A → KeyVersions
lent_versions v = record { live = option_copied v.live; stable = cell_of (lent_stable v.stable); available = v.available }

-- those of the record in a slot
abbrev pub versions_at : Slots → ℕ → Option KeyVersions
versions_at slots slot = option_map (λ r. key_versions (stored.version r)) (record_at slots slot)
