-- One instruction of an open call, as it is kept.
use Rattle.std.specs.Prelude.{◌≡◌, ◌+◌, Bool, ◌&&◌, cond, is_none, length, map, Option, Some}
use Rattle.procedure.specs.Bytes.{Bytes, Cell, same}
use Rattle.procedure.specs.Needs.{Touch, Nothing, Reads, Writes, becomes_of, touch_of}
use Rattle.procedure.specs.declared.needs.Access.{Access}
use Rattle.procedure.specs.declared.needs.Access.TheVariants as access
use Rattle.procedure.specs.Runs.{Execution, advanced, next_need}
use Rattle.phase.specs.declared.phases.Phase.{Phase}
use Rattle.record_store.specs.Stores.{Slots}
use Rattle.steps.specs.inside.RecordEdits.{KeepsSlots, first_noted, noted_of}
use Rattle.steps.specs.Versions.{versions_in, found, live_version, makes_record, slots_with, wrote, wrote_key}
use Rattle.steps.specs.Refusals.{is_store_full}
use Rattle.steps.specs.machine.Machine.{note, noted}
use Rattle.steps.specs.declared.calls.OpenCall.{OpenCall}

-- the key of an access
abbrev pub touch_by : Access → Touch
touch_by (access.Reads k) = Reads k
touch_by (access.Writes k) = Writes k
touch_by access.Nothing = Nothing
touch_by (access.Ended c) = Nothing

-- the key that a machine's next instruction touches, what it holds, and what it becomes
abbrev pub touch_in : Execution → Touch
touch_in m = touch_of (next_need m.args m.progress)

abbrev pub seen_in : Slots → Execution → Cell
seen_in slots m = found (versions_in slots) (touch_in m)

abbrev pub becomes_in : Slots → Execution → Option Cell
becomes_in slots m = becomes_of (next_need m.args m.progress) (seen_in slots m)

-- must the next instruction make a record, where the store is full?
abbrev pub lacks_place : Slots → Execution → Bool
lacks_place slots m = is_store_full slots && makes_record (versions_in slots) (touch_in m) (becomes_in slots m)

abbrev pub fed_with : Cell → Execution → Execution
fed_with x m = record m { progress = advanced m.args m.progress x }

module _ {A : Type 0} where
  -- what was begun stays
  pub record SameBegun (c d : OpenCall A) : Type 0 where
    pub number : d.number ≡ c.number
    pub procedure : d.procedure ≡ c.procedure
    pub start : d.start ≡ c.start

  pub record SameOpen (c d : OpenCall A) : Type 0 where
    pub begun : SameBegun c d
    pub executed : d.executed ≡ c.executed
    pub machine : d.machine ≡ c.machine
    pub notes : d.notes.items ≡ c.notes.items

  -- a write to a key, noted, that a machine was told of
  pub record Wrote (phase : Phase) (key : Bytes) (live : Cell) (s : Slots) (c : OpenCall A) (t : Slots) (d : OpenCall A) : Type 0 where
    pub begun : SameBegun c d
    pub executed : d.executed ≡ c.executed
    pub machine : d.machine ≡ fed_with (live_version (versions_in s key)) c.machine
    pub notes : (q : Bytes) → first_noted (map noted_of d.notes.items) q ≡ cond (same q key) (note (first_noted (map noted_of c.notes.items) key) (live_version (versions_in s key)))
        (first_noted (map noted_of c.notes.items) q)
    pub versions : (q : Bytes) → versions_in t q ≡ cond (same q key) (Some (wrote phase c.start (versions_in s key) live)) (versions_in s q)
    pub keys : KeepsSlots s t
    pub slots : length t ≡ slots_with (is_none (versions_in s key)) s

  -- one instruction more
  pub record ExecutesOne (phase : Phase) (s : Slots) (c : OpenCall A) (t : Slots) (d : OpenCall A) : Type 0 where
    pub begun : SameBegun c d
    pub machine : d.machine ≡ fed_with (seen_in s c.machine) c.machine
    pub notes : (q : Bytes) → first_noted (map noted_of d.notes.items) q ≡ noted (touch_in c.machine) (becomes_in s c.machine) (versions_in s) (first_noted (map noted_of c.notes.items)) q
    pub versions : (q : Bytes) → versions_in t q ≡ wrote_key phase c.start (touch_in c.machine) (becomes_in s c.machine) (versions_in s) q
    pub keys : KeepsSlots s t
    pub slots : length t ≡ slots_with (makes_record (versions_in s) (touch_in c.machine) (becomes_in s c.machine)) s

  pub record Advances (phase : Phase) (s : Slots) (c : OpenCall A) (t : Slots) (d : OpenCall A) : Type 0 where
    pub on : ExecutesOne phase s c t d
    pub executed : d.executed ≡ c.executed + 1
