-- Who holds what.
use Rattle.std.specs.Prelude.{◌≡◌, ◌≢◌, ℕ, List, Option, Some, None, slice_index_or, slice_set}
use Rattle.std.specs.FinMap as map
use Rattle.procedure.specs.Bytes.{Bytes}
use Rattle.procedure.specs.Table.{KeyMap}
use Rattle.locktable.specs.Modes.{Mode, Exclusive, Excludes}

-- for each session, the keys that it holds and in which mode
abbrev pub Locks : Type 0
Locks = List (KeyMap Mode)

-- what a session holds
abbrev pub locks_of : Locks → ℕ → KeyMap Mode
locks_of locks session = slice_index_or locks session map.empty

-- in which mode, if any, a session holds a key
abbrev pub mode_of : Locks → ℕ → Bytes → Option Mode
mode_of locks session key = map.get (locks_of locks session) key

-- a map, where a key has this, or nothing
abbrev pub with_entry : {V : Type 0} → KeyMap V → Bytes → Option V → KeyMap V
with_entry m key None = map.remove m key
with_entry m key (Some value) = map.insert m key value

-- the locks, where a session holds a key so, or not at all
abbrev pub with_lock : Locks → ℕ → Bytes → Option Mode → Locks
with_lock locks session key mode = slice_set locks session (with_entry (locks_of locks session) key mode)

-- the locks, where a session holds none
abbrev pub without_locks : Locks → ℕ → Locks
without_locks locks session = slice_set locks session map.empty

-- another session's lock on the key excludes one in this mode
abbrev pub Conflicts : Locks → ℕ → Bytes → Mode → Type 0
Conflicts locks session key mode = (other : ℕ) × (held : Mode) × (other ≢ session) × (mode_of locks other key ≡ Some held) × Excludes mode held

-- no session holds the key
abbrev pub IsFree : Locks → Bytes → Type 0
IsFree locks key = (session : ℕ) → mode_of locks session key ≡ None

-- beside a session that holds a key to write, no other holds it
abbrev pub IsConsistent : Locks → Type 0
IsConsistent locks = (key : Bytes) (writer other : ℕ) → mode_of locks writer key ≡ Some Exclusive → other ≢ writer → mode_of locks other key ≡ None
