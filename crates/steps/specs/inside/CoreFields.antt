-- How the fields of a core stand for a state of the machine that a schedule reaches.
use Rattle.std.specs.Prelude.{ℕ, ◌≡◌, ◌<◌, Bool, true, false, ◌||◌, List, [], Option, Some, None, slice_index_or, length, map, reverse}
use Rattle.std.specs.Option.{option_map}
use Rattle.procedure.specs.Bytes.{Bytes}
use Rattle.procedure.specs.declared.limits.TheConstants.{SESSIONS}
use Rattle.procedure.specs.Catalogs.{catalog_fault}
use Rattle.phase.specs.declared.phases.Phase.{Phase}
use Rattle.phase.specs.declared.phases.Phase.TheVariants.{Rest}
use Rattle.commitlog.specs.Histories.{last_number}
use Rattle.image.specs.Merges.{table_of}
use Rattle.image.specs.Openings.{is_opening}
use Rattle.locktable.specs.declared.modes.Mode.{Mode}
use Rattle.locktable.specs.declared.modes.Mode.TheVariants.{Shared, Exclusive}
use Rattle.locktable.specs.Locks.{mode_of}
use Rattle.record_store.specs.ChangedSets.{ChangedSets, has}
use Rattle.steps.specs.inside.SetAside.{AsideIn}
use Rattle.steps.specs.machine.NewestFirst.{before}
use Rattle.steps.specs.CoreViews.{CheckpointView, CoreView, IsSmall, Underway}
use Rattle.steps.specs.inside.RecordEdits.{first_noted, noted_of}
use Rattle.steps.specs.Versions.{versions_in}
use Rattle.steps.specs.inside.CheckpointFields.{IsTracked, spots}
use Rattle.steps.specs.machine.Machine.{Open, State, Runs, initial}
use Rattle.steps.specs.declared.calls.OpenCall.{OpenCall}
use Rattle.steps.specs.declared.checkpoints.Checkpoint.{Checkpoint}
use Rattle.steps.specs.declared.notes.Note.{Note}
use Rattle.steps.specs.declared.cores.Core.TheInside.{Inside}

-- whether a key is in either set
abbrev pub either : ChangedSets → Bytes → Bool
either changed key = has changed.collecting key || has changed.frozen key

-- the lock on a key, of a call that has read or written it, or not
abbrev pub mode_by : (writes reads : Bool) → Option Mode
mode_by true r = Some Exclusive
mode_by false true = Some Shared
mode_by false false = None

-- the lock that a session holds by its call
abbrev pub mode_held : Option Open → Bytes → Option Mode
mode_held None q = None
mode_held (Some o) q = mode_by (o.machine.writes q) (o.machine.reads q)

module _ {A : Type 0} where
  abbrev pub underway : OpenCall A → Underway
  underway c = record { number = c.number; procedure = c.procedure; args = c.machine.args; start = c.start; count = c.executed }

  -- a call that counts as begun at rest
  abbrev pub restarted_call : OpenCall A → OpenCall A
  restarted_call c = record c { start = Rest }

  abbrev pub start_of : Option (OpenCall A) → Option Phase
  start_of o = option_map (λ c. c.start) o

  abbrev pub checkpoint_of : Checkpoint A → CheckpointView
  checkpoint_of k = record { kind = k.kind; way = k.way; scan = k.scan; cursor = k.cursor; bound = k.bound; given = k.given.entries; waiting = k.waiting; header = k.header }

  abbrev pub view_of : Inside A → CoreView
  view_of c =
      record {
        catalog = c.catalog;
        opening = c.opening;
        log = c.log.records;
        calls = map (option_map underway) c.calls.items;
        slots = c.store;
        checkpoint = checkpoint_of c.checkpoint;
      }

  -- a call as it is kept is the machine's
  pub record IsOpen (c : OpenCall A) (o : Open) : Type 0 where
    pub number : o.number ≡ c.number
    pub procedure : o.procedure ≡ c.procedure
    pub args : o.args ≡ c.machine.args
    pub start : o.start ≡ c.start
    pub count : o.count ≡ c.executed
    pub progress : o.machine.progress ≡ c.machine.progress
    pub notes : (q : Bytes) → o.undo q ≡ first_noted (map noted_of c.notes.items) q

  abbrev pub SameCall : Option (OpenCall A) → Option Open → Type 0
  SameCall None None = Unit {0}
  SameCall None (Some o) = ⊥
  SameCall (Some c) None = ⊥
  SameCall (Some c) (Some o) = IsOpen c o

  abbrev pub call_at : Inside A → ℕ → Option (OpenCall A)
  call_at c session = slice_index_or c.calls.items session None

  abbrev pub notes_in : Option (OpenCall A) → List (Note A)
  notes_in None = []
  notes_in (Some c) = c.notes.items

  -- what was noted of the writes of a session's call
  abbrev pub notes_at : List (Option (OpenCall A)) → ℕ → List (Note A)
  notes_at calls session = notes_in (slice_index_or calls session None)

  -- the fields say what the machine's state says
  pub record StandsFor (c : Inside A) (w : State) : Type 0 where
    pub catalog : w.catalog ≡ c.catalog
    pub opening : w.opening ≡ table_of c.opening
    pub log : reverse w.log ≡ c.log.records
    pub calls : (s : ℕ) → SameCall (call_at c s) (w.calls s)
    pub versions : (q : Bytes) → w.versions q ≡ versions_in c.store q
    pub collecting : (q : Bytes) → w.collecting q ≡ has c.changed.collecting q
    pub frozen : (q : Bytes) → w.frozen q ≡ has c.changed.frozen q
    pub locks : (s : ℕ) (q : Bytes) → mode_of c.locks s q ≡ mode_held (w.calls s) q
    pub phase : w.phase ≡ c.phase
    pub checkpoint :
        IsTracked c.checkpoint (spots c.checkpoint.kind c.store c.changed.frozen)
        w.phase w.number w.finished w.kind (length (before w.number w.log)) w.visited w.bound w.given w.images

  pub record IsCore (c : Inside A) : Type 0 where
    pub world : State
    pub run : Runs (initial c.catalog (table_of c.opening)) world
    pub stands : StandsFor c world
    pub lawful : catalog_fault c.catalog ≡ None
    pub opens : is_opening c.opening ≡ true
    pub small : IsSmall c.catalog (table_of c.opening) c.log.records
    pub sessions : length c.calls.items ≡ SESSIONS
    pub tables : length c.locks ≡ SESSIONS
    pub starts : c.active ≡ map start_of c.calls.items
    pub numbers : length c.last.items ≡ SESSIONS
    pub last : (s : ℕ) → s < SESSIONS → slice_index_or c.last.items s None ≡ last_number s c.log.records
    pub aside : AsideIn c.aside c.store (either c.changed) c.locks
