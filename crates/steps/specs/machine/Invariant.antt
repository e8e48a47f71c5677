-- What holds between the machine's steps.
use Rattle.std.specs.Prelude.{◌≡◌, ℕ, ◌≤◌, Bool, true, false, cond, ◌||◌, ◌&&◌, not, List, [], ◌∷◌, length, Option, Some, None, is_some, slice_get, ◌==◌}
use Rattle.commitlog.specs.Histories.{code_of, Takes, IsAbove}
use Rattle.commitlog.specs.Records.{Record}
use Rattle.image.specs.declared.images.Kind.{Kind}
use Rattle.image.specs.declared.images.Kind.TheVariants.{Full, Partial}
use Rattle.phase.specs.declared.phases.Phase.{Phase}
use Rattle.phase.specs.declared.phases.Phase.TheVariants.{Rest, Prepare, Resolve, Capture, Complete}
use Rattle.procedure.specs.Bytes.{Bytes, Cell}
use Rattle.procedure.specs.Procedures.{Procedure}
use Rattle.procedure.specs.Runs.{Front, front}
use Rattle.procedure.specs.Table.{Table, Changes, value_at, change_at}
use Rattle.steps.specs.machine.NewestFirst.{IsLegalHistory, IsOrderlyHistory, IsCyclicHistory, history_phase, history_number, history_last_finished, history_last_number, before, history_resolves, at, since, MachineImage, IsCut}
use Rattle.steps.specs.machine.Machine.{Open, CallsBySession, State, now, keeps}
use Rattle.steps.specs.Versions.{KeyVersions, VersionsByKey, live_version, undo_of}
use Rattle.steps.specs.Refusals.{is_cutting}
pub use Rattle.steps.specs.Statuses.{StatusAtCapture, StatusAtComplete, StatusAtPrepare, StatusAtResolve, StatusAtRest}

pub record Lawful (cat : List Procedure) (t : Table) (h : List Record) (p : Phase) (n f : ℕ) : Type 0 where
  pub legal : IsLegalHistory cat t h
  pub orderly : IsOrderlyHistory h
  pub cyclic : IsCyclicHistory h
  pub phase : history_phase h ≡ p
  pub number : history_number h ≡ n
  pub finished : history_last_finished h ≡ f

-- an open call is its run alone on the table as it is now
pub record IsAlone (cat : List Procedure) (t : Table) (c : Open) : Type 0 where
  pub machine : c.machine ≡ front (code_of cat c.procedure) c.args t c.count
  pub undo : (q : Bytes) → c.undo q ≡ undo_of (change_at c.machine.changes q) (value_at t q)

pub record MayFinish (cat : List Procedure) (h : List Record) (s : ℕ) (c : Open) : Type 0 where
  pub procedure : Takes (slice_get cat c.procedure) (length c.args)
  pub number : IsAbove (history_last_number s h) c.number

abbrev pub Machines : List Procedure → Table → CallsBySession → Type 0
Machines cat t calls = (s : ℕ) (c : Open) → calls s ≡ Some c → IsAlone cat t c

abbrev pub Finishing : List Procedure → List Record → CallsBySession → Type 0
Finishing cat h calls = (s : ℕ) (c : Open) → calls s ≡ Some c → MayFinish cat h s c

abbrev pub IsApart : Front → Front → Type 0
IsApart c d = (q : Bytes) → c.writes q ≡ true → (d.writes q ≡ false) × (d.reads q ≡ false)

abbrev pub Apart : CallsBySession → Type 0
Apart calls = (s : ℕ) (c : Open) → calls s ≡ Some c → (u : ℕ) (d : Open) → calls u ≡ Some d → (s == u) ≡ false → IsApart c.machine d.machine

abbrev pub Unchanged : CallsBySession → Bytes → Type 0
Unchanged calls q = (s : ℕ) (c : Open) → calls s ≡ Some c → change_at c.machine.changes q ≡ None

pub record Lives (t : Table) (calls : CallsBySession) (vs : VersionsByKey) : Type 0 where
  pub own : (s : ℕ) (c : Open) → calls s ≡ Some c → (q : Bytes) (x : Cell) → change_at c.machine.changes q ≡ Some x → (v : KeyVersions) × (vs q ≡ Some v) × (v.live ≡ x)
  pub table : (q : Bytes) → Unchanged calls q → live_version (vs q) ≡ value_at t q

-- which start phases open calls have
abbrev pub starts : Phase → Phase → Bool
starts Rest Rest = true
starts Rest Complete = true
starts Prepare Rest = true
starts Prepare Complete = true
starts Prepare Prepare = true
starts Resolve Prepare = true
starts Resolve Resolve = true
starts Capture Resolve = true
starts Capture Capture = true
starts Complete Resolve = true
starts Complete Capture = true
starts Complete Complete = true
starts _ _ = false

abbrev pub Started : Phase → CallsBySession → Type 0
Started p calls = (s : ℕ) (c : Open) → calls s ≡ Some c → starts p c.start ≡ true

-- a call that started in prepare has changed the key
abbrev pub Held : CallsBySession → Bytes → Type 0
Held calls q = (s : ℕ) × (c : Open) × (calls s ≡ Some c) × (c.start ≡ Prepare) × (is_some (change_at c.machine.changes q) ≡ true)

-- no call that started in prepare has changed the key
abbrev pub Early : CallsBySession → Bytes → Type 0
Early calls q = (s : ℕ) (c : Open) → calls s ≡ Some c → c.start ≡ Prepare → change_at c.machine.changes q ≡ None

-- The status of a record. U says that no open call has changed the key, H that one from prepare has, E that none from prepare has
abbrev pub status : Phase → (a b : Cell) (visited frozen : Bool) (U H E : Type 0) → Option KeyVersions → Type 0
status Rest a b vis fro U H E (Some v) = StatusAtRest v.available v.stable
status Prepare a b vis fro U H E (Some v) = StatusAtPrepare a H E v.available v.stable
status Resolve a b vis fro U H E None = b ≡ None
status Resolve a b vis fro U H E (Some v) = StatusAtResolve a b U H v.available v.stable
status Capture a b vis fro U H E None = b ≡ None
status Capture a b vis fro U H E (Some v) = StatusAtCapture a b vis fro U v.available v.stable
status Complete a b vis fro U H E (Some v) = StatusAtComplete vis v.available v.stable
status _ a b vis fro U H E None = Unit {0}

-- the scan has gone past the key: visited, or not among those that a scan of all has to visit
abbrev pub passed : Bool → (visited bound : Bytes → Bool) → Bytes → Bool
passed all visited bound q = visited q || (all && not (bound q))

-- t is the table now, and u that at the token
abbrev pub Statuses : Phase → (t u : Table) → CallsBySession → VersionsByKey → (visited frozen : Bytes → Bool) → Type 0
Statuses p t u calls vs visited frozen =
    (q : Bytes) → status p (value_at t q) (value_at u q) (visited q) (frozen q) (Unchanged calls q) (Held calls q) (Early calls q) (vs q)

-- the keys of both sets have records
abbrev pub Recorded : VersionsByKey → (collecting frozen : Bytes → Bool) → Type 0
Recorded vs collecting frozen = (q : Bytes) → (collecting q || frozen q) ≡ true → is_some (vs q) ≡ true

-- which keys the two sets have. Where a checkpoint n has a cut, the collecting set begins there, and the frozen one ends there
pub record Gathers (c : List Procedure) (t : Table) (h : List Record) (f : ℕ) (col fro : Bytes → Bool) : Type 0 where
  pub collecting : (q : Bytes) → col q ≡ since c t f h q
  pub frozen : (q : Bytes) → fro q ≡ false

pub record Cuts (c : List Procedure) (t : Table) (h : List Record) (n f : ℕ) (col fro : Bytes → Bool) : Type 0 where
  pub collecting : (q : Bytes) → col q ≡ since c t n h q
  pub frozen : (q : Bytes) → fro q ≡ since c t f (before n h) q
  pub split : (q : Bytes) → since c t f h q ≡ (since c t f (before n h) q || since c t n h q)
  pub base : history_last_finished (before n h) ≡ f
  pub inner : before f (before n h) ≡ before f h

abbrev pub Sets : Bool → List Procedure → Table → List Record → ℕ → ℕ → (col fro : Bytes → Bool) → Type 0
Sets true c t h n f col fro = Cuts c t h n f col fro
Sets false c t h n f col fro = Gathers c t h f col fro

-- what was captured so far; u is the table at the token
pub record ScanKeeps (kind : Kind) (u : Table) (visited bound frozen : Bytes → Bool) (given : Changes) : Type 0 where
  pub entries : (q : Bytes) → change_at given q ≡ cond (visited q) (keeps kind (frozen q) (Some (value_at u q))) None
  pub full : kind ≡ Full → (q : Bytes) → bound q ≡ false → value_at u q ≡ None
  pub covers : (q : Bytes) → frozen q ≡ true → bound q ≡ true

abbrev pub ScanKeepsIn : Phase → Kind → Table → (visited bound frozen : Bytes → Bool) → Changes → Type 0
ScanKeepsIn Capture kind u visited bound frozen given = ScanKeeps kind u visited bound frozen given
ScanKeepsIn Complete kind u visited bound frozen given = (q : Bytes) → bound q ≡ true → visited q ≡ true
ScanKeepsIn _ kind u visited bound frozen given = Unit {0}

-- a finished image
pub record IsFinishedImage (c : List Procedure) (t : Table) (h : List Record) (f : ℕ) (i : MachineImage) : Type 0 where
  pub cut : IsCut c t (before i.number h) i.kind i
  pub number : i.number ≤ f
  pub base : i.base ≤ f
  pub resolved : history_resolves i.number h
  pub inner : i.kind ≡ Partial → before i.base (before i.number h) ≡ before i.base h

abbrev pub AllFinished : List Procedure → Table → List Record → ℕ → List MachineImage → Type 0
AllFinished c t h f [] = Unit {0}
AllFinished c t h f (i ∷ is) = IsFinishedImage c t h f i × AllFinished c t h f is

-- all that holds between two steps
pub record Invariant (w : State) : Type 0 where
  pub lawful : Lawful w.catalog w.opening w.log w.phase w.number w.finished
  pub machines : Machines w.catalog (now w) w.calls
  pub finishing : Finishing w.catalog w.log w.calls
  pub apart : Apart w.calls
  pub lives : Lives (now w) w.calls w.versions
  pub started : Started w.phase w.calls
  pub statuses : Statuses w.phase (now w) (at w.catalog w.opening w.number w.log) w.calls w.versions (passed w.all w.visited w.bound) w.frozen
  pub recorded : Recorded w.versions w.collecting w.frozen
  pub sets : Sets (is_cutting w.phase) w.catalog w.opening w.log w.number w.finished w.collecting w.frozen
  pub scan : ScanKeepsIn w.phase w.kind (at w.catalog w.opening w.number w.log) w.visited w.bound w.frozen w.given
  pub images : AllFinished w.catalog w.opening w.log w.finished w.images
