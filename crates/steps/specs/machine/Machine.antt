-- The database as a machine whose steps are those of the engine.
use Rattle.std.specs.Prelude.{◌≡◌, ℕ, suc, ◌==◌, ◌⊎◌, Bool, true, false, cond, ◌||◌, List, [], ◌∷◌, length, slice_get, Option, Some, None, is_some}
use Rattle.commitlog.specs.Cuts.{in_full}
use Rattle.commitlog.specs.Histories.{code_of, Takes, IsAbove}
use Rattle.commitlog.specs.Records.{Record, Token, Call}
use Rattle.image.specs.declared.images.Kind.{Kind}
use Rattle.image.specs.declared.images.Kind.TheVariants.{Full, Partial}
use Rattle.image.specs.Merges.{is_full}
use Rattle.phase.specs.declared.phases.Phase.{Phase}
use Rattle.phase.specs.declared.phases.Phase.TheVariants.{Rest, Prepare, Resolve, Capture, Complete}
use Rattle.procedure.specs.Bytes.{Bytes, Cell, same}
use Rattle.procedure.specs.Needs.{Touch, Nothing, Reads, Writes}
use Rattle.procedure.specs.Procedures.{Procedure}
use Rattle.procedure.specs.Runs.{Front, fed, fresh, has_ended, next_touch, next_becomes, no_keys, with_key}
use Rattle.procedure.specs.Table.{Table, Changes, value_at, change_at, no_changes, with_change}
use Rattle.steps.specs.machine.NewestFirst.{history_table, history_last_number, before, MachineImage}
use Rattle.steps.specs.Versions.{KeyVersions, VersionsByKey, live_version, opened_versions, wrote_key, found, kept_key, undone_key, gives, captured_at}

-- an open call
pub record Open : Type 0 where
  pub number : ℕ
  pub procedure : ℕ
  pub args : List Bytes
  pub start : Phase
  pub count : ℕ
  pub machine : Front
  pub undo : Bytes → Option Cell

abbrev pub CallsBySession : Type 0
CallsBySession = ℕ → Option Open

pub record State : Type 0 where
  pub catalog : List Procedure
  pub opening : Table
  pub log : List Record
  pub calls : CallsBySession
  pub versions : VersionsByKey
  pub collecting : Bytes → Bool
  pub frozen : Bytes → Bool
  pub phase : Phase
  pub number : ℕ
  pub finished : ℕ
  pub kind : Kind
  pub all : Bool
  pub given : Changes
  pub visited : Bytes → Bool
  pub bound : Bytes → Bool
  pub images : List MachineImage

abbrev pub now : State → Table
now w = history_table w.catalog w.opening w.log

-- the call of session s becomes this
abbrev pub put : CallsBySession → ℕ → Option Open → CallsBySession
put calls s o t = cond (t == s) o (calls t)

unfoldable pub initial : List Procedure → Table → State
initial c t =
    record {
      catalog = c;
      opening = t;
      log = [];
      calls = λ s. None;
      versions = λ q. opened_versions (value_at t q);
      collecting = no_keys;
      frozen = no_keys;
      phase = Rest;
      number = 0;
      finished = 0;
      kind = Full;
      all = true;
      given = no_changes;
      visited = no_keys;
      bound = no_keys;
      images = [];
    }

-- calls

abbrev pub note : Option Cell → Cell → Option Cell
note None l = Some l
note (Some x) l = Some x

abbrev pub noted : Touch → Option Cell → VersionsByKey → (Bytes → Option Cell) → Bytes → Option Cell
noted (Writes k) (Some x) vs u = λ q. cond (same q k) (note (u k) (live_version (vs k))) (u q)
noted _ _ vs u = u

-- two calls may both touch the key only by reading
abbrev pub clear : Touch → Front → Type 0
clear Nothing m = Unit {0}
clear (Reads k) m = m.writes k ≡ false
clear (Writes k) m = (m.writes k ≡ false) × (m.reads k ≡ false)

abbrev pub NoConflict : CallsBySession → ℕ → Touch → Type 0
NoConflict calls s n = (t : ℕ) (d : Open) → (t == s) ≡ false → calls t ≡ Some d → clear n d.machine

abbrev pub begun : State → ℕ → ℕ → List Bytes → Open
begun w n p args =
    record { number = n; procedure = p; args = args; start = w.phase; count = 0; machine = fresh (code_of w.catalog p); undo = λ q. None }

abbrev pub begin : State → ℕ → ℕ → ℕ → List Bytes → State
begin w s n p args = record w { calls = put w.calls s (Some (begun w n p args)) }

abbrev pub stepped : VersionsByKey → Open → Open
stepped vs c =
    let n = next_touch c.args c.machine in
    let x = found vs n in
    record c { count = suc c.count; machine = fed c.args c.machine x; undo = noted n (next_becomes c.args c.machine x) vs c.undo }

abbrev pub step : State → ℕ → Open → State
step w s c =
    let n = next_touch c.args c.machine in
    record w {
      calls = put w.calls s (Some (stepped w.versions c));
      versions = wrote_key w.phase c.start n (next_becomes c.args c.machine (found w.versions n)) w.versions;
    }

abbrev pub answer : ℕ → Open → Record
answer s c = Call s c.number c.procedure c.args c.machine.outcome c.machine.replies

abbrev pub commit : State → ℕ → Open → State
commit w s c =
    record w {
      log = answer s c ∷ w.log;
      calls = put w.calls s None;
      versions = λ q. kept_key c.start w.phase (change_at c.machine.changes q) (w.versions q);
      collecting = λ q. is_some (change_at c.machine.changes q) || w.collecting q;
    }

abbrev pub give_up : State → ℕ → Open → State
give_up w s c = record w { calls = put w.calls s None; versions = λ q. undone_key (c.undo q) (w.versions q) }

-- a finish with another outcome than 0
abbrev pub abort : State → ℕ → Open → State
abort w s c = record (give_up w s c) { log = answer s c ∷ w.log }

-- checkpoints

abbrev pub start : State → Kind → State
start w k = record w { log = Token Prepare (suc w.number) ∷ w.log; phase = Prepare; number = suc w.number; kind = k }

abbrev pub resolve : State → State
resolve w = record w { log = Token Resolve w.number ∷ w.log; phase = Resolve; frozen = w.collecting; collecting = no_keys }

-- the keys that a scan has to visit: all that have a record, or the frozen ones
abbrev pub to_visit : Bool → VersionsByKey → (Bytes → Bool) → Bytes → Bool
to_visit true vs frozen q = is_some (vs q)
to_visit false vs frozen q = frozen q

abbrev pub capture : State → Bool → State
capture w all =
    record w { log = Token Capture w.number ∷ w.log; phase = Capture; all = all; given = no_changes; visited = no_keys; bound = to_visit all w.versions w.frozen }

-- a full image keeps what is in_full, a partial one what is given for the frozen keys
abbrev pub keeps : Kind → Bool → Option Cell → Option Cell
keeps Full fro None = None
keeps Full fro (Some x) = in_full x
keeps Partial true x = x
keeps Partial false x = None

abbrev pub give : Changes → Bytes → Option Cell → Changes
give g k None = g
give g k (Some x) = with_change g k x

abbrev pub visit : State → Bytes → KeyVersions → State
visit w k v =
    record w {
      versions = λ q. cond (same q k) (Some (captured_at v.available v)) (w.versions q);
      given = give w.given k (keeps w.kind (w.frozen k) (gives v));
      visited = with_key k w.visited;
    }

abbrev pub base_at : Kind → ℕ → ℕ → ℕ
base_at Full n b = n
base_at Partial n b = b

abbrev pub image : State → MachineImage
image w = record { kind = w.kind; number = w.number; base = base_at w.kind w.number w.finished; place = length (before w.number w.log); entries = w.given }

abbrev pub complete : State → State
complete w = record w { log = Token Complete w.number ∷ w.log; phase = Complete; finished = w.number; frozen = no_keys; images = image w ∷ w.images }

abbrev pub cleaned_versions : Option KeyVersions → Option KeyVersions
cleaned_versions None = None
cleaned_versions (Some v) = Some (record { live = v.live; stable = None; available = false })

abbrev pub rest : State → State
rest w = record w { log = Token Rest w.number ∷ w.log; phase = Rest; versions = λ q. cleaned_versions (w.versions q) }

abbrev pub restarted_open : Option Open → Option Open
restarted_open None = None
restarted_open (Some c) = Some (record c { start = Rest })

abbrev pub abandon : State → State
abandon w =
    record w {
      log = Token Rest w.number ∷ w.log;
      phase = Rest;
      versions = λ q. cleaned_versions (w.versions q);
      calls = λ s. restarted_open (w.calls s);
      collecting = λ q. w.frozen q || w.collecting q;
      frozen = no_keys;
    }

abbrev pub reclaim : State → Bytes → State
reclaim w k = record w { versions = λ q. cond (same q k) None (w.versions q) }

-- schedules

-- every open call started in this phase
abbrev pub AllStarted : Phase → CallsBySession → Type 0
AllStarted p calls = (s : ℕ) (c : Open) → calls s ≡ Some c → c.start ≡ p

pub record MayBegin (w : State) (s n p : ℕ) (args : List Bytes) : Type 0 where
  pub free : w.calls s ≡ None
  pub procedure : Takes (slice_get w.catalog p) (length args)
  pub number : IsAbove (history_last_number s w.log) n

pub record MayStep (w : State) (s : ℕ) (c : Open) : Type 0 where
  pub is : w.calls s ≡ Some c
  pub going : has_ended c.machine ≡ false
  pub clear : NoConflict w.calls s (next_touch c.args c.machine)

pub record MayVisit (w : State) (k : Bytes) (v : KeyVersions) : Type 0 where
  pub phase : w.phase ≡ Capture
  pub is : w.versions k ≡ Some v
  pub unvisited : w.visited k ≡ false

pub record MayReclaim (w : State) (k : Bytes) (v : KeyVersions) : Type 0 where
  pub phase : w.phase ≡ Rest
  pub is : w.versions k ≡ Some v
  pub dead : v.live ≡ None
  pub uncollected : w.collecting k ≡ false
  pub free : (s : ℕ) (c : Open) → w.calls s ≡ Some c → (c.machine.writes k ≡ false) × (c.machine.reads k ≡ false)

-- one accepted step of the engine
pub data Goes : State → State → Type 0 where
  Begins : {w : State} (s n p : ℕ) (args : List Bytes) → MayBegin w s n p args → Goes w (begin w s n p args)
  Steps : {w : State} (s : ℕ) (c : Open) → MayStep w s c → Goes w (step w s c)
  Commits : {w : State} (s : ℕ) (c : Open) → w.calls s ≡ Some c → has_ended c.machine ≡ true → c.machine.outcome ≡ 0 → Goes w (commit w s c)
  Aborts : {w : State} (s : ℕ) (c : Open) → w.calls s ≡ Some c → has_ended c.machine ≡ true → (c.machine.outcome == 0) ≡ false → Goes w (abort w s c)
  Gives_up : {w : State} (s : ℕ) (c : Open) → w.calls s ≡ Some c → Goes w (give_up w s c)
  Starts : {w : State} (k : Kind) → w.phase ≡ Rest → Goes w (start w k)
  Resolves : {w : State} → w.phase ≡ Prepare → AllStarted Prepare w.calls → Goes w (resolve w)
  Captures : {w : State} (all : Bool) → w.phase ≡ Resolve → AllStarted Resolve w.calls → all ≡ is_full w.kind → Goes w (capture w all)
  Visits : {w : State} (k : Bytes) (v : KeyVersions) → MayVisit w k v → Goes w (visit w k v)
  Completes : {w : State} → w.phase ≡ Capture → ((q : Bytes) → w.bound q ≡ true → w.visited q ≡ true) → Goes w (complete w)
  Rests : {w : State} → w.phase ≡ Complete → AllStarted Complete w.calls → Goes w (rest w)
  Reclaims : {w : State} (k : Bytes) (v : KeyVersions) → MayReclaim w k v → Goes w (reclaim w k)
  Abandons : {w : State} → (w.phase ≡ Resolve) ⊎ (w.phase ≡ Capture) → Goes w (abandon w)

-- a schedule
pub data Runs (a : State) : State → Type 0 where
  none : Runs a a
  more : {w x : State} → Runs a w → Goes w x → Runs a x
