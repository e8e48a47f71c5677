-- What contracts see of a core.
use Rattle.std.specs.Prelude.{ℕ, suc, ◌≡◌, ◌==◌, Bool, false, ◌||◌, if◌then◌else◌, ◌++◌, ◌∷◌, [], length, List, Option, Some, None, slice_index_or, slice_set, take, ◌≤◌}
use Rattle.std.specs.FinMap as fin
use Rattle.procedure.specs.Bytes.{Bytes, Cell}
use Rattle.procedure.specs.Procedures.{Procedure}
use Rattle.procedure.specs.Runs.{Front, front, has_ended, next_becomes, next_touch, touched}
use Rattle.procedure.specs.Needs.{Touch, Nothing, Reads, Writes}
use Rattle.procedure.specs.Table.{Table, change_at, value_at}
use Rattle.phase.specs.declared.phases.Phase.{Phase}
use Rattle.commitlog.specs.Records.{Record, Call}
use Rattle.procedure.specs.declared.outcomes.TheConstants.{COMMITTED}
use Rattle.commitlog.specs.Histories.{after, code_of, phase_of}
use Rattle.image.specs.Images.{Image}
use Rattle.image.specs.declared.headers.Header.{Header}
use Rattle.image.specs.declared.images.Kind.{Kind}
use Rattle.image.specs.Merges.{table_of}
use Rattle.record_store.specs.Stores.{Slots, key_at}
use Rattle.record_store.specs.declared.limits.TheConstants.{STORE_RECORDS}
use Rattle.steps.specs.Versions.{versions_in, undo_of, KeyVersions, found, kept_key, makes_record, slots_with, undone_key, wrote_key}
use Rattle.steps.specs.declared.checkpoints.Way.{Way}
use Rattle.steps.specs.declared.step.Stepped.{Stepped}
use Rattle.steps.specs.declared.step.Stepped.TheVariants.{Ran, Ready}

-- a session's open call, and how many of its instructions were executed
pub record Underway : Type 0 where
  pub number : ℕ
  pub procedure : ℕ
  pub args : List Bytes
  pub start : Phase
  pub count : ℕ

-- the checkpoint that runs, or the last one that ran: its kind and its way; of the last scan its kind, the place that it visits next, the
-- one that ends it, and what it gave for the image, key by key; and the image, or the header of a streamed one, once it is finished and until it is
-- taken
pub record CheckpointView : Type 0 where
  pub kind : Kind
  pub way : Way
  pub scan : Kind
  pub cursor : ℕ
  pub bound : ℕ
  pub given : List (Bytes × Cell)
  pub waiting : Option Image
  pub header : Option Header

pub record CoreView : Type 0 where
  pub catalog : List Procedure
  pub opening : Image
  pub log : List Record
  pub calls : List (Option Underway)
  pub slots : Slots
  pub checkpoint : CheckpointView

-- at most 100,000 keys after every front of a log
abbrev pub IsSmall : List Procedure → Table → List Record → Type 0
IsSmall c t l = (k : ℕ) → fin.len (after c t (take k l)) ≤ STORE_RECORDS

-- a session's open call, if there is one
abbrev pub open_at : CoreView → ℕ → Option Underway
open_at v session = slice_index_or v.calls session None

-- the core, where a session's call is this, or none is open
abbrev pub with_call : CoreView → ℕ → Option Underway → CoreView
with_call v session call = record v { calls = slice_set v.calls session call }

-- the table after the calls of the log
abbrev pub table_now : CoreView → Table
table_now v = after v.catalog (table_of v.opening) v.log

-- an open call's instructions so far, run alone on that table
abbrev pub front_of : CoreView → Underway → Front
front_of v c = front (code_of v.catalog c.procedure) c.args (table_now v) c.count

-- the key that comes next in an open call
abbrev pub touch_next : CoreView → Underway → Touch
touch_next v c = next_touch c.args (front_of v c)

-- what the record of that key holds, and what it becomes
abbrev pub seen_next : CoreView → Underway → Cell
seen_next v c = found (versions_in v.slots) (touch_next v c)

abbrev pub becomes_next : CoreView → Underway → Option Cell
becomes_next v c = next_becomes c.args (front_of v c) (seen_next v c)

-- has an open call touched the key, and not both by reading?
abbrev pub bars : CoreView → Touch → Underway → Bool
bars v Nothing d = false
bars v (Reads k) d = (front_of v d).writes k
bars v (Writes k) d = touched (front_of v d) k

abbrev pub any_open : (Underway → Bool) → List (Option Underway) → Bool
any_open p [] = false
any_open p (None ∷ calls) = any_open p calls
any_open p (Some c ∷ calls) = p c || any_open p calls

-- does the call of another session bar a session's touch?
abbrev pub is_barred : CoreView → (session : ℕ) → Touch → Bool
is_barred v session n = any_open (bars v n) (slice_set v.calls session None)

-- what a call's changes replaced: what the table holds at the keys that it changed
abbrev pub replaced : CoreView → Underway → Bytes → Option Cell
replaced v c q = undo_of (change_at (front_of v c).changes q) (value_at (table_now v) q)

-- all but the calls and the versions stay
pub record SameBut (old new : CoreView) (s : ℕ) (call : Option Underway) : Type 0 where
  pub catalog : new.catalog ≡ old.catalog
  pub opening : new.opening ≡ old.opening
  pub checkpoint : new.checkpoint ≡ old.checkpoint
  pub calls : new.calls ≡ slice_set old.calls s call

-- what holds of a session's open call
abbrev pub OfOpen : CoreView → ℕ → (Underway → Type 0) → Type 0
OfOpen v s P = (c : Underway) → open_at v s ≡ Some c → P c

-- the call, after one instruction more
abbrev pub one_more : Underway → Underway
one_more c = record c { count = suc c.count }

-- each key keeps its slot
abbrev pub KeysStay : Slots → Slots → Type 0
KeysStay old new = (slot : ℕ) (key : Bytes) → key_at old slot ≡ Some key → key_at new slot ≡ Some key

-- each slot has the key that it had, or is vacant as it was
abbrev pub SameKeys : Slots → Slots → Type 0
SameKeys old new = (slot : ℕ) → key_at new slot ≡ key_at old slot

-- must the next instruction make a record of its key?
abbrev pub makes_next : CoreView → Underway → Bool
makes_next v c = makes_record (versions_in v.slots) (touch_next v c) (becomes_next v c)

-- one instruction more of the call: the key that it touches becomes what it makes of it
pub record Steps (old new : CoreView) (s : ℕ) (c : Underway) : Type 0 where
  pub same : SameBut old new s (Some (one_more c))
  pub log : new.log ≡ old.log
  pub slots : length new.slots ≡ slots_with (makes_next old c) old.slots
  pub keys : KeysStay old.slots new.slots
  pub versions : (q : Bytes) → versions_in new.slots q ≡ wrote_key (phase_of old.log) c.start (touch_next old c) (becomes_next old c) (versions_in old.slots) q

-- how a step is answered: whether instructions are left
abbrev pub stepped_as : Front → Stepped
stepped_as f = if has_ended f then Ready else Ran

-- the call is gone, and the keys that it changed hold what they held before it
pub record GivesUp (old new : CoreView) (s : ℕ) : Type 0 where
  pub same : SameBut old new s None
  pub log : new.log ≡ old.log
  pub slots : length new.slots ≡ length old.slots
  pub keys : SameKeys old.slots new.slots
  pub versions : OfOpen old s (λ c. (q : Bytes) → versions_in new.slots q ≡ undone_key (replaced old c q) (versions_in old.slots q))

-- what is said in the log of a call that ended
abbrev pub answer_of : CoreView → ℕ → Underway → Record
answer_of v s c = Call s c.number c.procedure c.args (front_of v c).outcome (front_of v c).replies

-- the versions after a call's end: its writes are kept where it commits, and else the keys hold what they held before it
abbrev pub settled : CoreView → Underway → Bytes → Option KeyVersions
settled v c q =
    if (front_of v c).outcome == COMMITTED
    then kept_key c.start (phase_of v.log) (replaced v c q) (versions_in v.slots q)
    else undone_key (replaced v c q) (versions_in v.slots q)

-- the call is gone, with its record at the end of the log
pub record Finishes (old new : CoreView) (s : ℕ) (c : Underway) : Type 0 where
  pub same : SameBut old new s None
  pub log : new.log ≡ old.log ++ answer_of old s c ∷ []
  pub slots : length new.slots ≡ length old.slots
  pub keys : SameKeys old.slots new.slots
  pub versions : (q : Bytes) → versions_in new.slots q ≡ settled old c q

-- the answer gives the place of that record, and what it says
abbrev pub AnswersCall : CoreView → Underway → (place outcome : ℕ) → (replies : List Cell) → Type 0
AnswersCall v c place outcome replies = (place ≡ length v.log) × (outcome ≡ (front_of v c).outcome) × (replies ≡ (front_of v c).replies)

-- what a begin opened a call with
pub record Begun : Type 0 where
  pub number : ℕ
  pub procedure : ℕ
  pub args : List Bytes
