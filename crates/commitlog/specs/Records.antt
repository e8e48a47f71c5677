-- The records of a log.
use Rattle.std.specs.Prelude.{◌≤◌, ◌<◌, ℕ, List, length}
use Rattle.procedure.specs.Bytes.{Bytes, Cell}
use Rattle.procedure.specs.Runs.{IsOutcome}
use Rattle.procedure.specs.declared.instructions.Call.{Call as CodeCall}
use Rattle.procedure.specs.declared.limits.TheConstants.{SESSIONS, PROCEDURES, ARGUMENTS}
use Rattle.phase.specs.declared.phases.Phase.{Phase}
use Rattle.commitlog.specs.declared.records.Entry.{Entry}
use Rattle.commitlog.specs.declared.records.Entry.TheVariants as entry
use Rattle.commitlog.specs.declared.limits.TheConstants.{REPLIES}

-- a checkpoint enters a phase, or a session's call was answered
pub data Record : Type 0 where
  Token : Phase → ℕ → Record
  Call : (session number procedure : ℕ) → List Bytes → (outcome : ℕ) → List Cell → Record

abbrev pub call_of : {A : Type 0} → CodeCall A → ℕ → List Cell → Record
call_of call outcome replies = Call call.session call.number call.procedure call.args outcome replies

abbrev pub record_of : {A : Type 0} → Entry A → Record
record_of (entry.Token p n) = Token p n
record_of (entry.Call o call r) = call_of call o r

-- the ranges of a call: its session, its procedure, how many arguments, its outcome, and how many replies
abbrev pub AreInRange : (session procedure arguments outcome replies : ℕ) → Type 0
AreInRange s p arguments o replies = (s < SESSIONS) × (p < PROCEDURES) × (arguments ≤ ARGUMENTS) × IsOutcome o × (replies ≤ REPLIES)

-- the ranges of a record
abbrev pub IsInRange : Record → Type 0
IsInRange (Token p n) = Unit {0}
IsInRange (Call s n p args o r) = AreInRange s p (length args) o (length r)
