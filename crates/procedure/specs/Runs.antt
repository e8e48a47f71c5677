-- A call that runs alone on a table, instruction by instruction.
use Rattle.std.specs.Prelude.{◌≡◌, ◌≤◌, ◌⊎◌, ℕ, zero, suc, ◌==◌, Bool, true, false, if◌then◌else◌, ◌||◌, List, [], ◌∷◌, ◌++◌, length, replicate, Option, Some, None, unwrap_or}
use Rattle.procedure.specs.Bytes.{Bytes, Cell, same}
use Rattle.procedure.specs.Table.{Table, Changes, value_at, change_at, changed_or, no_changes, with_change}
use Rattle.procedure.specs.Needs.{Need, ended_with, Touch, Nothing, Reads, Writes, touch_of, becomes_of}
use Rattle.procedure.specs.Procedures.{Instruction, need, touch, Effect, effect}
use Rattle.procedure.specs.declared.limits.TheConstants.{REGISTERS}
use Rattle.procedure.specs.declared.outcomes.TheConstants.{COMMITTED, NO_VALUE, FIRST_ABORT}

-- how far a call came: the instructions that are left, none once it has ended, its registers, its replies, its outcome
pub record Progress : Type 0 where
  pub rest : List Instruction
  pub registers : List Cell
  pub replies : List Cell
  pub outcome : ℕ

abbrev pub at_start : List Instruction → Progress
at_start code = record { rest = code; registers = replicate REGISTERS None; replies = []; outcome = COMMITTED }

abbrev pub need_at : List Bytes → Progress → List Instruction → Need Bytes
need_at args p [] = ended_with p.outcome
need_at args p (i ∷ is) = need i args p.registers

-- what the next instruction asks for, or how the call ended
unfoldable pub next_need : List Bytes → Progress → Need Bytes
next_need args p = need_at args p p.rest

abbrev pub rest_after : Option ℕ → List Instruction → List Instruction
rest_after None is = is
rest_after (Some c) is = []

abbrev pub moved : Effect → List Instruction → Progress → Progress
moved e is p = record { rest = rest_after e.ends is; registers = e.registers; replies = p.replies ++ e.reply; outcome = unwrap_or e.ends p.outcome }

abbrev pub advanced_at : List Bytes → Progress → Cell → List Instruction → Progress
advanced_at args p found [] = p
advanced_at args p found (i ∷ is) = moved (effect i args p.registers found) is p

-- after the next instruction, where its key holds `found`; a call that has ended stays as it is
unfoldable pub advanced : List Bytes → Progress → Cell → Progress
advanced args p found = advanced_at args p found p.rest

abbrev pub is_nil : List Instruction → Bool
is_nil [] = true
is_nil (i ∷ is) = false

-- the arguments and the progress of a call: what contracts see of a machine
pub record Execution : Type 0 where
  pub args : List Bytes
  pub progress : Progress

-- the first instructions of a call: how far they came, which keys they read, which they asked to write, and what they changed
pub record Front : Type 0 where
  pub progress : Progress
  pub open progress use *
  pub reads : Bytes → Bool
  pub writes : Bytes → Bool
  pub changes : Changes

abbrev pub no_keys : Bytes → Bool
no_keys q = false

abbrev pub with_key : Bytes → (Bytes → Bool) → Bytes → Bool
with_key k s q = same q k || s q

abbrev pub fresh : List Instruction → Front
fresh code = record { progress = at_start code; reads = no_keys; writes = no_keys; changes = no_changes }

abbrev pub touch_at : List Bytes → Front → List Instruction → Touch
touch_at args f [] = Nothing
touch_at args f (i ∷ is) = touch i args f.registers

-- the key that comes next
unfoldable pub next_touch : List Bytes → Front → Touch
next_touch args f = touch_at args f f.rest

abbrev pub reads_after : Touch → (Bytes → Bool) → Bytes → Bool
reads_after Nothing s = s
reads_after (Reads k) s = with_key k s
reads_after (Writes k) s = s

abbrev pub writes_after : Touch → (Bytes → Bool) → Bytes → Bool
writes_after Nothing s = s
writes_after (Reads k) s = s
writes_after (Writes k) s = with_key k s

abbrev pub change_to : Changes → Bytes → Option Cell → Changes
change_to c k None = c
change_to c k (Some x) = with_change c k x

abbrev pub changes_after : Touch → Option Cell → Changes → Changes
changes_after Nothing x c = c
changes_after (Reads k) x c = c
changes_after (Writes k) x c = change_to c k x

abbrev pub did : Effect → Touch → List Instruction → Front → Front
did e n is f =
    record {
      progress = moved e is f.progress;
      reads = reads_after n f.reads;
      writes = writes_after n f.writes;
      changes = changes_after n e.becomes f.changes;
    }

abbrev pub fed_at : List Bytes → Front → Cell → List Instruction → Front
fed_at args f found [] = f
fed_at args f found (i ∷ is) = did (effect i args f.registers found) (touch i args f.registers) is f

-- one instruction, where its key holds `found`
unfoldable pub fed : List Bytes → Front → Cell → Front
fed args f found = fed_at args f found f.rest

abbrev pub becomes_at : List Bytes → Front → Cell → List Instruction → Option Cell
becomes_at args f found [] = None
becomes_at args f found (i ∷ is) = (effect i args f.registers found).becomes

-- what the next instruction's key becomes
unfoldable pub next_becomes : List Bytes → Front → Cell → Option Cell
next_becomes args f found = becomes_at args f found f.rest

-- what the next instruction's key holds: the call's own change, or else what stands in the table
abbrev pub seen_at : Changes → Table → Touch → Cell
seen_at c t Nothing = None
seen_at c t (Reads k) = changed_or (change_at c k) (value_at t k)
seen_at c t (Writes k) = changed_or (change_at c k) (value_at t k)

-- the outcome, where the call has ended
abbrev pub ended : Progress → Option ℕ
ended p = if is_nil p.rest then Some p.outcome else None

-- one instruction of a call that has made these changes, alone on the table: how far it came, and its changes
unfoldable pub advanced_alone : List Bytes → Table → Progress → Changes → Progress
advanced_alone args t p c = advanced args p (seen_at c t (touch_of (next_need args p)))

unfoldable pub changes_alone : List Bytes → Table → Progress → Changes → Changes
changes_alone args t p c = let n = next_need args p in changes_after (touch_of n) (becomes_of n (seen_at c t (touch_of n))) c

-- the first m instructions, alone on the table
unfoldable pub front : List Instruction → List Bytes → Table → ℕ → Front
front code args t zero = fresh code
front code args t (suc m) = let f = front code args t m in fed args f (seen_at f.changes t (next_touch args f))

-- the keys that were touched, by reading or by writing
abbrev pub touched : Front → Bytes → Bool
touched f q = f.reads q || f.writes q

abbrev pub has_ended : Front → Bool
has_ended f = is_nil f.rest

-- all instructions, alone on the table
abbrev pub whole : List Instruction → List Bytes → Table → Front
whole code args t = front code args t (length code)

-- what a call that ended leaves changed: all that it changed where it commits, and else nothing
abbrev pub committed : Front → Changes
committed f = if f.outcome == COMMITTED then f.changes else no_changes

-- a run of m instructions depends on the table only at the keys that it touches
abbrev pub DependsOnTouched : Type 0
DependsOnTouched =
    (code : List Instruction) (args : List Bytes) (t u : Table) (m : ℕ) → ((q : Bytes) → touched (front code args t m) q ≡ true → value_at t q ≡ value_at u q) →
    front code args t m ≡ front code args u m

-- all instructions end the call, and a run that has ended is the whole run
abbrev pub EndsWhole : Type 0
EndsWhole =
    (code : List Instruction) (args : List Bytes) (t : Table) →
    (has_ended (whole code args t) ≡ true) × ((m : ℕ) → has_ended (front code args t m) ≡ true → whole code args t ≡ front code args t m)

-- the key of a need becomes what the instruction makes of it
abbrev pub SaysWhatItWrites : Type 0
SaysWhatItWrites =
    (i : Instruction) (args : List Bytes) (registers : List Cell) (found : Cell) →
    (effect i args registers found).becomes ≡ becomes_of (need i args registers) found

-- 0 to 6, or from 16 on
abbrev pub IsOutcome : ℕ → Type 0
IsOutcome n = (n ≤ NO_VALUE) ⊎ (FIRST_ABORT ≤ n)
