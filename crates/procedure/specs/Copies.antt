-- A call run whole, in the words of the instruction list: one instruction after another on a private copy of the table.
use Rattle.std.specs.Prelude.{◌≡◌, ℕ, ◌==◌, Bool, if◌then◌else◌, List, [], ◌∷◌, ◌++◌, replicate, Option, Some, None, is_some}
use Rattle.procedure.specs.Bytes.{Bytes, Cell}
use Rattle.procedure.specs.Table.{Table, value_at, change_at, with_cell, merged}
use Rattle.procedure.specs.Needs.{Touch, Nothing, Reads, Writes}
use Rattle.procedure.specs.Procedures.{Instruction, touch, Effect, effect}
use Rattle.procedure.specs.Runs.{no_keys, with_key, Front, committed, whole}
use Rattle.procedure.specs.declared.limits.TheConstants.{REGISTERS}
use Rattle.procedure.specs.declared.outcomes.TheConstants.{COMMITTED}

-- a call in its course, with its own copy of the table, and the keys that it put, inserted or deleted
pub record Copy : Type 0 where
  pub registers : List Cell
  pub replies : List Cell
  pub outcome : ℕ
  pub table : Table
  pub written : Bytes → Bool

abbrev pub copy_of : Table → Copy
copy_of t = record { registers = replicate REGISTERS None; replies = []; outcome = COMMITTED; table = t; written = no_keys }

-- what the touched key holds
abbrev pub held_in_copy : Table → Touch → Cell
held_in_copy t Nothing = None
held_in_copy t (Reads k) = value_at t k
held_in_copy t (Writes k) = value_at t k

abbrev pub table_touched : Table → Touch → Option Cell → Table
table_touched t Nothing x = t
table_touched t (Reads k) x = t
table_touched t (Writes k) None = t
table_touched t (Writes k) (Some c) = with_cell t k c

abbrev pub written_after : (Bytes → Bool) → Touch → Option Cell → Bytes → Bool
written_after s Nothing x = s
written_after s (Reads k) x = s
written_after s (Writes k) None = s
written_after s (Writes k) (Some c) = with_key k s

abbrev pub copy_after : Effect → Touch → ℕ → Copy → Copy
copy_after e n outcome s =
    record {
      registers = e.registers;
      replies = s.replies ++ e.reply;
      outcome = outcome;
      table = table_touched s.table n e.becomes;
      written = written_after s.written n e.becomes;
    }

-- the instructions in turn, until one of them ends the call or none is left
abbrev pub carried_out : List Bytes → List Instruction → Copy → Copy
carried_out args [] s = s
carried_out args (i ∷ is) s =
    let n = touch i args s.registers in
    let e = effect i args s.registers (held_in_copy s.table n) in
    elim e.ends [ None ↦ carried_out args is (copy_after e n s.outcome s) | Some c ↦ copy_after e n c s ]

-- what a call that was run whole gives
pub record Run : Type 0 where
  pub outcome : ℕ
  pub replies : List Cell
  pub table : Table
  pub written : Bytes → Bool

-- a call that commits leaves its copy, and any other leaves the table as it was and has written nothing
abbrev pub run_of : Copy → Table → Run
run_of s t =
    record {
      outcome = s.outcome;
      replies = s.replies;
      table = if s.outcome == COMMITTED then s.table else t;
      written = if s.outcome == COMMITTED then s.written else no_keys;
    }

-- the call run whole, alone on the table
unfoldable pub run : List Instruction → List Bytes → Table → Run
run code args t = run_of (carried_out args code (copy_of t)) t

-- the instructions one by one, and what they leave changed, are the run whole
pub record IsRun (f : Front) (t : Table) (r : Run) : Type 0 where
  pub outcome : f.outcome ≡ r.outcome
  pub replies : f.replies ≡ r.replies
  pub table : merged t (committed f) ≡ r.table
  pub written : (q : Bytes) → is_some (change_at (committed f) q) ≡ r.written q

abbrev pub RunsWhole : Type 0
RunsWhole = (code : List Instruction) (args : List Bytes) (t : Table) → IsRun (whole code args t) t (run code args t)
