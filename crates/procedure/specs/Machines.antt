-- How the fields of a machine stand for the execution of a call.
use Rattle.std.specs.Prelude.{◌+◌, ◌≤◌, count_by, length, drop, vec_capacity}
use Rattle.procedure.specs.Procedures.{is_read}
use Rattle.procedure.specs.Runs.{Execution}
use Rattle.procedure.specs.declared.machines.Machine.TheInside.{Inside}

-- the instructions from the place on are left
abbrev pub execution_of : {A : Type 0} → Inside A → Execution
execution_of m =
    record {
      args = m.args;
      progress = record { rest = drop m.place m.code; registers = m.registers; replies = m.replies.items; outcome = m.outcome };
    }

-- the place is within the code, and there is room for a reply of each read that is left
pub record IsRunning {A : Type 0} (m : Inside A) : Type 0 where
  pub within : m.place ≤ length m.code
  pub room : length m.replies.items + count_by is_read (drop m.place m.code) ≤ vec_capacity m.replies
