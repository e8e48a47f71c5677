use Rattle.std.proofs.Common.{length, List}
use Rattle.procedure.specs.Procedures.{Instruction}
use Rattle.procedure.specs.Table.{Table}
use Rattle.procedure.specs.Carried.{IsCarried}
use Rattle.procedure.proofs.runs.carry_out.Given as goal

-- each instruction leaves fewer
abbrev pub decreases-loop-outcome : goal.decreases-loop-outcome
decreases-loop-outcome g l = length l.machine.progress.rest

-- what was a part of a run when the loop began is one now
abbrev pub invariant-loop-outcome : goal.invariant-loop-outcome
invariant-loop-outcome g l =
    (code : List Instruction) (t : Table) → IsCarried code l.fn.machine.args t l.fn.machine l.fn.table l.fn.before.items → IsCarried code l.fn.machine.args t l.machine l.table l.before.items
