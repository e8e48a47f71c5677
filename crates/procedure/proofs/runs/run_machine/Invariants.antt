use Rattle.std.proofs.Common.{length, List}
use Rattle.procedure.specs.Procedures.{Instruction}
use Rattle.procedure.specs.Fronts.{IsFront}
use Rattle.procedure.proofs.runs.run_machine.Given as goal

-- each instruction leaves fewer
abbrev pub decreases-loop-outcome : goal.decreases-loop-outcome
decreases-loop-outcome g l = length l.machine.progress.rest

-- what was a front when the loop began is one now
abbrev pub invariant-loop-outcome : goal.invariant-loop-outcome
invariant-loop-outcome g l =
    (code : List Instruction) → IsFront code l.fn.machine.args l.table l.fn.machine l.fn.changes → IsFront code l.fn.machine.args l.table l.machine l.changes
