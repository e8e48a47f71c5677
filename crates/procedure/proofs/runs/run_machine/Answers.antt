use Rattle.std.proofs.Common.{◌≡◌, Some, sym, ◌∙◌, ap, subst, length, ◌<◌}
use Rattle.procedure.specs.Runs.{Progress, ended}
use Rattle.procedure.proofs.Fronts.{front_step, front_end, alone_stays, rest_falls}
use Rattle.procedure.proofs.runs.run_machine.Goals as goal

pub returns-in-Some : goal.returns-in-Some
returns-in-Some g c =
    λ code front.
    let x = c.loop-outcome.machine in
    let step = c.in_ok-outcome.ensures in
    let is : ended x.progress ≡ Some c.in-Some.outcome = sym step.outcome ∙ c.in-Some.is in
    front_end code c.args.machine.now.args c.args.table.now c.step_alone.new.machine c.step_alone.new.changes
    (front_step code c.args.machine.now.args c.args.table.now x c.step_alone.new.machine c.loop-outcome.changes c.step_alone.new.changes (c.loop-outcome.invariant code front) step.args step.progress
    step.changes)
    c.in-Some.outcome
    (ap ended (step.progress ∙ alone_stays x.args c.args.table.now x.progress c.loop-outcome.changes c.in-Some.outcome is) ∙ is)

pub loop-outcome-smaller : goal.loop-outcome-smaller
loop-outcome-smaller g c =
    let x = c.loop-outcome.machine in
    let step = c.in_ok-outcome.ensures in
    subst (λ (p : Progress). length p.rest < length x.progress.rest) (sym step.progress)
    (rest_falls x.args c.args.table.now x.progress c.loop-outcome.changes (sym step.outcome ∙ c.in_default.is))

pub loop-outcome-preserved : goal.loop-outcome-preserved
loop-outcome-preserved g c =
    λ code front.
    let step = c.in_ok-outcome.ensures in
    front_step code c.args.machine.now.args c.args.table.now c.loop-outcome.machine c.step_alone.new.machine c.loop-outcome.changes c.step_alone.new.changes (c.loop-outcome.invariant code front)
    step.args step.progress step.changes
