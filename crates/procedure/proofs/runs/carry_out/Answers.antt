use Rattle.std.proofs.Common.{◌≡◌, Some, sym, ◌∙◌, ap, subst, length, ◌<◌}
use Rattle.procedure.specs.Runs.{Progress, ended}
use Rattle.procedure.proofs.Carried.{carried_step, carried_end, carried_stays, carried_falls}
use Rattle.procedure.proofs.runs.carry_out.Goals as goal

pub returns-in-Some : goal.returns-in-Some
returns-in-Some g c =
    λ code t carried.
    let l = c.loop-outcome in
    let x = l.machine in
    let y = c.step_on.new.machine in
    let step = c.in_ok-outcome.ensures in
    let is : ended x.progress ≡ Some c.in-Some.outcome = sym step.outcome ∙ c.in-Some.is in
    carried_end code c.args.machine.now.args t y c.step_on.new.table c.step_on.new.before.items
    (carried_step code c.args.machine.now.args t x y l.table c.step_on.new.table l.before.items c.step_on.new.before.items (l.invariant code t carried) step.args step.progress step.table step.before)
    c.in-Some.outcome
    (ap ended (step.progress ∙ carried_stays x.args l.table x.progress c.in-Some.outcome is) ∙ is)

pub loop-outcome-smaller : goal.loop-outcome-smaller
loop-outcome-smaller g c =
    let x = c.loop-outcome.machine in
    let step = c.in_ok-outcome.ensures in
    subst (λ (p : Progress). length p.rest < length x.progress.rest) (sym step.progress)
    (carried_falls x.args c.loop-outcome.table x.progress (sym step.outcome ∙ c.in_default.is))

pub loop-outcome-preserved : goal.loop-outcome-preserved
loop-outcome-preserved g c =
    λ code t carried.
    let l = c.loop-outcome in
    let step = c.in_ok-outcome.ensures in
    carried_step code c.args.machine.now.args t l.machine c.step_on.new.machine l.table c.step_on.new.table l.before.items c.step_on.new.before.items (l.invariant code t carried)
    step.args step.progress step.table step.before
