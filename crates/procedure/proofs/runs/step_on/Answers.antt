use Rattle.std.proofs.Common.{Option, ◌++◌, sym, ◌∙◌, ap}
use Rattle.procedure.specs.Bytes.{Bytes, Cell}
use Rattle.procedure.specs.Runs.{Execution}
use Rattle.procedure.specs.Carried.{changed, replaced}
use Rattle.procedure.proofs.Fronts.{need_ended, need_going}
use Rattle.procedure.proofs.Carried.{carried_stays, change_is, goes_on}
use Rattle.procedure.proofs.runs.step_on.Goals as goal

pub returns-in-Ended-clause-outcome : goal.returns-in-Ended-clause-outcome
returns-in-Ended-clause-outcome g c =
    let x = c.args.machine.now in
    sym (need_ended x.args x.progress c.in-Ended.outcome (sym c.in_ok-need.ensures.value ∙ c.in-Ended.is))

pub returns-in-Ended-clause-progress : goal.returns-in-Ended-clause-progress
returns-in-Ended-clause-progress g c =
    let x = c.args.machine.now in
    sym (carried_stays x.args c.args.table.now x.progress c.in-Ended.outcome (need_ended x.args x.progress c.in-Ended.outcome (sym c.in_ok-need.ensures.value ∙ c.in-Ended.is)))

pub returns : goal.returns
returns g c =
    let x = c.args.machine.now in
    let u = c.args.table.now in
    let n = c.in_ok-need.need in
    let asks = c.in_ok-need.ensures.value in
    let change = change_is x.args u x.progress n asks in
    record {
      outcome = sym (need_going x.args x.progress (λ o e. c.in_default.not-Ended o (asks ∙ e)));
      args = ap (λ (y : Execution). y.args) c.in_ok-fed_on.ensures.machine;
      progress = ap (λ (y : Execution). y.progress) c.in_ok-fed_on.ensures.machine ∙ goes_on x.args u x.progress n asks;
      table = c.in_ok-fed_on.ensures.table ∙ ap (changed u) change;
      before = c.in_ok-fed_on.ensures.before ∙ ap (λ (d : Option (Bytes × Cell)). c.args.before.now.items ++ replaced u d) change;
    }
