use Rattle.std.proofs.Common.{refl, sym, ◌∙◌, ap}
use Rattle.procedure.specs.Runs.{Execution}
use Rattle.procedure.specs.Table.{with_change_of}
use Rattle.procedure.proofs.Fronts.{need_ended, need_going, alone_past, changes_past, goes_alone, noted_alone}
use Rattle.procedure.proofs.runs.step_alone.Goals as goal

pub returns-in-Ended : goal.returns-in-Ended
returns-in-Ended g c =
    let x = c.args.machine.now in
    let asks = sym c.in_ok-need.ensures.value ∙ c.in-Ended.is in
    record {
      outcome = sym (need_ended x.args x.progress c.in-Ended.outcome asks);
      args = refl;
      progress = sym (alone_past x.args c.args.table.now x.progress c.args.changes.now c.in-Ended.outcome asks);
      changes = sym (changes_past x.args c.args.table.now x.progress c.args.changes.now c.in-Ended.outcome asks);
    }

pub returns : goal.returns
returns g c =
    let x = c.args.machine.now in
    let n = c.in_ok-need.need in
    let asks = c.in_ok-need.ensures.value in
    record {
      outcome = sym (need_going x.args x.progress (λ o e. c.in_default.not-Ended o (asks ∙ e)));
      args = ap (λ (y : Execution). y.args) c.in_ok-change.ensures.machine;
      progress = ap (λ (y : Execution). y.progress) c.in_ok-change.ensures.machine
          ∙ goes_alone x.args c.args.table.now x.progress c.args.changes.now n asks;
      changes = c.in_ok-note.ensures
          ∙ ap (with_change_of c.args.changes.now) c.in_ok-change.ensures.change
          ∙ noted_alone x.args c.args.table.now x.progress c.args.changes.now n asks;
    }
