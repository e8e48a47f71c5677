use Rattle.std.proofs.Common.{ap, ◌∙◌, subst, List}
use Rattle.std.specs.Prelude.{◌==◌, if◌then◌else◌}
use Rattle.procedure.specs.Bytes.{Bytes}
use Rattle.procedure.specs.Table.{no_changes}
use Rattle.procedure.specs.Fronts.{IsEnd}
use Rattle.procedure.specs.Runs.{Execution}
use Rattle.procedure.proofs.Fronts.{front_start}
use Rattle.procedure.proofs.runs.run_alone.Goals as goal

pub returns : goal.returns
returns g c =
    let code = c.args.procedure.now.code in
    let t = c.args.table.now in
    let end : IsEnd code c.args.args t c.run_machine.new.machine c.run_machine.new.changes c.in_ok-outcome.outcome =
    subst (λ (a : List Bytes). IsEnd code a t c.run_machine.new.machine c.run_machine.new.changes c.in_ok-outcome.outcome)
    (ap (λ (x : Execution). x.args) c.in_ok-machine.ensures)
    (c.in_ok-outcome.ensures code (front_start code c.args.args t c.in_ok-machine.machine c.new-changes.result c.in_ok-machine.ensures c.new-changes.ensures)) in
    record {
      outcome = end.outcome;
      replies = c.into_parts-replies.ensures.replies ∙ end.replies;
      changes = c.kept.ensures ∙ (λ i. if end.outcome i == 0 then end.changes i else no_changes);
    }
