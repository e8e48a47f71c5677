use Rattle.std.proofs.Common.{List, ◌∙◌, sym, ap, subst}
use Rattle.procedure.specs.Bytes.{Bytes, Cell}
use Rattle.procedure.specs.Runs.{Execution}
use Rattle.procedure.specs.Carried.{IsCarried, IsCarriedOut}
use Rattle.procedure.proofs.Carried.{before_run, carried_start, kept_keys, kept_table, same_outcome, same_replies}
use Rattle.procedure.proofs.runs.run_whole.Goals as goal

pub returns : goal.returns
returns g c =
    let code = c.args.procedure.now.code in
    let t = c.args.table in
    let x = c.in_ok-machine.machine in
    let y = c.carry_out.new.machine in
    let u = c.carry_out.new.table in
    let before = c.carry_out.new.before.items in
    let start = subst (λ (b : List (Bytes × Cell)). IsCarried code x.args t x t b) (sym c.new-before.ensures.items) (carried_start code c.args.args t x c.in_ok-machine.ensures) in
    let end = subst (λ (a : List Bytes). IsCarriedOut code a t y u before c.in_ok-outcome.outcome) (ap (λ (z : Execution). z.args) c.in_ok-machine.ensures) (c.in_ok-outcome.ensures code t start) in
    let kept = c.new.ensures ∙ c.in_ok-table.ensures.before in
    record {
      outcome = same_outcome code c.args.args t y u before c.in_ok-outcome.outcome end;
      replies = c.into_parts-replies.ensures.replies ∙ same_replies code c.args.args t y u before c.in_ok-outcome.outcome end;
      table = kept_table code c.args.args t y u c.in_ok-table.table before c.in_ok-outcome.outcome end c.in_ok-table.ensures.table;
      written = kept_keys code c.args.args t y u before c.in_ok-outcome.outcome c.new.result end kept;
      before = before_run code c.args.args t y u c.in_ok-table.table before c.in_ok-outcome.outcome c.new.result end c.in_ok-table.ensures.table kept;
    }
