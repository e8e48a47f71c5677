use Rattle.std.proofs.Common.{◌∙◌, sym, ap}
use Rattle.procedure.specs.Table.{Table, with_cells}
use Rattle.procedure.proofs.Base.{with_cells_push}
use Rattle.procedure.proofs.runs.undo.Goals as goal

pub loop-was-preserved : goal.loop-was-preserved
loop-was-preserved g c =
    let rest = c.pop.new.self.items in
    ap (λ (t : Table). with_cells t rest) c.in_ok-put_back.ensures
    ∙ sym (with_cells_push c.loop-was.table rest c.in-Some.was.0 c.in-Some.was.1)
    ∙ ap (with_cells c.loop-was.table) (sym c.in-Some.ensures.items)
    ∙ c.loop-was.invariant
