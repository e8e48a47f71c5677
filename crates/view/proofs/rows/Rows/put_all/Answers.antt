use Rattle.std.proofs.Common.{arith, ◌∙◌, sym, ap}
use Rattle.procedure.specs.Table.{Table, with_cells}
use Rattle.procedure.proofs.Base.{with_cells_push}
use Rattle.view.proofs.rows.Rows.put_all.Goals as goal

pub loop-entry-preserved : goal.loop-entry-preserved
loop-entry-preserved g c =
    let rest = c.pop.new.self.items in
    let e = c.in-Some.entry in
    record {
      table =
          ap (λ (t : Table). with_cells t rest) c.put.ensures.table
          ∙ sym (with_cells_push c.loop-entry.self.table rest e.0 e.1)
          ∙ ap (with_cells c.loop-entry.self.table) (sym c.in-Some.ensures.items)
          ∙ c.loop-entry.invariant.table;
      room = omega (arith, c.put.ensures.room, c.loop-entry.invariant.room, c.in-Some.ensures.len);
    }
