use Rattle.std.proofs.Common.{Some, None, sym, ◌∙◌, ap}
use Rattle.procedure.specs.Table.{with_cell}
use Rattle.procedure.proofs.Maps.{map_of}
use Rattle.view.proofs.Lookups.{map_of-changed, when_ok}
use Rattle.view.proofs.rows.Rows.put.Goals as goal

pub returns-else-is_err-clause-table : goal.returns-else-is_err-clause-table
returns-else-is_err-clause-table g c =
    let es = c.self.inside.entries.entries in
    let k = c.entry.inside.key in
    let updates = when_ok c.insert.result (sym c.is_err.ensures.value ∙ c.if-is_err.false) c.insert.ensures.updates in
    map_of-changed es c.insert.new.self.entries k (Some c.in-Some.value) updates.0
    ∙ ap (with_cell (map_of es) k) (sym c.in-Some.is)
    ∙ (λ i. with_cell (c.self.view_is i).table (c.entry.view_is i).0 (c.entry.view_is i).1)

pub returns-in-None-clause-table : goal.returns-in-None-clause-table
returns-in-None-clause-table g c =
    let es = c.self.inside.entries.entries in
    let k = c.entry.inside.key in
    map_of-changed es c.swap_remove.new.self.entries k None c.swap_remove.ensures.updates.0
    ∙ ap (with_cell (map_of es) k) (sym c.in-None.is)
    ∙ (λ i. with_cell (c.self.view_is i).table (c.entry.view_is i).0 (c.entry.view_is i).1)
