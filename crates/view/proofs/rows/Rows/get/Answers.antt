use Rattle.std.proofs.Common.{sym, ◌∙◌, ap}
use Rattle.procedure.specs.Table.{value_at}
use Rattle.view.specs.Rows.{Rows}
use Rattle.view.proofs.Lookups.{value_at-map_of}
use Rattle.view.proofs.rows.Rows.get.Goals as goal

pub returns : goal.returns
returns g c =
    c.get.ensures.value
    ∙ sym (value_at-map_of c.self.inside.entries.entries c.args.key.now)
    ∙ ap (λ (r : Rows). value_at r.table c.args.key.now) c.self.view_is
