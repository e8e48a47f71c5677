use Rattle.std.proofs.Common.{sym, ◌∙◌, ap}
use Rattle.std.specs.FinMap.{len}
use Rattle.procedure.specs.Table.{KeyMap}
use Rattle.procedure.proofs.Maps.{len-map_of}
use Rattle.procedure.proofs.tables.KeyMap.len.Goals as goal

pub returns : goal.returns
returns g c =
    c.len.ensures.len
    ∙ sym (len-map_of c.self.inside.entries.entries c.len.ensures.unique)
    ∙ ap (λ (m : KeyMap g.row.V.Denot). len m) c.self.view_is
