use Rattle.std.proofs.Common.{sym, ◌∙◌, ap}
use Rattle.std.specs.FinMap.{remove}
use Rattle.procedure.specs.Table.{KeyMap}
use Rattle.procedure.proofs.Maps.{get-view, map_of-remove}
use Rattle.procedure.proofs.tables.KeyMap.remove.Goals as goal

pub returns-clause-value : goal.returns-clause-value
returns-clause-value g c = c.swap_remove-removed.ensures.value ∙ sym (get-view c.self.inside.entries.entries c.args.self.now c.self.view_is c.args.key.now)

pub returns-clause-removed : goal.returns-clause-removed
returns-clause-removed g c =
    c.trim.ensures
    ∙ map_of-remove c.self.inside.entries.entries c.swap_remove-removed.new.self.entries c.args.key.now c.swap_remove-removed.ensures.updates.0
    ∙ ap (λ (m : KeyMap g.row.V.Denot). remove m c.args.key.now) c.self.view_is
