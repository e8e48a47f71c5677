use Rattle.std.proofs.Common.{sym, ◌∙◌}
use Rattle.procedure.proofs.Maps.{get-view}
use Rattle.locktable.proofs.many_holders.ManyHolders.get.Goals as goal

pub returns : goal.returns
returns g c = c.copied.ensures ∙ c.get.ensures.value ∙ sym (get-view c.self.inside.entries.entries c.args.self.now c.self.view_is c.args.key.now)
