use Rattle.std.proofs.Common.{length, sym, ap, ◌∙◌}
use Rattle.record_store.proofs.Fields.{length-view}
use Rattle.record_store.proofs.stores.Store.slots.Goals as goal

pub returns : goal.returns
returns g c = c.len.ensures ∙ sym (length-view c.self.inside) ∙ ap length c.self.view_is
