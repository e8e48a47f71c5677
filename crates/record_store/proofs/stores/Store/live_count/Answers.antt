use Rattle.std.proofs.Common.{ap, sym, ◌∙◌}
use Rattle.record_store.specs.Stores.{live_count}
use Rattle.record_store.proofs.Fields.{live_are}
use Rattle.record_store.proofs.stores.Store.live_count.Goals as goal

pub returns : goal.returns
returns g c = c.live_among.ensures ∙ sym (live_are c.self.inside) ∙ ap live_count c.self.view_is
