use Rattle.std.proofs.Common.{sym, ap, ◌∙◌}
use Rattle.record_store.specs.Stores.{Slots, record_at}
use Rattle.record_store.proofs.Fields.{view_at}
use Rattle.record_store.proofs.stores.Store.slot.Goals as goal

pub returns : goal.returns
returns g c =
    c.lent.ensures
    ∙ sym (view_at c.self.inside c.args.slot) ∙ ap (λ (slots : Slots). record_at slots c.args.slot) c.self.view_is
