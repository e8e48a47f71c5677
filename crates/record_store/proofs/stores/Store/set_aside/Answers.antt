use Rattle.std.proofs.Common.{ap, ◌∙◌, refl, true}
use Rattle.record_store.specs.Stores.{Slots, changed, with_aside}
use Rattle.record_store.specs.Entries.{with_entry_aside}
use Rattle.record_store.proofs.Fields.{changed_view, renewed_same, renewed_sound}
use Rattle.record_store.proofs.stores.Store.set_aside.Goals as goal

pub renew_offer-requires-clause-same : goal.renew_offer-requires-clause-same
renew_offer-requires-clause-same g c =
    renewed_same c.self.inside (with_entry_aside true) c.args.slot c.set_aside.new.slots.items c.set_aside.new.slots.items c.self.invariant refl c.set_aside.ensures (λ e. refl)

pub invariant_of-self : goal.invariant_of-self
invariant_of-self g c =
    renewed_sound c.self.inside (record c.self.inside { slots = c.set_aside.new.slots; dead = c.renew_offer.new.dead }) (with_entry_aside true) c.args.slot c.set_aside.new.slots.items c.self.invariant refl
    c.set_aside.ensures refl c.renew_offer.ensures (λ e. refl) (λ e m. record { mark = m.mark; copied = m.copied })

pub returns : goal.returns
returns g c =
    changed_view c.self.inside (record c.self.inside { slots = c.set_aside.new.slots; dead = c.renew_offer.new.dead }) (with_entry_aside true) (with_aside true) c.args.slot refl c.set_aside.ensures (λ e. refl)
    ∙ ap (λ (slots : Slots). changed (with_aside true) slots c.args.slot) c.self.view_is
