use Rattle.std.proofs.Common.{◌∙◌, ap, sym, refl}
use Rattle.record_store.specs.DeadKeys.{offer_at}
use Rattle.record_store.specs.Stores.{Slots, reclaimed}
use Rattle.record_store.specs.declared.stores.Store.TheInside.{Inside}
use Rattle.record_store.proofs.Making.{IsGone, dead_below, dead_counted, gone_offers, gone_sound, gone_view, stays}
use Rattle.record_store.proofs.stores.Store.reclaim.Goals as goal

pub returns-in_default : goal.returns-in_default
returns-in_default g c =
    sym
    (ap (λ (slots : Slots). reclaimed slots c.args.slot) (sym c.self.view_is)
    ∙ stays c.self.inside c.args.slot (sym c.in_default.ensures)
    ∙ c.self.view_is)

pub vacate-requires-clause-slot : goal.vacate-requires-clause-slot
vacate-requires-clause-slot g c =
    dead_below c.self.inside.slots.items c.args.slot c.in-Some.key (sym c.in-Some.ensures)

pub vacate-requires-clause-records : goal.vacate-requires-clause-records
vacate-requires-clause-records g c =
    dead_counted c.self.inside c.self.invariant c.args.slot c.in-Some.key (sym c.in-Some.ensures)

pub renew_offer-requires-clause-same : goal.renew_offer-requires-clause-same
renew_offer-requires-clause-same g c =
    gone_offers c.self.inside.slots.items c.vacate.new.slots.items c.args.slot (offer_at c.self.inside.dead c.args.slot)
    (dead_below c.self.inside.slots.items c.args.slot c.in-Some.key (sym c.in-Some.ensures))
    c.vacate.ensures.slots

pub invariant_of-self : goal.invariant_of-self
invariant_of-self g c =
    let new : Inside g.row.A.Denot = record { slots = c.vacate.new.slots; records = c.vacate.new.records; vacant = c.vacate.new.vacant; index = c.swap_remove.new.self; dead = c.renew_offer.new.dead; number = c.self.inside.number } in
    let gone : IsGone c.self.inside new c.args.slot c.in-Some.key = record {
      was = sym c.in-Some.ensures;
      slots = c.vacate.ensures.slots;
      records = c.vacate.ensures.records;
      vacant = c.vacate.ensures.vacant;
      found = c.swap_remove.ensures.updates.0;
      dead = c.renew_offer.ensures;
      number = refl;
    } in
    gone_sound c.self.inside new c.args.slot c.in-Some.key c.self.invariant gone

pub returns : goal.returns
returns g c =
    let new : Inside g.row.A.Denot = record { slots = c.vacate.new.slots; records = c.vacate.new.records; vacant = c.vacate.new.vacant; index = c.swap_remove.new.self; dead = c.renew_offer.new.dead; number = c.self.inside.number } in
    let gone : IsGone c.self.inside new c.args.slot c.in-Some.key = record {
      was = sym c.in-Some.ensures;
      slots = c.vacate.ensures.slots;
      records = c.vacate.ensures.records;
      vacant = c.vacate.ensures.vacant;
      found = c.swap_remove.ensures.updates.0;
      dead = c.renew_offer.ensures;
      number = refl;
    } in
    gone_view c.self.inside new c.args.slot c.in-Some.key c.self.invariant gone ∙ ap (λ (slots : Slots). reclaimed slots c.args.slot) c.self.view_is
