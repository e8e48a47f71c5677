use Rattle.std.proofs.Common.{ap, sym, ◌∙◌, slice_set}
use Rattle.std.proofs.lemmas.List.{set-get_or}
use Rattle.record_store.specs.DeadKeys.{offer_at}
use Rattle.record_store.proofs.Offers.{same_offer}
use Rattle.record_store.proofs.entries.renew_offer.Goals as goal

pub returns-else-is_some-offers : goal.returns-else-is_some-offers
returns-else-is_some-offers g c =
    let known = same_offer (offer_at c.args.dead.now c.args.slot) c.offer_in-offer.result c.is_some.result c.offers.result c.is_some.ensures c.offers.ensures.0 c.offers.ensures.1
    c.if-is_some-offers.false (rw (c.offer_in-offer.ensures) c.requires.same) in
    sym (ap (slice_set c.args.dead.now c.args.slot) (sym c.offer_in-offer.ensures ∙ sym known) ∙ set-get_or c.args.dead.now c.args.slot _)
