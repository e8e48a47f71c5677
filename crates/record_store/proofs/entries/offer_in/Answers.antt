use Rattle.std.proofs.Common.{ap, sym, ◌∙◌, option_and_then}
use Rattle.record_store.specs.Entries.{Entries, entry_at, offer_of}
use Rattle.record_store.specs.KeptRecords.{kept_at, kept_offer}
use Rattle.record_store.proofs.Joined.{offer_joined}
use Rattle.record_store.proofs.entries.offer_in.Goals as goal

pub returns : goal.returns
returns g c =
    c.offer_of.ensures
    ∙ ap (λ slots. option_and_then kept_offer (kept_at slots c.args.slot)) c.deref.ensures.value
    ∙ sym (offer_joined c.slots.inside.slots.items c.slots.inside.copies.items c.args.slot)
    ∙ ap (λ (e : Entries). option_and_then offer_of (entry_at e.items c.args.slot)) c.slots.view_is
