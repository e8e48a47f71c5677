use Rattle.std.proofs.Common.{ap, sym, ◌∙◌}
use Rattle.record_store.specs.Entries.{Entries, live_entries}
use Rattle.record_store.specs.KeptRecords.{live_kept}
use Rattle.record_store.proofs.Joined.{live_counted}
use Rattle.record_store.proofs.entries.live_among.Goals as goal

pub returns : goal.returns
returns g c =
    c.live_in.ensures ∙ ap (λ slots. live_kept slots) c.deref.ensures.value
    ∙ sym (live_counted c.slots.inside.slots.items c.slots.inside.copies.items)
    ∙ ap (λ (e : Entries). live_entries e.items) c.slots.view_is
