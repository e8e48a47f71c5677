use Rattle.std.proofs.Common.{ap, refl, ◌∙◌}
use Rattle.record_store.specs.Entries.{Entries, entry_changed, with_entry_aside}
use Rattle.record_store.specs.KeptRecords.{with_kept_aside}
use Rattle.record_store.specs.EntryFields.{joined}
use Rattle.record_store.proofs.Joined.{joined_changed}
use Rattle.record_store.proofs.entries.set_aside.Goals as goal

pub returns : goal.returns
returns g c =
    ap (λ slots. joined slots c.slots.inside.copies.items) c.set_aside.ensures
    ∙ joined_changed c.slots.inside.slots.items c.slots.inside.copies.items c.args.slot (with_kept_aside c.args.aside) (with_entry_aside c.args.aside) (λ copy kept. refl)
    ∙ ap (λ (e : Entries). entry_changed (with_entry_aside c.args.aside) e.items c.args.slot) c.slots.view_is
