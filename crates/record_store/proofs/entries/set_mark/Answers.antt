use Rattle.std.proofs.Common.{ap, refl, ◌∙◌}
use Rattle.record_store.specs.Entries.{Entries, entry_changed, with_entry_mark}
use Rattle.record_store.specs.KeptRecords.{with_kept_mark}
use Rattle.record_store.specs.EntryFields.{joined}
use Rattle.record_store.proofs.Joined.{joined_changed}
use Rattle.record_store.proofs.entries.set_mark.Goals as goal

pub returns : goal.returns
returns g c =
    ap (λ slots. joined slots c.slots.inside.copies.items) c.set_mark.ensures
    ∙ joined_changed c.slots.inside.slots.items c.slots.inside.copies.items c.args.slot (with_kept_mark c.args.mark) (with_entry_mark c.args.mark) (λ copy kept. refl)
    ∙ ap (λ (e : Entries). entry_changed (with_entry_mark c.args.mark) e.items c.args.slot) c.slots.view_is
