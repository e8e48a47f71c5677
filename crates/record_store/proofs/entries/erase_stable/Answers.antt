use Rattle.std.proofs.Common.{ap, ◌∙◌, None}
use Rattle.record_store.specs.Entries.{Entries, entry_changed, with_entry_stable}
use Rattle.record_store.specs.EntryFields.{joined}
use Rattle.record_store.proofs.Joined.{joined_cleared}
use Rattle.record_store.proofs.entries.erase_stable.Goals as goal

pub returns : goal.returns
returns g c =
    ap (λ copies. joined c.slots.inside.slots.items copies) c.clear_copy.ensures.items
    ∙ joined_cleared c.slots.inside.slots.items c.slots.inside.copies.items c.args.slot
    ∙ ap (λ (e : Entries). entry_changed (with_entry_stable None 0) e.items c.args.slot) c.slots.view_is
