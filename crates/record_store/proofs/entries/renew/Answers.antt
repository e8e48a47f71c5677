use Rattle.std.proofs.Common.{ap, ◌∙◌, option_map, slice_set}
use Rattle.record_store.specs.Entries.{Entries}
use Rattle.record_store.specs.EntryFields.{entry_of, joined, no_copy}
use Rattle.record_store.proofs.Joined.{joined_renewed}
use Rattle.record_store.proofs.entries.renew.Goals as goal

pub returns : goal.returns
returns g c =
    ap (λ copies. joined c.set_slot.new.slots.items copies) c.clear_copy.ensures.items
    ∙ ap (λ slots. joined slots (slice_set c.slots.inside.copies.items c.args.slot no_copy)) c.set_slot.ensures
    ∙ joined_renewed c.slots.inside.slots.items c.slots.inside.copies.items c.args.slot c.args.kept
    ∙ ap (λ (e : Entries). slice_set e.items c.args.slot (option_map (entry_of no_copy) c.args.kept)) c.slots.view_is
