use Rattle.std.proofs.Common.{ap, sym, ◌∙◌, option_map}
use Rattle.record_store.specs.Entries.{Entries, entry_at, seen}
use Rattle.record_store.specs.KeptRecords.{kept_at}
use Rattle.record_store.specs.EntryFields.{copy_at, entry_of}
use Rattle.record_store.proofs.Joined.{joined_at}
use Rattle.record_store.proofs.entries.lent.Goals as goal

pub returns : goal.returns
returns g c =
    c.lent_of.ensures
    ∙ ap (λ slots. option_map (seen c.args.number) (option_map (entry_of (copy_at c.deref-2.result.now c.args.slot)) (kept_at slots c.args.slot))) c.deref.ensures.value
    ∙ ap (λ copies. option_map (seen c.args.number) (option_map (entry_of (copy_at copies c.args.slot)) (kept_at c.slots.inside.slots.items c.args.slot))) c.deref-2.ensures.value
    ∙ ap (option_map (seen c.args.number)) (sym (joined_at c.slots.inside.slots.items c.slots.inside.copies.items c.args.slot))
    ∙ ap (λ (e : Entries). option_map (seen c.args.number) (entry_at e.items c.args.slot)) c.slots.view_is
