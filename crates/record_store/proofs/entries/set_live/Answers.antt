use Rattle.std.proofs.Common.{ap, refl, sym, ◌∙◌}
use Rattle.record_store.specs.Entries.{Entries, entry_at, entry_changed, live_of, with_entry_live}
use Rattle.record_store.specs.EntryFields.{joined}
use Rattle.record_store.specs.KeptRecords.{with_kept_live}
use Rattle.record_store.proofs.Joined.{joined_changed, live_joined}
use Rattle.record_store.proofs.entries.set_live.Goals as goal

pub returns-clause-before : goal.returns-clause-before
returns-clause-before g c =
    c.set_live.ensures.before ∙ sym (live_joined c.slots.inside.slots.items c.slots.inside.copies.items c.args.slot)
    ∙ ap (λ (e : Entries). live_of (entry_at e.items c.args.slot)) c.slots.view_is

pub returns-clause-changed : goal.returns-clause-changed
returns-clause-changed g c =
    ap (λ slots. joined slots c.slots.inside.copies.items) c.set_live.ensures.changed
    ∙ joined_changed c.slots.inside.slots.items c.slots.inside.copies.items c.args.slot (with_kept_live c.args.live) (with_entry_live c.args.live) (λ copy kept. refl)
    ∙ ap (λ (e : Entries). entry_changed (with_entry_live c.args.live) e.items c.args.slot) c.slots.view_is
