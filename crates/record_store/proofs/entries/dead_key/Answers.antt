use Rattle.std.proofs.Common.{ap, sym, ◌∙◌, option_and_then}
use Rattle.record_store.specs.Entries.{Entries, entry_at, key_if_dead}
use Rattle.record_store.specs.KeptRecords.{kept_at, kept_key_if_dead}
use Rattle.record_store.proofs.Joined.{dead_joined}
use Rattle.record_store.proofs.entries.dead_key.Goals as goal

pub returns : goal.returns
returns g c =
    c.dead_key_of.ensures
    ∙ ap (λ slots. option_and_then kept_key_if_dead (kept_at slots c.args.slot)) c.deref.ensures.value
    ∙ sym (dead_joined c.slots.inside.slots.items c.slots.inside.copies.items c.args.slot)
    ∙ ap (λ (e : Entries). option_and_then key_if_dead (entry_at e.items c.args.slot)) c.slots.view_is
