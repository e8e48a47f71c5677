use Rattle.std.proofs.Common.{ap, sym, ◌∙◌, length, arith}
use Rattle.record_store.specs.Entries.{Entries, entry_changed, with_entry_stable}
use Rattle.record_store.specs.EntryFields.{joined}
use Rattle.record_store.proofs.Joined.{changed_past, joined_with, length-joined}
use Rattle.record_store.proofs.entries.set_stable.Goals as goal

pub returns-then-slot-len : goal.returns-then-slot-len
returns-then-slot-len g c =
    ap (λ copies. joined c.slots.inside.slots.items copies) c.set_copy.ensures.items
    ∙ joined_with c.slots.inside.slots.items c.slots.inside.copies.items c.args.slot record { version = c.args.stable; number = c.args.copied }
    ∙ ap (λ (e : Entries). entry_changed (with_entry_stable c.args.stable c.args.copied) e.items c.args.slot) c.slots.view_is

pub returns-else-slot-len : goal.returns-else-slot-len
returns-else-slot-len g c =
    sym (changed_past c.args.slots.now.items c.args.slot (with_entry_stable c.args.stable c.args.copied)
    (omega (arith, ap (λ (e : Entries). length e.items) c.slots.view_is, length-joined c.slots.inside.slots.items c.slots.inside.copies.items, c.if-slot-len.false, c.len.ensures, c.slots.inside.slots.ok.0)))
