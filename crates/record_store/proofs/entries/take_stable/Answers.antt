use Rattle.std.proofs.Common.{◌≡◌, ap, sym, ◌∙◌, None, is_some}
use Rattle.record_store.specs.Entries.{Entries, entry_at, entry_changed, stable_in, with_entry_stable}
use Rattle.record_store.specs.EntryFields.{joined}
use Rattle.record_store.specs.KeptRecords.{kept_at}
use Rattle.record_store.proofs.Joined.{changed_vacant, joined_cleared, stable_joined, vacant_joined}
use Rattle.record_store.proofs.entries.take_stable.Given.{Over}
use Rattle.record_store.proofs.entries.take_stable.Goals as goal

pub returns-then-is_taken-clause-stable : goal.returns-then-is_taken-clause-stable
returns-then-is_taken-clause-stable g c =
    c.take_copy.ensures.stable
    ∙ stable_joined c.slots.inside.slots.items c.slots.inside.copies.items c.args.slot c.args.number
    (ap (λ slots. is_some (kept_at slots c.args.slot)) (sym c.deref.ensures.value) ∙ sym c.is_taken.ensures ∙ c.if-is_taken.true)
    ∙ ap (λ (e : Entries). stable_in c.args.number (entry_at e.items c.args.slot)) c.slots.view_is

pub returns-then-is_taken-clause-changed : goal.returns-then-is_taken-clause-changed
returns-then-is_taken-clause-changed g c =
    ap (λ copies. joined c.slots.inside.slots.items copies) c.take_copy.ensures.changed
    ∙ joined_cleared c.slots.inside.slots.items c.slots.inside.copies.items c.args.slot
    ∙ ap (λ (e : Entries). entry_changed (with_entry_stable None 0) e.items c.args.slot) c.slots.view_is

none_there : (g : Over) (c : goal.Else-is_taken g) → entry_at c.args.slots.now.items c.args.slot ≡ None
none_there g c =
    ap (λ (e : Entries). entry_at e.items c.args.slot) (sym c.slots.view_is)
    ∙ vacant_joined c.slots.inside.slots.items c.slots.inside.copies.items c.args.slot
    (ap (λ slots. is_some (kept_at slots c.args.slot)) (sym c.deref.ensures.value) ∙ sym c.is_taken.ensures ∙ c.if-is_taken.false)

pub returns-else-is_taken-clause-stable : goal.returns-else-is_taken-clause-stable
returns-else-is_taken-clause-stable g c = sym (ap (stable_in c.args.number) (none_there g c))

pub returns-else-is_taken-clause-changed : goal.returns-else-is_taken-clause-changed
returns-else-is_taken-clause-changed g c = sym (changed_vacant c.args.slots.now.items c.args.slot (with_entry_stable None 0) (none_there g c))
