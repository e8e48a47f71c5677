use Rattle.std.proofs.Common.{ap, ◌∙◌, refl, sym, subst}
use Rattle.record_store.specs.Stores.{Slots}
use Rattle.steps.specs.CoreViews.{SameKeys}
use Rattle.steps.specs.inside.RecordEdits.{KeepsSlots, edited, undone_version}
use Rattle.steps.specs.Versions.{versions_in}
use Rattle.steps.proofs.store.SlotEdits.{keys_same, slots_changed, slots_same}
use Rattle.steps.proofs.store.RecordEdits.{versions_undone, none_undone}
use Rattle.steps.proofs.edits.undo_note.Goals as goal

pub returns-in-Some-clause-versions : goal.returns-in-Some-clause-versions
returns-in-Some-clause-versions g c q =
    ap (λ (l : Slots). versions_in l q) c.undo_record.ensures ∙ versions_undone c.args.note.before c.args.store.now c.in-Some.slot c.args.note.key q c.find.ensures.once c.in-Some.ensures.found

pub returns-in-None-clause-versions : goal.returns-in-None-clause-versions
returns-in-None-clause-versions g c q = none_undone c.args.note.before c.args.store.now c.args.note.key q c.in-None.ensures.found

pub returns-in-Some-clause-keys : goal.returns-in-Some-clause-keys
returns-in-Some-clause-keys g c =
    subst (λ (l : Slots). KeepsSlots c.args.store.now l) (sym c.undo_record.ensures)
    (slots_changed (edited (undone_version c.args.note.before)) (λ r. refl) (λ r is. is) c.args.store.now c.in-Some.slot)

pub returns-in-None-clause-keys : goal.returns-in-None-clause-keys
returns-in-None-clause-keys g c = slots_same c.args.store.now c.args.store.now refl

pub returns-in-Some-clause-same : goal.returns-in-Some-clause-same
returns-in-Some-clause-same g c =
    subst (λ (l : Slots). SameKeys c.args.store.now l) (sym c.undo_record.ensures) (keys_same (edited (undone_version c.args.note.before)) (λ r. refl) c.args.store.now c.in-Some.slot)
