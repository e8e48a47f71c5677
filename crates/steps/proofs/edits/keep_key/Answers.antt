use Rattle.std.proofs.Common.{ap, ◌∙◌, refl, sym, subst}
use Rattle.record_store.specs.Stores.{Slots}
use Rattle.steps.specs.CoreViews.{SameKeys}
use Rattle.steps.specs.inside.RecordEdits.{KeepsSlots, edited}
use Rattle.steps.specs.Versions.{versions_in, kept}
use Rattle.steps.proofs.store.SlotEdits.{keys_same, slots_changed, slots_same}
use Rattle.steps.proofs.store.RecordEdits.{versions_kept, none_kept}
use Rattle.steps.proofs.edits.keep_key.Goals as goal

pub returns-in-Some-clause-versions : goal.returns-in-Some-clause-versions
returns-in-Some-clause-versions g c q =
    ap (λ (l : Slots). versions_in l q) c.keep_record.ensures ∙ versions_kept c.args.start c.args.phase c.args.store.now c.in-Some.slot c.args.key.now q c.find.ensures.once c.in-Some.ensures.found

pub returns-in-None-clause-versions : goal.returns-in-None-clause-versions
returns-in-None-clause-versions g c q = none_kept c.args.start c.args.phase c.args.store.now c.args.key.now q c.in-None.ensures.found

pub returns-in-Some-clause-keys : goal.returns-in-Some-clause-keys
returns-in-Some-clause-keys g c =
    subst (λ (l : Slots). KeepsSlots c.args.store.now l) (sym c.keep_record.ensures) (slots_changed (edited (kept c.args.start c.args.phase)) (λ r. refl) (λ r is. is) c.args.store.now c.in-Some.slot)

pub returns-in-None-clause-keys : goal.returns-in-None-clause-keys
returns-in-None-clause-keys g c = slots_same c.args.store.now c.args.store.now refl

pub returns-in-Some-clause-same : goal.returns-in-Some-clause-same
returns-in-Some-clause-same g c =
    subst (λ (l : Slots). SameKeys c.args.store.now l) (sym c.keep_record.ensures) (keys_same (edited (kept c.args.start c.args.phase)) (λ r. refl) c.args.store.now c.in-Some.slot)
