use Rattle.std.proofs.Common.{inr, subst, sym, ◌∙◌, true≢false}
use Rattle.record_store.specs.ChangedSets.{has}
use Rattle.record_store.specs.Stores.{Slots}
use Rattle.steps.specs.inside.SetAside.{AsideIn}
use Rattle.steps.specs.declared.reclaiming.Aside.TheVariants.{CollectedOrLocked}
use Rattle.steps.proofs.reclaim.Candidates.{aside_more, either_reason, locked}
use Rattle.steps.proofs.reclaiming.stays.Goals as goal

-- a locked key: what is known of the others is known still
pub returns-clause-reasons : goal.returns-clause-reasons
returns-clause-reasons g c =
    let slots = c.args.store.now in
    let key = c.args.key.now in
    let collected = has c.args.changed.now.collecting in
    let locks = c.args.locks.now in
    subst (λ (slots : Slots). AsideIn CollectedOrLocked slots collected locks) (sym c.set_aside-2.ensures)
    (aside_more CollectedOrLocked slots c.args.slot key collected locks c.requires.key
    (inr (locked locks key (λ free. true≢false (sym (c.is_free.ensures.1 free) ∙ c.if-is_free.false))))
    (either_reason c.args.aside.now slots collected locks c.requires.known c.requires.reasons))
