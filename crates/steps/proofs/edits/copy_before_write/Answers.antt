use Rattle.std.proofs.Common.{◌≡◌, ◌⊎◌, ℕ, true, inl, inr, sym, ap, subst, ◌∙◌}
use Rattle.phase.specs.declared.phases.Phase.{Phase}
use Rattle.phase.specs.declared.phases.Phase.TheVariants.{Resolve, Capture}
use Rattle.record_store.specs.Stores.{Slots, changed, with_available}
use Rattle.steps.specs.Versions.{copied}
use Rattle.steps.specs.inside.RecordEdits.{edited}
use Rattle.steps.proofs.store.RecordEdits.{record_copied}
use Rattle.steps.proofs.edits.copy_before_write.Goals as goal

in_either :
    (start : Phase) (slots new : Slots) (slot : ℕ) → (start ≡ Resolve) ⊎ (start ≡ Capture) → new ≡ changed (edited (copied Resolve)) slots slot → new ≡ changed (edited (copied start)) slots slot
in_either start slots new slot (inl e) is = subst (λ (p : Phase). new ≡ changed (edited (copied p)) slots slot) (sym e) is
in_either start slots new slot (inr e) is = subst (λ (p : Phase). new ≡ changed (edited (copied p)) slots slot) (sym e) is

pub returns-in_ok-copy_stable-in-Resolve-clause-ok : goal.returns-in_ok-copy_stable-in-Resolve-clause-ok
returns-in_ok-copy_stable-in-Resolve-clause-ok g c =
    in_either c.args.start c.args.store.now c.set_available.new.self c.args.slot c.in-Resolve.is
    (c.set_available.ensures ∙ ap (λ (l : Slots). changed (with_available true) l c.args.slot) c.in_ok-copy_stable-in-Resolve.ensures.ok
    ∙ record_copied c.args.store.now c.args.slot (sym c.is_available-in-Resolve.ensures ∙ c.if-is_available-2.false))
