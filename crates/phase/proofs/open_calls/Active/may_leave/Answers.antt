use Rattle.std.proofs.Common.{refl, sym, ◌∙◌, subst}
use Rattle.std.proofs.lemmas.Bool.{true≢false}
use Rattle.phase.specs.Phases.{Starts, MayLeave}
use Rattle.phase.proofs.Counting.{may_leave}
use Rattle.phase.proofs.open_calls.Active.may_leave.Goals as goal

pub returns-then-has_no_others : goal.returns-then-has_no_others
returns-then-has_no_others c =
    let left = (may_leave c.self.inside.starts c.self.inside.counts c.self.invariant c.args.phase).0 (c.has_no_others.ensures.0 c.if-has_no_others.true) in
    (λ _. subst (λ (xs : Starts). MayLeave c.args.phase xs) c.self.view_is left, λ _. refl)

pub returns-else-has_no_others : goal.returns-else-has_no_others
returns-else-has_no_others c = (
  λ e. absurd (true≢false (sym e)),
  λ h. absurd
      (true≢false
      (sym
      (c.has_no_others.ensures.1 ((may_leave c.self.inside.starts c.self.inside.counts c.self.invariant c.args.phase).1 (subst (λ (xs : Starts). MayLeave c.args.phase xs) (sym c.self.view_is) h))) ∙
      c.if-has_no_others.false)),
)
