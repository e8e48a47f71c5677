use Rattle.std.proofs.Common.{rules, Some, None, inl, inr, refl, sym, ap, ◌∙◌, subst, length}
use Rattle.steps.specs.CoreViews.{CoreView}
use Rattle.steps.specs.Refusals.{Answers}
use Rattle.steps.specs.declared.errors.FinishError.TheVariants as refused
use Rattle.steps.proofs.sessions.CallProgress.{outcome_is, replies_are}
use Rattle.steps.proofs.sessions.FoundCalls.{absent_refusal, found_at, found_refusal}
use Rattle.steps.proofs.cores.Core.answer_to.Goals as goal

pub returns-in_default-clause-refusal : goal.returns-in_default-clause-refusal
returns-in_default-clause-refusal g c =
    let none = found_at c.self.inside None c.from.ensures c.as_slice.ensures.value c.in_default.ensures in
    inl (absent_refusal c.self.inside c.self.invariant c.args.self.now c.self.view_is c.args.session none)

pub returns-in_err-outcome-clause-refusal : goal.returns-in_err-outcome-clause-refusal
returns-in_err-outcome-clause-refusal g c =
    let is = found_at c.self.inside (Some c.in-Some.call.now) c.from.ensures c.as_slice.ensures.value c.in-Some.ensures in
    let refusal = found_refusal c.self.inside c.self.invariant c.args.self.now c.self.view_is c.args.session c.in-Some.call.now is c.is_full.result c.is_full.ensures.value in
    subst (λ o. Answers o refused.NoMemory c.from_residual.result) (sym refusal) (search rules)

pub returns-in-Ok-clause-answer : goal.returns-in-Ok-clause-answer
returns-in-Ok-clause-answer g c =
    let is = found_at c.self.inside (Some c.in-Some.call.now) c.from.ensures c.as_slice.ensures.value c.in-Some.ensures in
    λ u there. (
      c.len.ensures ∙ ap (λ (v : CoreView). length v.log) c.self.view_is,
      outcome_is c.self.inside c.self.invariant c.args.self.now c.self.view_is c.args.session c.in-Some.call.now c.in_ok-outcome.outcome is c.in_ok-outcome.ensures.outcome u there,
      replies_are c.self.inside c.self.invariant c.args.self.now c.self.view_is c.args.session c.in-Some.call.now c.new.result is (c.new.ensures ∙ c.in-Ok.ensures ∙ c.replies.ensures) u there,
    )

pub returns-in-Ok-clause-refusal : goal.returns-in-Ok-clause-refusal
returns-in-Ok-clause-refusal g c =
    let is = found_at c.self.inside (Some c.in-Some.call.now) c.from.ensures c.as_slice.ensures.value c.in-Some.ensures in
    found_refusal c.self.inside c.self.invariant c.args.self.now c.self.view_is c.args.session c.in-Some.call.now is c.is_full.result c.is_full.ensures.value ∙ sym c.in_ok-outcome.ensures.refusal

pub returns-in-Err-clause-refusal : goal.returns-in-Err-clause-refusal
returns-in-Err-clause-refusal g c =
    let is = found_at c.self.inside (Some c.in-Some.call.now) c.from.ensures c.as_slice.ensures.value c.in-Some.ensures in
    inr (found_refusal c.self.inside c.self.invariant c.args.self.now c.self.view_is c.args.session c.in-Some.call.now is c.is_full.result c.is_full.ensures.value ∙ sym c.in_ok-outcome.ensures.refusal, refl)
