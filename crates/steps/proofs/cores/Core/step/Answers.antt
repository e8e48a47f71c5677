use Rattle.std.proofs.Common.{◌≡◌, OnOk, IfOk, subst}
use Rattle.steps.specs.inside.CoreFields.{view_of}
use Rattle.steps.specs.CoreViews.{OfOpen, Steps, front_of, one_more, stepped_as}
use Rattle.steps.specs.Refusals.{Answers, step_refusal}
use Rattle.steps.specs.declared.errors.StepError.TheVariants as refused
use Rattle.steps.proofs.sessions.SteppedSession.{few_at, session_core, session_ready, session_refusal, session_stepped, session_unstepped}
use Rattle.steps.proofs.cores.Core.step.Goals as goal

pub step_session-requires-clause-few : goal.step_session-requires-clause-few
step_session-requires-clause-few g c = few_at c.self.inside c.self.invariant c.from.result

pub invariant_of-self : goal.invariant_of-self
invariant_of-self g c =
    session_core c.self.inside c.self.invariant c.from.result c.step_session.new.calls c.step_session.new.store c.step_session.new.locks c.step_session.result c.step_session.ensures.here
    c.step_session.ensures.others

pub returns-clause-stepped : goal.returns-clause-stepped
returns-clause-stepped g c =
    let after = view_of (record c.self.inside { calls = c.step_session.new.calls; store = c.step_session.new.store; locks = c.step_session.new.locks }) in
    subst (λ s. OnOk c.step_session.result (OfOpen c.args.self.now s (Steps c.args.self.now after s))) c.from.ensures
    (session_stepped c.self.inside c.self.invariant c.from.result c.step_session.new.calls c.step_session.new.store c.step_session.new.locks c.step_session.result c.step_session.ensures.here
    c.step_session.ensures.others c.args.self.now c.self.view_is)

pub returns-clause-ready : goal.returns-clause-ready
returns-clause-ready g c =
    subst (λ s. IfOk c.step_session.result (λ x. OfOpen c.args.self.now s (λ k. x ≡ stepped_as (front_of c.args.self.now (one_more k))))) c.from.ensures
    (session_ready c.self.inside c.self.invariant c.from.result c.step_session.new.calls c.step_session.new.store c.step_session.new.locks c.step_session.result c.step_session.ensures.here
    c.step_session.ensures.others c.args.self.now c.self.view_is)

pub returns-clause-refused : goal.returns-clause-refused
returns-clause-refused g c =
    session_unstepped c.self.inside c.self.invariant c.from.result c.step_session.new.calls c.step_session.new.store c.step_session.new.locks c.step_session.result c.step_session.ensures.here
    c.step_session.ensures.others c.args.self.now c.self.view_is

pub returns-clause-refusal : goal.returns-clause-refusal
returns-clause-refusal g c =
    subst (λ s. Answers (step_refusal c.args.self.now s) refused.NoMemory c.step_session.result) c.from.ensures
    (session_refusal c.self.inside c.self.invariant c.from.result c.step_session.new.calls c.step_session.new.store c.step_session.new.locks c.step_session.result c.step_session.ensures.here
    c.step_session.ensures.others c.args.self.now c.self.view_is)
