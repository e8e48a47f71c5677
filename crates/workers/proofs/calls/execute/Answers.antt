use Rattle.std.proofs.Common.{◌∙◌, ap, subst, Ok, Err}
use Rattle.workers.specs.Sessions.{steps}
use Rattle.workers.proofs.Protocol.{ran_on, ran_out, ready_now, ready_before, refused_one}
use Rattle.workers.proofs.calls.execute.Goals as goal

pub loop-left-init : goal.loop-left-init
loop-left-init g c = λ u r e. e

pub loop-left-preserved : goal.loop-left-preserved
loop-left-preserved g c = λ u r e. c.loop-left.invariant u r (ran_on g.S.Session.does c.loop-left.left c.loop-left-test.true (subst (λ x. g.S.Session.does (steps x) c.loop-left.session c.step.new.self) (c.in-Ok-Ran.is ∙ ap (λ x. Ok x) c.in-Ok-Ran.field-0-is) c.step.ensures) e)

pub returns-in-Ok-Ready : goal.returns-in-Ok-Ready
returns-in-Ok-Ready g c = c.loop-left.invariant _ _ (ready_now g.S.Session.does c.loop-left.left c.loop-left-test.true (subst (λ x. g.S.Session.does (steps x) c.loop-left.session c.step.new.self) (c.in-Ok-Ready.is ∙ ap (λ x. Ok x) c.in-Ok-Ready.field-0-is) c.step.ensures))

pub returns-in-AlreadyReady : goal.returns-in-AlreadyReady
returns-in-AlreadyReady g c = c.loop-left.invariant _ _ (ready_before g.S.Session.does c.loop-left.left c.loop-left-test.true (subst (λ x. g.S.Session.does (steps x) c.loop-left.session c.step.new.self) (c.in-Err.is ∙ ap (λ x. Err x) c.in-AlreadyReady.is) c.step.ensures))

pub returns-in_default : goal.returns-in_default
returns-in_default g c = c.loop-left.invariant _ _ (refused_one g.S.Session.does c.loop-left.left c.loop-left-test.true c.in_default.not-AlreadyReady (subst (λ x. g.S.Session.does (steps x) c.loop-left.session c.step.new.self) c.in-Err.is c.step.ensures))

pub returns : goal.returns
returns g c = c.loop-left.invariant _ _ (ran_out g.S.Session.does c.loop-left.left c.loop-left-test.false)
