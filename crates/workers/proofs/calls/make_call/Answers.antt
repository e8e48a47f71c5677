use Rattle.std.proofs.Common.{subst}
use Rattle.workers.specs.Sessions.{Attempts}
use Rattle.workers.proofs.Protocol.{made_again, made_at_last, none_of, out_of_turns}
use Rattle.workers.proofs.calls.make_call.Goals as goal

pub loop-left-init : goal.loop-left-init
loop-left-init g c = λ m u r e. e

pub returns-in-Some : goal.returns-in-Some
returns-in-Some g c = c.loop-left.invariant _ _ _ (made_at_last g.S.Session.does c.loop-left.left c.loop-left-test.true (subst (λ x. Attempts g.S.Session.does c.args.call.now c.loop-left.session c.attempt.new.session x) c.in-Some.is c.attempt.ensures))

pub loop-left-preserved : goal.loop-left-preserved
loop-left-preserved g c = λ m u r e. c.loop-left.invariant m u r (made_again g.S.Session.does c.loop-left.left m c.loop-left-test.true (subst (λ x. Attempts g.S.Session.does c.args.call.now c.loop-left.session c.attempt.new.session x) (none_of _ c.in_default.not-Some) c.attempt.ensures) e)

pub returns : goal.returns
returns g c = c.loop-left.invariant _ _ _ (out_of_turns g.S.Session.does c.loop-left.left c.loop-left-test.false)
