use Rattle.std.proofs.Common.{sym, subst}
use Rattle.workers.specs.Checkpoints.{Works, at_rest, captured, not_captured, taken, not_taken}
use Rattle.workers.proofs.Rounds.{refused_as, works_not}
use Rattle.workers.proofs.checkpoints.work_in.Goals as goal

pub returns-in-Rest : goal.returns-in-Rest
returns-in-Rest g c = subst (λ p. Works g.C.Checkpoints.does p c.args.core.now c.args.core.now _) (sym c.in-Rest.is) at_rest

pub returns-in_err-scan-in-Capture : goal.returns-in_err-scan-in-Capture
returns-in_err-scan-in-Capture g c = subst (λ p. Works g.C.Checkpoints.does p c.args.core.now c.scan.new.core c.from_residual.result) (sym c.in-Capture.is) (refused_as (λ r. Works g.C.Checkpoints.does _ c.args.core.now c.scan.new.core r) c.from_residual.result c.from_residual.ensures.1 (not_captured c.in_err-scan-in-Capture.ensures))

pub returns-in_err-take_image-in-Complete : goal.returns-in_err-take_image-in-Complete
returns-in_err-take_image-in-Complete g c = subst (λ p. Works g.C.Checkpoints.does p c.args.core.now c.take_image.new.self c.from_residual-in_err-take_image-in-Complete.result) (sym c.in-Complete.is) (refused_as (λ r. Works g.C.Checkpoints.does _ c.args.core.now c.take_image.new.self r) c.from_residual-in_err-take_image-in-Complete.result c.from_residual-in_err-take_image-in-Complete.ensures.1 (not_taken c.in_err-take_image-in-Complete.ensures))

pub returns-in_ok-scan-in-Capture : goal.returns-in_ok-scan-in-Capture
returns-in_ok-scan-in-Capture g c = subst (λ p. Works g.C.Checkpoints.does p c.args.core.now c.scan.new.core _) (sym c.in-Capture.is) (captured c.in_ok-scan-in-Capture.ensures)

pub returns-in_ok-take_image-in-Complete : goal.returns-in_ok-take_image-in-Complete
returns-in_ok-take_image-in-Complete g c = subst (λ p. Works g.C.Checkpoints.does p c.args.core.now c.take_image.new.self _) (sym c.in-Complete.is) (taken c.in_ok-take_image-in-Complete.ensures)

pub returns-in_default : goal.returns-in_default
returns-in_default g c = works_not g.C.Checkpoints.does c.args.phase c.in_default.not-Rest c.in_default.not-Capture c.in_default.not-Complete
