use Rattle.workers.specs.Checkpoints.{Begins, started, not_started, took_image, took_none, runs_already}
use Rattle.workers.proofs.Rounds.{refused_as}
use Rattle.workers.proofs.checkpoints.begin_one.Goals as goal

pub returns-in_err-start-in-Rest : goal.returns-in_err-start-in-Rest
returns-in_err-start-in-Rest g c = refused_as (λ r. Begins g.C.Checkpoints.does c.args.kind c.args.core.now c.start.new.self r) c.from_residual.result c.from_residual.ensures.1 (not_started c.in-Rest.ensures c.in_err-start-in-Rest.ensures)

pub returns-in_err-take_image-in-Complete : goal.returns-in_err-take_image-in-Complete
returns-in_err-take_image-in-Complete g c = refused_as (λ r. Begins g.C.Checkpoints.does c.args.kind c.args.core.now c.take_image.new.self r) c.from_residual-in_err-take_image-in-Complete.result c.from_residual-in_err-take_image-in-Complete.ensures.1 (took_none c.in-Complete.ensures c.in_err-take_image-in-Complete.ensures)

pub returns-in_ok-start-in-Rest : goal.returns-in_ok-start-in-Rest
returns-in_ok-start-in-Rest g c = started c.in-Rest.ensures c.in_ok-start-in-Rest.ensures

pub returns-in_ok-take_image-in-Complete : goal.returns-in_ok-take_image-in-Complete
returns-in_ok-take_image-in-Complete g c = took_image c.in-Complete.ensures c.in_ok-take_image-in-Complete.ensures

pub returns-in_default : goal.returns-in_default
returns-in_default g c = runs_already c.in_default.not-Rest c.in_default.not-Complete c.phase.ensures
