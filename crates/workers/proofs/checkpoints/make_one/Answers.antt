use Rattle.workers.specs.Checkpoints.{Makes}
use Rattle.workers.proofs.Rounds.{begun_on, never_begun, refused_as, without}
use Rattle.workers.proofs.checkpoints.make_one.Goals as goal

pub returns-then-left-eq0 : goal.returns-then-left-eq0
returns-then-left-eq0 g c = without g.C.Checkpoints.does c.args.left.now c.if-left-eq0.true

pub returns-in_err-begin_one : goal.returns-in_err-begin_one
returns-in_err-begin_one g c = refused_as (λ r. Makes g.C.Checkpoints.does c.args.kind c.args.left.now c.args.left.now c.args.core.now c.begin_one.new.core r) c.from_residual.result c.from_residual.ensures.1 (never_begun g.C.Checkpoints.does c.args.left.now c.if-left-eq0.false c.in_err-begin_one.ensures)

pub returns : goal.returns
returns g c = begun_on g.C.Checkpoints.does c.args.left.now c.end_one.new.left c.if-left-eq0.false c.in_ok-begin_one.ensures c.end_one.ensures
