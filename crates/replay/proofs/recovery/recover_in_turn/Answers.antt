use Rattle.replay.proofs.Promised.{from_images, from_opening}
use Rattle.replay.proofs.Recovering.{or_no_memory}
use Rattle.replay.proofs.recovery.recover_in_turn.Goals as goal

pub returns-clause-opening : goal.returns-clause-opening
returns-clause-opening g c = λ images took. from_opening c.args.catalog.now images c.args.log_bytes.now c.answer.result (c.answer.ensures.answer images (c.chain_in_turn.ensures images took))

pub returns-clause-images : goal.returns-clause-images
returns-clause-images g c = λ images took. from_images c.args.catalog.now images c.args.log_bytes.now c.answer.result (c.answer.ensures.answer images (c.chain_in_turn.ensures images took))

pub returns-clause-only : goal.returns-clause-only
returns-clause-only g c = λ images r took is. or_no_memory c.args.catalog.now images c.args.log_bytes.now c.answer.result r (c.answer.ensures.answer images (c.chain_in_turn.ensures images took)) is
