use Rattle.replay.proofs.Promised.{from_images, from_opening}
use Rattle.replay.proofs.Recovering.{or_no_memory}
use Rattle.replay.proofs.recovery.recover.Goals as goal

pub returns-clause-opening : goal.returns-clause-opening
returns-clause-opening g c = from_opening c.args.catalog.now c.args.images.now c.args.log_bytes.now c.answer.result (c.answer.ensures.answer c.args.images.now c.chain_of.ensures)

pub returns-clause-images : goal.returns-clause-images
returns-clause-images g c = from_images c.args.catalog.now c.args.images.now c.args.log_bytes.now c.answer.result (c.answer.ensures.answer c.args.images.now c.chain_of.ensures)

pub returns-clause-only : goal.returns-clause-only
returns-clause-only g c = λ r is. or_no_memory c.args.catalog.now c.args.images.now c.args.log_bytes.now c.answer.result r (c.answer.ensures.answer c.args.images.now c.chain_of.ensures) is
