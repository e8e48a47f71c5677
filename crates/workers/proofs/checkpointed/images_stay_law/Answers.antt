use Rattle.workers.proofs.Growth.{images_stay}
use Rattle.workers.proofs.checkpointed.images_stay_law.Goals as goal

pub returns : goal.returns
returns c = images_stay c.cuts_law.ensures c.images_law.ensures
