use Rattle.commitlog.proofs.Growth.{last_is_greatest}
use Rattle.commitlog.proofs.laws.finished_law.Goals as goal

pub returns : goal.returns
returns c = last_is_greatest
