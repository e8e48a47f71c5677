use Rattle.commitlog.proofs.Growth.{grow_by_one}
use Rattle.commitlog.proofs.laws.growth_law.Goals as goal

pub returns : goal.returns
returns c = grow_by_one
