use Rattle.commitlog.proofs.Growth.{fronts_are_histories}
use Rattle.commitlog.proofs.laws.fronts_law.Goals as goal

pub returns : goal.returns
returns c = fronts_are_histories
