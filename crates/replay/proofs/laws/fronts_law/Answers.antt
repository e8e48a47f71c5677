use Rattle.replay.proofs.LogFronts.{fronts_are_read}
use Rattle.replay.proofs.laws.fronts_law.Goals as goal

pub returns : goal.returns
returns c = fronts_are_read
