use Rattle.commitlog.proofs.Growth.{say_by_one}
use Rattle.commitlog.proofs.laws.record_law.Goals as goal

pub returns : goal.returns
returns c = say_by_one
