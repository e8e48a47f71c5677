use Rattle.commitlog.proofs.Written.{written_joins}
use Rattle.commitlog.proofs.laws.written_law.Goals as goal

pub returns : goal.returns
returns c = written_joins
