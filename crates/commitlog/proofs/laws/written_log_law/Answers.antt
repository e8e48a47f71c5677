use Rattle.commitlog.proofs.OneReadings.{read_again}
use Rattle.commitlog.proofs.laws.written_log_law.Goals as goal

pub returns : goal.returns
returns c = read_again
