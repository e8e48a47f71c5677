use Rattle.commitlog.proofs.OneReadings.{one_reading}
use Rattle.commitlog.proofs.laws.reading_law.Goals as goal

pub returns : goal.returns
returns c = one_reading
