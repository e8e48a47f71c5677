use Rattle.steps.proofs.renewal.JoinedLogs.{renewals_join}
use Rattle.steps.proofs.laws.renewals_law.Goals as goal

pub returns : goal.returns
returns c = renewals_join
