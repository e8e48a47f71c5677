use Rattle.steps.proofs.scans.VisitCounts.{scans_whole}
use Rattle.steps.proofs.laws.scans_law.Goals as goal

pub returns : goal.returns
returns g c = scans_whole _
