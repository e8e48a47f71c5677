use Rattle.steps.proofs.scans.VisitCounts.{scans_in_turns}
use Rattle.steps.proofs.laws.turns_law.Goals as goal

pub returns : goal.returns
returns g c = scans_in_turns _
