use Rattle.steps.proofs.scans.SharedDigests.{headers_fix}
use Rattle.steps.proofs.laws.headers_law.Goals as goal

pub returns : goal.returns
returns c = headers_fix
