use Rattle.procedure.proofs.Ending.{ends_whole}
use Rattle.procedure.proofs.laws.end_law.Goals as goal

pub returns : goal.returns
returns c = ends_whole
