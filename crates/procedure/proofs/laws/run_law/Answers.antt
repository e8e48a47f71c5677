use Rattle.procedure.proofs.Copies.{whole_is_run}
use Rattle.procedure.proofs.laws.run_law.Goals as goal

pub returns : goal.returns
returns c = whole_is_run
