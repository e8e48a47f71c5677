use Rattle.procedure.proofs.Fronts.{effect-becomes}
use Rattle.procedure.proofs.laws.update_law.Goals as goal

pub returns : goal.returns
returns c = effect-becomes
