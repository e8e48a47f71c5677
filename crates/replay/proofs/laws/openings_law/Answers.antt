use Rattle.replay.proofs.Promised.{opening_is_image}
use Rattle.replay.proofs.laws.openings_law.Goals as goal

pub returns : goal.returns
returns c = λ procedures opening l opens lawful. opening_is_image procedures opening opens lawful l
