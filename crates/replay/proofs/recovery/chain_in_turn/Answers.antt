use Rattle.replay.proofs.InTurn.{chained}
use Rattle.replay.proofs.recovery.chain_in_turn.Goals as goal

pub returns : goal.returns
returns g c = λ images took. chained images c.in_ok-finish.field-0 (c.in_ok-finish.ensures.merge images took)
