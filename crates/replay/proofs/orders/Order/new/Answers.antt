use Rattle.std.proofs.Common.{refl}
use Rattle.replay.proofs.Ordering.{after_none}
use Rattle.replay.proofs.orders.Order.new.Goals as goal

pub returns : goal.returns
returns c = after_none _ refl refl refl
