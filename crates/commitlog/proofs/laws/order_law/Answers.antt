use Rattle.commitlog.proofs.Orders.{numbers_rise}
use Rattle.commitlog.proofs.laws.order_law.Goals as goal

pub returns : goal.returns
returns c = numbers_rise
