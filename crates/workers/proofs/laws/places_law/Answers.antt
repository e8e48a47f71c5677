use Rattle.workers.proofs.Places.{places_rise}
use Rattle.workers.proofs.laws.places_law.Goals as goal

pub returns : goal.returns
returns g c = places_rise c.order_law.ensures
