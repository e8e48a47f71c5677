use Rattle.std.proofs.Common.{rules}
use Rattle.std.proofs.lemmas.Fn.{filter_same}
use Rattle.calcdb.specs.Plans.{has_calls}
use Rattle.calcdb.proofs.plans.used.Goals as goal

pub returns : goal.returns
returns g c = filter_same _ has_calls _ (λ x b f' k. search rules) _ _ c.retain.ensures.filtered
