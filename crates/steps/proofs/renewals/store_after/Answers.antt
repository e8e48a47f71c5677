use Rattle.std.proofs.Common.{IsNone, refl, subst, sym}
use Rattle.steps.specs.inside.Openings.{IsFilledBy}
use Rattle.steps.proofs.renewals.store_after.Goals as goal

pub returns-in-None : goal.returns-in-None
returns-in-None g c = λ next some none. subst (IsFilledBy next) (sym c.next_number.ensures) (none (subst IsNone (sym c.in-None.is) refl))
