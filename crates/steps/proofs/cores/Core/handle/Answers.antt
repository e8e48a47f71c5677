use Rattle.std.proofs.Common.{sym, subst}
use Rattle.steps.specs.Schedules.{Handles}
use Rattle.steps.specs.declared.schedules.Event.{Event}
use Rattle.steps.proofs.cores.Core.handle.Goals as goal

pub returns-in-GiveUp : goal.returns-in-GiveUp
returns-in-GiveUp g c =
    let h = c.give_up.ensures in
    subst (λ (e : Event g.row.A.Denot). Handles e c.args.self.now c.give_up.new.self c.without_image-in-GiveUp.result) (sym c.in-GiveUp.is)
    (c.give_up.result, c.without_image-in-GiveUp.ensures, record { given_up = h.given_up; refused = h.refused; active = h.active })
