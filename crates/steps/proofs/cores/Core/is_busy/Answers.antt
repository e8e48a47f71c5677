use Rattle.std.proofs.Common.{ap, ◌∙◌}
use Rattle.steps.specs.CoreViews.{CoreView}
use Rattle.steps.specs.Renewals.{is_busy}
use Rattle.steps.proofs.renewal.RenewalRefusals.{busy_as}
use Rattle.steps.proofs.cores.Core.is_busy.Goals as goal

pub returns : goal.returns
returns g c =
    busy_as c.self.inside.calls.items c.deref.result.now c.are_free.result c.deref.ensures.value c.are_free.ensures ∙ ap (λ (v : CoreView). is_busy v.calls) c.self.view_is
