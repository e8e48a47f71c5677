use Rattle.std.proofs.Common.{◌≤◌, length, ap, sym, subst, ◌∙◌}
use Rattle.commitlog.specs.declared.limits.TheConstants.{LOG_RECORDS}
use Rattle.steps.specs.CoreViews.{CoreView}
use Rattle.steps.proofs.sessions.CallProgress.{same_test}
use Rattle.steps.proofs.cores.Core.is_log_full.Goals as goal

pub returns-clause-full : goal.returns-clause-full
returns-clause-full g c =
    same_test c.is_full.result (length c.args.self.now.log) LOG_RECORDS (λ e. ap (λ (v : CoreView). length v.log) (sym c.self.view_is) ∙ c.is_full.ensures.value.0 e)
    (λ e. c.is_full.ensures.value.1 (ap (λ (v : CoreView). length v.log) c.self.view_is ∙ e))

pub returns-clause-most : goal.returns-clause-most
returns-clause-most g c = subst (λ (v : CoreView). length v.log ≤ LOG_RECORDS) c.self.view_is c.is_full.ensures.most
