use Rattle.std.proofs.Common.{◌≤◌, length, sym, subst, arith}
use Rattle.commitlog.specs.declared.limits.TheConstants.{LOG_RECORDS}
use Rattle.steps.specs.CoreViews.{CoreView}
use Rattle.steps.proofs.phases.AddedToken.{number_within, same_core}
use Rattle.steps.proofs.phases.StartedCheckpoint.{start_core, start_number, start_view, starts_at_rest, starts_untaken}
use Rattle.steps.proofs.cores.Core.start_by.Goals as goal

pub overflow_add-number : goal.overflow_add-number
overflow_add-number g c =
    let few = number_within c.self.inside c.self.invariant in
    let most = subst (λ (v : CoreView). length v.log ≤ LOG_RECORDS) (sym c.self.view_is) c.in_ok-may_start.ensures.few in
    omega (arith, few, most)

pub invariant_of-self : goal.invariant_of-self
invariant_of-self g c = same_core c.self.inside c.self.invariant c.push_token.new.log c.in-Err.ensures.err

pub invariant_of-self-2 : goal.invariant_of-self-2
invariant_of-self-2 g c =
    start_core c.self.inside c.self.invariant c.args.kind c.args.way c.push_token.new.log
    (starts_at_rest c.self.inside c.self.invariant c.args.self.now c.self.view_is c.in_ok-may_start.ensures.ok)
    (starts_untaken c.self.inside c.self.invariant c.args.self.now c.self.view_is c.in_ok-may_start.ensures.ok) c.in-Ok.ensures.ok

pub returns-clause-started : goal.returns-clause-started
returns-clause-started g c =
    start_view c.self.inside c.self.invariant c.args.kind c.args.way c.push_token.new.log
    (starts_at_rest c.self.inside c.self.invariant c.args.self.now c.self.view_is c.in_ok-may_start.ensures.ok)
    (starts_untaken c.self.inside c.self.invariant c.args.self.now c.self.view_is c.in_ok-may_start.ensures.ok) c.in-Ok.ensures.ok c.args.self.now c.self.view_is

pub returns-clause-number : goal.returns-clause-number
returns-clause-number g c =
    start_number c.self.inside c.self.invariant c.args.kind c.args.way c.push_token.new.log
    (starts_at_rest c.self.inside c.self.invariant c.args.self.now c.self.view_is c.in_ok-may_start.ensures.ok)
    (starts_untaken c.self.inside c.self.invariant c.args.self.now c.self.view_is c.in_ok-may_start.ensures.ok) c.in-Ok.ensures.ok c.args.self.now c.self.view_is
