use Rattle.steps.proofs.phases.AbandonedCheckpoint.{abandon_core, abandon_view, abandons_from}
use Rattle.steps.proofs.phases.AddedToken.{number_seen}
use Rattle.steps.proofs.sessions.CallProgress.{roomy_core}
use Rattle.steps.proofs.cores.Core.abandon.Goals as goal

pub invariant_of-self : goal.invariant_of-self
invariant_of-self g c =
    roomy_core c.self.inside c.self.invariant c.make_abandoned.new.log c.make_abandoned.new.changed c.in-Err.ensures.same_log c.in-Err.ensures.same_keys c.in-Err.ensures.same_frozen

pub invariant_of-self-2 : goal.invariant_of-self-2
invariant_of-self-2 g c =
    let made = c.in-Ok.ensures in
    abandon_core c.self.inside c.self.invariant c.make_abandoned.new.log c.next_number.new.self c.make_abandoned.new.changed c.restart_all.new.calls c.restart.new.self c.clear.new.self
    (abandons_from c.self.inside c.self.invariant c.args.self.now c.self.view_is c.in_ok-may_abandon.ensures.ok) made.log c.next_number.ensures made.collecting made.frozen c.restart_all.ensures
    c.restart.ensures

pub returns-clause-abandoned : goal.returns-clause-abandoned
returns-clause-abandoned g c =
    let made = c.in-Ok.ensures in
    abandon_view c.self.inside c.self.invariant c.make_abandoned.new.log c.next_number.new.self c.make_abandoned.new.changed c.restart_all.new.calls c.restart.new.self
    c.clear.new.self
    (abandons_from c.self.inside c.self.invariant c.args.self.now c.self.view_is c.in_ok-may_abandon.ensures.ok) made.log c.next_number.ensures made.collecting made.frozen c.restart_all.ensures
    c.restart.ensures c.args.self.now c.self.view_is

pub returns-clause-number : goal.returns-clause-number
returns-clause-number g c = number_seen c.self.inside c.self.invariant c.args.self.now c.self.view_is
