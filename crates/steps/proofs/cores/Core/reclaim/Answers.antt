use Rattle.record_store.specs.ChangedSets.{has}
use Rattle.steps.proofs.reclaim.ReclaimedCore.{learnt_by, none_core, none_key, nothing_gone, reasons_here, some_core, some_key, some_view}
use Rattle.steps.proofs.views.CoreState.{phase_by}
use Rattle.steps.proofs.cores.Core.reclaim.Goals as goal

pub returns-in_default : goal.returns-in_default
returns-in_default g c = record {
  key = λ resting key goes. c.in_default.not-Rest (phase_by c.self.inside c.self.invariant c.self.view_is resting);
  reclaimed = nothing_gone c.args.self.now;
}

pub next_to_go-requires-clause-reasons : goal.next_to_go-requires-clause-reasons
next_to_go-requires-clause-reasons g c = c.learn.ensures.reasons (has c.self.inside.changed.collecting) c.self.inside.locks (reasons_here c.self.inside c.self.invariant c.in-Rest.is)

pub invariant_of-self : goal.invariant_of-self
invariant_of-self g c =
    some_core c.self.inside c.self.invariant c.in-Rest.is c.next_to_go.new.store c.next_to_go.new.aside
    (learnt_by c.self.inside c.self.invariant c.in-Rest.is c.next_to_go.new.store c.next_to_go.new.aside c.learn.new.store c.next_to_go.ensures.known c.next_to_go.ensures.reasons
    c.next_to_go.ensures.once c.next_to_go.ensures.records c.learn.ensures.records)
    c.args.self.now c.self.view_is c.in-Some.found.0 c.in-Some.found.1 c.in-Some.ensures.least c.in-Some.ensures.key c.in-Some.ensures.uncollected c.in-Some.ensures.free c.reclaim.new.self
    c.reclaim.ensures

pub invariant_of-self-in-None : goal.invariant_of-self-in-None
invariant_of-self-in-None g c =
    none_core c.self.inside c.self.invariant c.in-Rest.is c.next_to_go.new.store c.next_to_go.new.aside
    (learnt_by c.self.inside c.self.invariant c.in-Rest.is c.next_to_go.new.store c.next_to_go.new.aside c.learn.new.store c.next_to_go.ensures.known c.next_to_go.ensures.reasons
    c.next_to_go.ensures.once c.next_to_go.ensures.records c.learn.ensures.records)
    c.args.self.now c.self.view_is

pub returns-in-Some : goal.returns-in-Some
returns-in-Some g c =
    let learnt = learnt_by c.self.inside c.self.invariant c.in-Rest.is c.next_to_go.new.store c.next_to_go.new.aside c.learn.new.store c.next_to_go.ensures.known c.next_to_go.ensures.reasons
    c.next_to_go.ensures.once c.next_to_go.ensures.records c.learn.ensures.records in
    record {
      key = some_key c.self.inside c.self.invariant c.in-Rest.is c.next_to_go.new.store c.next_to_go.new.aside learnt c.args.self.now c.self.view_is c.in-Some.found.0 c.in-Some.found.1
          c.in-Some.ensures.least c.in-Some.ensures.key c.in-Some.ensures.uncollected c.in-Some.ensures.free c.reclaim.new.self c.reclaim.ensures;
      reclaimed = some_view c.self.inside c.self.invariant c.in-Rest.is c.next_to_go.new.store c.next_to_go.new.aside learnt c.args.self.now c.self.view_is c.in-Some.found.0 c.in-Some.found.1
          c.in-Some.ensures.least c.in-Some.ensures.key c.in-Some.ensures.uncollected c.in-Some.ensures.free c.reclaim.new.self c.reclaim.ensures;
    }

pub returns-in-None-clause-key : goal.returns-in-None-clause-key
returns-in-None-clause-key g c =
    none_key c.self.inside c.self.invariant c.in-Rest.is c.next_to_go.new.store c.next_to_go.new.aside
    (learnt_by c.self.inside c.self.invariant c.in-Rest.is c.next_to_go.new.store c.next_to_go.new.aside c.learn.new.store c.next_to_go.ensures.known c.next_to_go.ensures.reasons
    c.next_to_go.ensures.once c.next_to_go.ensures.records c.learn.ensures.records)
    c.args.self.now c.self.view_is c.in-None.ensures.least
