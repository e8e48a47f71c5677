use Rattle.std.proofs.Common.{◌∙◌}
use Rattle.std.proofs.lemmas.Result.{IfOk-weaker, on_ok_weaker}
use Rattle.steps.proofs.scans.Spots.{given_there, none_there, visits_none, visits_record}
use Rattle.steps.proofs.captures.visit.Goals as goal

pub returns-in-Some-slot-clause-visits : goal.returns-in-Some-slot-clause-visits
returns-in-Some-slot-clause-visits g c =
    on_ok_weaker c.visit_slot.result
    (visits_record c.args.store.now c.args.spot c.in-Some.spot c.in-Some.is c.requires c.in-Some-slot.slot c.in-Some-slot.is c.visit_slot.new.store) c.visit_slot.ensures.ok

pub returns-in-Some-slot-clause-given : goal.returns-in-Some-slot-clause-given
returns-in-Some-slot-clause-given g c =
    IfOk-weaker c.visit_slot.result _ _
    (λ given e. e ∙ given_there c.args.store.now c.args.spot c.in-Some.spot c.in-Some.is c.requires c.in-Some-slot.slot c.in-Some-slot.is) c.visit_slot.ensures.given

pub returns-in-None-clause-visits : goal.returns-in-None-clause-visits
returns-in-None-clause-visits g c = visits_none c.args.store.now c.args.spot c.in-Some.spot c.in-Some.is c.requires c.in-None.is

pub returns-in-None-clause-given : goal.returns-in-None-clause-given
returns-in-None-clause-given g c = none_there c.args.store.now c.args.spot c.in-Some.spot c.in-Some.is c.requires c.in-None.is
