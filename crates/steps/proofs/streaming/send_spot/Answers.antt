use Rattle.std.proofs.Common.{Option, sym, subst, ap}
use Rattle.std.proofs.lemmas.Result.{IfErr-weaker, on_ok_weaker}
use Rattle.steps.specs.Versions.{Noted, given_of, kept_of, versions_in}
use Rattle.steps.specs.inside.Sends.{IsRefused, IsSent}
use Rattle.steps.specs.inside.Spots.{key_of_spot}
use Rattle.steps.proofs.scans.SentEntries.{sent_none}
use Rattle.steps.proofs.scans.Spots.{given_there, none_there, visits_none, visits_record}
use Rattle.steps.proofs.streaming.send_spot.Goals as goal

pub returns-in-Some-slot-clause-visits : goal.returns-in-Some-slot-clause-visits
returns-in-Some-slot-clause-visits g c =
    on_ok_weaker c.send_slot.result
    (visits_record c.args.store.now c.args.spot c.in-Some.spot c.in-Some.is c.requires.found c.in-Some-slot.slot c.in-Some-slot.is c.send_slot.new.store) c.send_slot.ensures.ok

pub returns-in-Some-slot-clause-sent : goal.returns-in-Some-slot-clause-sent
returns-in-Some-slot-clause-sent g c =
    on_ok_weaker c.send_slot.result
    (subst
    (λ (o : Option Noted). IsSent (kept_of c.args.kind o) c.args.tap.now c.send_slot.new.tap c.args.given.now c.send_slot.new.given c.args.tally.now c.send_slot.new.tally)
    (given_there c.args.store.now c.args.spot c.in-Some.spot c.in-Some.is c.requires.found c.in-Some-slot.slot c.in-Some-slot.is))
    c.send_slot.ensures.sent

pub returns-in-Some-slot-clause-why : goal.returns-in-Some-slot-clause-why
returns-in-Some-slot-clause-why g c =
    IfErr-weaker c.send_slot.result _ _
    (λ e. subst (λ (o : Option Noted). IsRefused c.args.kind o c.args.tap.now e)
    (given_there c.args.store.now c.args.spot c.in-Some.spot c.in-Some.is c.requires.found c.in-Some-slot.slot c.in-Some-slot.is))
    c.send_slot.ensures.why

pub returns-in-None-clause-visits : goal.returns-in-None-clause-visits
returns-in-None-clause-visits g c = visits_none c.args.store.now c.args.spot c.in-Some.spot c.in-Some.is c.requires.found c.in-None.is

pub returns-in-None-clause-sent : goal.returns-in-None-clause-sent
returns-in-None-clause-sent g c =
    sent_none c.args.tap.now c.args.given.now c.args.tally.now (kept_of c.args.kind (given_of (versions_in c.args.store.now) (key_of_spot c.args.spot)))
    (ap (kept_of c.args.kind) (sym (none_there c.args.store.now c.args.spot c.in-Some.spot c.in-Some.is c.requires.found c.in-None.is)))
