use Rattle.std.proofs.Common.{◌≡◌, ◌<◌, None, Some, refl, sym, ap, ◌∙◌, subst, slice_set}
use Rattle.std.specs.Vec.{with_item}
use Rattle.std.proofs.lemmas.List.{get_or-set_same}
use Rattle.commitlog.specs.Histories.{phase_of}
use Rattle.steps.specs.CoreViews.{CoreView, open_at, with_call}
use Rattle.steps.specs.inside.CoreFields.{view_of}
use Rattle.steps.proofs.views.CoreState.{sessions_seen}
use Rattle.steps.proofs.sessions.AcceptedCalls.{may_begin}
use Rattle.steps.proofs.sessions.BegunCall.{begun_core, begun_view}
use Rattle.steps.proofs.sessions.CallProgress.{other_rooms}
use Rattle.steps.proofs.cores.Core.begin.Goals as goal

pub invariant_of-self : goal.invariant_of-self
invariant_of-self g c = other_rooms c.self.inside c.self.invariant c.pop-left.new.self

pub set-requires : goal.set-requires
set-requires g c =
    let core = record c.self.inside { rooms = c.pop-left.new.self } in
    let may = may_begin (view_of core) c.args.session c.args.number c.args.procedure c.args.args c.in_ok-call.ensures.refusal in
    subst (λ n. n < 64) (sym c.from-index.ensures) may.session

pub index_mut-requires : goal.index_mut-requires
index_mut-requires g c =
    let core = record c.self.inside { rooms = c.pop-left.new.self } in
    let may = may_begin (view_of core) c.args.session c.args.number c.args.procedure c.args.args c.in_ok-call.ensures.refusal in
    subst (λ n. n < c.self.inside.calls.len) (sym c.from-index.ensures) (subst (λ n. c.args.session < n) (sym (c.self.inside.calls.ok.0 ∙ c.self.invariant.sessions)) may.session)

pub invariant_of-self-2 : goal.invariant_of-self-2
invariant_of-self-2 g c =
    let core = record c.self.inside { rooms = c.pop-left.new.self } in
    let may = may_begin (view_of core) c.args.session c.args.number c.args.procedure c.args.args c.in_ok-call.ensures.refusal in
    let at : c.from-index.result ≡ c.args.session = c.from-index.ensures in
    other_rooms _
    (begun_core core (other_rooms c.self.inside c.self.invariant c.pop-left.new.self) (view_of core) refl c.args.session c.args.number c.args.procedure c.args.args c.in_ok-call.call
    (with_item c.self.inside.calls c.from-index.result (Some c.in_ok-call.call)) c.set.new.self
    may c.in_ok-call.ensures.call c.in_ok-call.ensures.progress c.in_ok-call.ensures.notes
    (ap (λ i. slice_set c.self.inside.calls.items i (Some c.in_ok-call.call)) at)
    (c.set.ensures ∙ ap (λ i. slice_set c.self.inside.active i (Some c.self.inside.phase)) at))
    c.put_back.new.rooms

pub returns-clause-begun : goal.returns-clause-begun
returns-clause-begun g c =
    let core = record c.self.inside { rooms = c.pop-left.new.self } in
    let at : c.from-index.result ≡ c.args.session = c.from-index.ensures in
    let calls = with_item c.self.inside.calls c.from-index.result (Some c.in_ok-call.call) in
    subst (λ (v : CoreView). view_of (record core { calls = calls; active = c.set.new.self; rooms = c.put_back.new.rooms }) ≡ with_call v c.args.session (Some (record { number = c.args.number; procedure = c.args.procedure; args = c.args.args; start = phase_of v.log; count = 0 })))
    c.self.view_is
    (begun_view core (other_rooms c.self.inside c.self.invariant c.pop-left.new.self) (view_of core) refl c.args.session c.args.number c.args.procedure c.args.args c.in_ok-call.call
    calls c.set.new.self c.in_ok-call.ensures.call (ap (λ i. slice_set c.self.inside.calls.items i (Some c.in_ok-call.call)) at))

pub returns-clause-open : goal.returns-clause-open
returns-clause-open g c =
    let core = record c.self.inside { rooms = c.pop-left.new.self } in
    let may = may_begin (view_of core) c.args.session c.args.number c.args.procedure c.args.args c.in_ok-call.ensures.refusal in
    let many = sessions_seen c.self.inside c.self.invariant c.self.view_is in
    ap (λ v. open_at v c.args.session) (returns-clause-begun g c)
    ∙ get_or-set_same c.args.self.now.calls c.args.session _ None (subst (λ n. c.args.session < n) (sym many) may.session)
