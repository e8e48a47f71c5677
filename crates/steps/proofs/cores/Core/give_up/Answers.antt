use Rattle.std.proofs.Common.{◌≡◌, ◌<◌, None, Option, IsSome, Vec, refl, sym, ap, ◌∙◌, subst}
use Rattle.steps.specs.inside.CoreFields.{IsCore, view_of}
use Rattle.steps.specs.CoreViews.{GivesUp, Underway, open_at}
use Rattle.steps.specs.declared.calls.OpenCall.{OpenCall}
use Rattle.steps.proofs.sessions.CallProgress.{other_rooms}
use Rattle.steps.proofs.sessions.EndedCall.{within, gave_up, give_up_core, give_up_view, is_open, not_open}
use Rattle.steps.proofs.cores.Core.give_up.Goals as goal

pub release_all-requires : goal.release_all-requires
release_all-requires g c = subst (λ n. c.from-index.result < n) c.self.invariant.sessions (within c.self.inside c.self.invariant c.from-index.result c.in-Some.call (sym c.in-Some.ensures.value))

pub clear-requires : goal.clear-requires
clear-requires g c = subst (λ n. c.from-index.result < n) c.self.invariant.sessions (within c.self.inside c.self.invariant c.from-index.result c.in-Some.call (sym c.in-Some.ensures.value))

pub invariant_of-self : goal.invariant_of-self
invariant_of-self g c =
    other_rooms _
    (give_up_core c.self.inside c.self.invariant c.from-index.result c.in-Some.call
    (sym c.in-Some.ensures.value) c.taken.new.kept c.undo_all.new.store c.release_all.new.self c.clear.new.self c.after_release-self-inside.result
    c.in-Some.ensures.some c.undo_all.ensures.versions c.undo_all.ensures.keys c.release_all.ensures c.clear.ensures c.after_release-self-inside.ensures) c.keep_room.new.rooms

pub invariant_of-self-in-None : goal.invariant_of-self-in-None
invariant_of-self-in-None g c =
    subst (λ (calls : Vec (Option (OpenCall g.row.A.Denot)) g.row.A.Denot). IsCore (record c.self.inside { calls = calls })) (sym (c.in-None.ensures.none refl)) c.self.invariant

pub returns-in-Some-clause-given_up : goal.returns-in-Some-clause-given_up
returns-in-Some-clause-given_up g c =
    subst (λ i. GivesUp c.args.self.now (view_of (gave_up c.self.inside c.self.invariant c.from-index.result c.taken.new.kept c.undo_all.new.store c.release_all.new.self c.clear.new.self
    c.after_release-self-inside.result)) i) c.from-index.ensures
    (give_up_view c.self.inside c.self.invariant c.from-index.result c.in-Some.call
    (sym c.in-Some.ensures.value) c.taken.new.kept c.undo_all.new.store c.release_all.new.self c.clear.new.self c.after_release-self-inside.result
    c.args.self.now c.self.view_is c.in-Some.ensures.some c.undo_all.ensures.versions c.undo_all.ensures.slots c.undo_all.ensures.same)

pub returns-in-Some-clause-active : goal.returns-in-Some-clause-active
returns-in-Some-clause-active g c = (
  λ _. subst (λ i. IsSome (open_at c.args.self.now i)) c.from-index.ensures
      (is_open c.self.inside c.self.invariant c.from-index.result c.in-Some.call c.args.self.now c.self.view_is (sym c.in-Some.ensures.value)),
  λ _. refl,
)

pub returns-in-None-clause-active : goal.returns-in-None-clause-active
returns-in-None-clause-active g c =
    let none : open_at c.args.self.now c.args.session ≡ None = ap (open_at c.args.self.now) (sym c.from-index.ensures) ∙
    not_open c.self.inside c.self.invariant c.from-index.result c.args.self.now c.self.view_is (sym c.in-None.ensures.value) in
    (λ e. absurd (cc), λ h. let yes : IsSome {T = Underway} None = subst (λ o. IsSome o) none h in absurd (cc))

pub returns-in-None-clause-refused : goal.returns-in-None-clause-refused
returns-in-None-clause-refused g c =
    ap (λ (calls : Vec (Option (OpenCall g.row.A.Denot)) g.row.A.Denot). view_of (record c.self.inside { calls = calls })) (c.in-None.ensures.none refl) ∙ c.self.view_is
