use Rattle.std.proofs.Common.{IsSome, None, length, sym, ap, ◌∙◌, subst, append-nil}
use Rattle.locktable.specs.Locks.{Locks, locks_of, mode_of, with_lock}
use Rattle.locktable.specs.Tables.{IsSound, keys_in, locks_in}
use Rattle.locktable.proofs.Listing.{last_listed, last_moved}
use Rattle.locktable.proofs.Tables.{sessions}
use Rattle.locktable.proofs.Taking.{held_if_listed, if_none, locks_changed, nothing_left, released_sound, same_keys_in}
use Rattle.locktable.proofs.locks.LockTable.release.Goals as goal

pub invariant_of-self : goal.invariant_of-self
invariant_of-self g c =
    let same = same_keys_in c.self.inside.holders c.self.inside.held.items c.self.invariant c.args.session c.requires c.index_mut.result.now c.index_mut.ensures.value c.pop.new.self
    (sym (c.in_err-key.ensures.items ∙ append-nil c.pop.new.self.items)) in
    subst (IsSound c.self.inside.holders) (sym same) c.self.invariant

pub returns-in_err-key-clause-none : goal.returns-in_err-key-clause-none
returns-in_err-key-clause-none g c =
    if_none c.from_residual.result (ap (λ (locks : Locks). locks_of locks c.args.session) (sym c.self.view_is)
    ∙ nothing_left c.self.inside.holders c.self.inside.held.items c.self.invariant c.args.session c.requires c.index_mut.result.now c.index_mut.ensures.value c.in_err-key.ensures.cases.0)

pub returns-in_err-key-clause-same : goal.returns-in_err-key-clause-same
returns-in_err-key-clause-same g c =
    let same = same_keys_in c.self.inside.holders c.self.inside.held.items c.self.invariant c.args.session c.requires c.index_mut.result.now c.index_mut.ensures.value c.pop.new.self
    (sym (c.in_err-key.ensures.items ∙ append-nil c.pop.new.self.items)) in
    if_none c.from_residual.result (ap (locks_in c.self.inside.holders) same ∙ c.self.view_is)

pub returns-in_err-key-clause-sessions : goal.returns-in_err-key-clause-sessions
returns-in_err-key-clause-sessions g c = ap length (sym c.self.view_is) ∙ sessions c.self.inside.holders (keys_in c.self.inside.held.items) c.self.invariant

pub invariant_of-self-2 : goal.invariant_of-self-2
invariant_of-self-2 g c =
    released_sound c.self.inside.holders c.self.inside.held.items c.self.invariant c.args.session c.requires c.index_mut.result.now c.index_mut.ensures.value c.pop.new.self
    c.weaken.new.self c.in_ok-key.key c.weaken.ensures (last_moved _ _ c.in_ok-key.key c.in_ok-key.ensures.items)

pub returns-clause-held : goal.returns-clause-held
returns-clause-held g c =
    subst (λ (locks : Locks). IsSome (mode_of locks c.args.session c.in_ok-key.key)) c.self.view_is
    (held_if_listed c.self.inside.holders c.self.inside.held.items c.self.invariant c.args.session c.requires c.index_mut.result.now c.index_mut.ensures.value
    c.in_ok-key.key (last_listed _ _ c.in_ok-key.key c.in_ok-key.ensures.items))

pub returns-clause-released : goal.returns-clause-released
returns-clause-released g c =
    locks_changed c.self.inside.holders c.self.inside.held.items c.self.invariant c.args.session c.requires c.index_mut.result.now c.index_mut.ensures.value c.pop.new.self
    c.weaken.new.self c.in_ok-key.key None c.weaken.ensures
    (released_sound c.self.inside.holders c.self.inside.held.items c.self.invariant c.args.session c.requires c.index_mut.result.now c.index_mut.ensures.value c.pop.new.self
    c.weaken.new.self c.in_ok-key.key c.weaken.ensures (last_moved _ _ c.in_ok-key.key c.in_ok-key.ensures.items))
    ∙ ap (λ (locks : Locks). with_lock locks c.args.session c.in_ok-key.key None) c.self.view_is

pub returns-clause-sessions : goal.returns-clause-sessions
returns-clause-sessions g c = ap length (sym c.self.view_is) ∙ sessions c.self.inside.holders (keys_in c.self.inside.held.items) c.self.invariant
