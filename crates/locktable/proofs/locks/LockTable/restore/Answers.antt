use Rattle.std.proofs.Common.{not, sym, ap, ◌∙◌, subst}
use Rattle.locktable.specs.Modes.{IsAtMost}
use Rattle.locktable.specs.Locks.{mode_of, with_lock}
use Rattle.locktable.specs.Tables.{keys_in}
use Rattle.locktable.proofs.Tables.{locks_after, tells}
use Rattle.locktable.proofs.Taking.{given_back, kept_in_place, locks_changed}
use Rattle.locktable.proofs.locks.LockTable.restore.Goals as goal

pub weaken-requires-clause-weaker : goal.weaken-requires-clause-weaker
weaken-requires-clause-weaker g c =
    let s = c.args.session in
    let k = c.args.key.now in
    let told = ap (λ locks. mode_of locks s k) (sym c.self.view_is) ∙ tells c.self.inside.holders (keys_in c.self.inside.held.items) c.self.invariant s k in
    subst (IsAtMost c.args.mode) told c.requires.weaker

pub invariant_of-self : goal.invariant_of-self
invariant_of-self g c =
    given_back c.self.inside.holders c.self.inside.held.items c.self.invariant c.args.session c.requires.session c.index_mut.result.now c.index_mut.ensures.value c.take_out.new.keys
    c.weaken.new.self c.args.key.now c.args.mode c.weaken.ensures (c.is_none.ensures ∙ ap not c.if-is_none.true) c.take_out.ensures.there c.take_out.ensures.absent

pub invariant_of-self-else-is_none : goal.invariant_of-self-else-is_none
invariant_of-self-else-is_none g c =
    let s = c.args.session in
    let k = c.args.key.now in
    let told = ap (λ locks. mode_of locks s k) (sym c.self.view_is) ∙ tells c.self.inside.holders (keys_in c.self.inside.held.items) c.self.invariant s k in
    kept_in_place c.self.inside.holders (keys_in c.self.inside.held.items) c.self.invariant s c.requires.session c.weaken.new.self k c.args.mode c.weaken.ensures (c.is_none.ensures ∙ ap not c.if-is_none.false)
    (subst (IsAtMost c.args.mode) told c.requires.weaker)

pub returns-then-is_none : goal.returns-then-is_none
returns-then-is_none g c =
    let s = c.args.session in
    let k = c.args.key.now in
    locks_changed c.self.inside.holders c.self.inside.held.items c.self.invariant s c.requires.session c.index_mut.result.now c.index_mut.ensures.value c.take_out.new.keys
    c.weaken.new.self k c.args.mode c.weaken.ensures
    (given_back c.self.inside.holders c.self.inside.held.items c.self.invariant s c.requires.session c.index_mut.result.now c.index_mut.ensures.value c.take_out.new.keys
    c.weaken.new.self k c.args.mode c.weaken.ensures (c.is_none.ensures ∙ ap not c.if-is_none.true) c.take_out.ensures.there c.take_out.ensures.absent)
    ∙ ap (λ locks. with_lock locks s k c.args.mode) c.self.view_is

pub returns-else-is_none : goal.returns-else-is_none
returns-else-is_none g c =
    let s = c.args.session in
    let k = c.args.key.now in
    let holders = c.self.inside.holders in
    let held = keys_in c.self.inside.held.items in
    let told = ap (λ locks. mode_of locks s k) (sym c.self.view_is) ∙ tells holders held c.self.invariant s k in
    locks_after holders held c.self.invariant c.weaken.new.self s k c.args.mode c.requires.session c.weaken.ensures held
    (kept_in_place holders held c.self.invariant s c.requires.session c.weaken.new.self k c.args.mode c.weaken.ensures (c.is_none.ensures ∙ ap not c.if-is_none.false)
    (subst (IsAtMost c.args.mode) told c.requires.weaker))
    ∙ ap (λ locks. with_lock locks s k c.args.mode) c.self.view_is
