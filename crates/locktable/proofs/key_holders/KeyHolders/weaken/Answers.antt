use Rattle.std.proofs.Common.{◌≡◌, ◌<◌, None, Some, slice_get, subst, sym, ap, ◌∙◌}
use Rattle.std.proofs.lemmas.Option.{slice_get_within}
use Rattle.std.specs.Vec.{vec_len}
use Rattle.procedure.proofs.Maps.{at_key}
use Rattle.locktable.specs.Holders.{ChangesTo, mode_among}
use Rattle.locktable.specs.Modes.{IsAtMost}
use Rattle.locktable.specs.Tables.{IsApart}
use Rattle.locktable.proofs.Few.{Pairs, apart-set, has-listed, has-others, joined, removed, removed-apart, set-others, written, written-apart}
use Rattle.locktable.proofs.Setting.{if_some, sets_mode}
use Rattle.locktable.proofs.key_holders.KeyHolders.weaken.Given.{Over}
use Rattle.locktable.proofs.key_holders.KeyHolders.weaken.Goals as goal
use Rattle.locktable.proofs.key_holders.KeyHolders.weaken.Goals.{In-Some}

-- the key stands in the list
there : (g : Over) (c : In-Some g) → slice_get c.self.inside.few.items c.in-Some.index ≡ Some (c.args.key.now, c.in-Some.holders)
there g c = subst (λ (es : Pairs). slice_get es c.in-Some.index ≡ Some (c.args.key.now, c.in-Some.holders)) c.deref.ensures.value c.in-Some.ensures.entry

pub weaken-requires-clause-weaker : goal.weaken-requires-clause-weaker
weaken-requires-clause-weaker g c =
    let absent = subst (λ (es : Pairs). at_key es c.args.key.now ≡ None) c.deref.ensures.value c.in_default.ensures.absent in
    let here = has-others c.self.inside.few.items c.self.inside.many c.self.invariant c.args.self.now c.self.view_is c.args.key.now absent in
    subst (λ o. IsAtMost c.args.mode (mode_among o c.args.session)) here c.requires.weaker

pub invariant_of-self : goal.invariant_of-self
invariant_of-self g c =
    let absent = subst (λ (es : Pairs). at_key es c.args.key.now ≡ None) c.deref.ensures.value c.in_default.ensures.absent in
    apart-set c.self.inside.few.items c.self.inside.many c.self.invariant c.args.key.now c.weaken.new.self c.args.session c.args.mode c.weaken.ensures absent

pub returns-in_default : goal.returns-in_default
returns-in_default g c =
    let absent = subst (λ (es : Pairs). at_key es c.args.key.now ≡ None) c.deref.ensures.value c.in_default.ensures.absent in
    set-others c.self.inside.few.items c.self.inside.many c.self.invariant c.args.self.now c.self.view_is c.args.key.now c.weaken.new.self c.args.session c.args.mode c.weaken.ensures
    absent

pub weakened-requires-clause-weaker : goal.weakened-requires-clause-weaker
weakened-requires-clause-weaker g c =
    let here = has-listed c.self.inside.few.items c.self.inside.many c.self.invariant c.args.self.now c.self.view_is c.args.key.now c.in-Some.index c.in-Some.holders
    (there g (goal.at.weakened-requires-clause-weaker g c).In-Some) in
    subst (λ o. IsAtMost c.args.mode (mode_among o c.args.session)) here c.requires.weaker

-- the place is one of the list
within : (g : Over) (c : In-Some g) → c.in-Some.index < vec_len c.self.inside.few
within g c = subst (λ n. c.in-Some.index < n) (sym c.self.inside.few.ok.0) (slice_get_within c.self.inside.few.items c.in-Some.index (c.args.key.now, c.in-Some.holders) (there g c))

pub index_mut-requires : goal.index_mut-requires
index_mut-requires g c = within g (goal.at.index_mut-requires g c).In-Some

pub swap_remove-gone-requires : goal.swap_remove-gone-requires
swap_remove-gone-requires g c = within g (goal.at.swap_remove-gone-requires g c).In-Some

pub invariant_of-self-in-Some-weakened : goal.invariant_of-self-in-Some-weakened
invariant_of-self-in-Some-weakened g c =
    written-apart c.self.inside.few.items c.self.inside.many c.self.invariant c.args.self.now c.self.view_is c.args.key.now c.in-Some.index c.in-Some.holders
    (there g (goal.at.invariant_of-self-in-Some-weakened g c).In-Some) c.index_mut.result.now c.index_mut.ensures.value c.in-Some-weakened.after

pub returns-in-Some-weakened : goal.returns-in-Some-weakened
returns-in-Some-weakened g c =
    let at = there g (goal.at.returns-in-Some-weakened g c).In-Some in
    let k = c.args.key.now in
    let after = c.in-Some-weakened.after in
    let here = has-listed c.self.inside.few.items c.self.inside.many c.self.invariant c.args.self.now c.self.view_is k c.in-Some.index c.in-Some.holders at in
    sets_mode c.args.self.now _ c.args.session k c.args.mode (Some after)
    (written c.self.inside.few.items c.self.inside.many c.self.invariant c.args.self.now c.self.view_is k c.in-Some.index c.in-Some.holders at c.index_mut.result.now c.index_mut.ensures.value after)
    (subst (λ o. ChangesTo o (Some after) c.args.session c.args.mode) (sym here) c.in-Some-weakened.ensures.others)
    (if_some (Some after) c.in-Some-weakened.ensures.held)

pub invariant_of-self-in-None : goal.invariant_of-self-in-None
invariant_of-self-in-None g c =
    subst (λ (es : Pairs). IsApart es c.self.inside.many) (sym c.swap_remove-gone.ensures.items)
    (removed-apart c.self.inside.few.items c.self.inside.many c.self.invariant c.args.self.now c.self.view_is c.args.key.now c.in-Some.index c.in-Some.holders
    (there g (goal.at.invariant_of-self-in-None g c).In-Some) c.swap_remove-gone.result c.swap_remove-gone.ensures.value)

pub returns-in-None : goal.returns-in-None
returns-in-None g c =
    let at = there g (goal.at.returns-in-None g c).In-Some in
    let k = c.args.key.now in
    let here = has-listed c.self.inside.few.items c.self.inside.many c.self.invariant c.args.self.now c.self.view_is k c.in-Some.index c.in-Some.holders at in
    sets_mode c.args.self.now _ c.args.session k c.args.mode None
    (ap (λ (es : Pairs). joined es c.self.inside.many) c.swap_remove-gone.ensures.items
    ∙ removed c.self.inside.few.items c.self.inside.many c.self.invariant c.args.self.now c.self.view_is k c.in-Some.index c.in-Some.holders at
    c.swap_remove-gone.result c.swap_remove-gone.ensures.value)
    (subst (λ o. ChangesTo o None c.args.session c.args.mode) (sym here) c.in-None.ensures.others)
    (if_some None tt)
