use Rattle.std.proofs.Common.{Some, None, refl, sym, ap, ◌∙◌, subst}
use Rattle.std.specs.Cmp.Lexicographic.{nat_list_eq_equiv}
use Rattle.indexmap.proofs.CallerLemmas.{updates-with_value_at}
use Rattle.procedure.specs.Table.{KeyMap}
use Rattle.locktable.specs.declared.holders.Holders.{Holders}
use Rattle.locktable.specs.Locks.{with_entry}
use Rattle.locktable.specs.Holders.{ChangesTo, mode_among}
use Rattle.locktable.specs.Modes.{IsAtMost}
use Rattle.procedure.proofs.Maps.{get-view}
use Rattle.locktable.proofs.Lookups.{at_some, index-with_entry}
use Rattle.locktable.proofs.Setting.{if_some, sets_mode, sets_nothing}
use Rattle.locktable.proofs.many_holders.ManyHolders.weaken.Goals as goal

pub returns-in_default : goal.returns-in_default
returns-in_default g c =
    let here = get-view c.self.inside.entries.entries c.args.self.now c.self.view_is c.args.key.now in
    sets_nothing c.args.self.now c.args.self.now c.args.session c.args.key.now c.args.mode refl (here ∙ sym c.in_default.ensures.value) c.requires.weaker

pub weakened-requires-clause-weaker : goal.weakened-requires-clause-weaker
weakened-requires-clause-weaker g c =
    let here = get-view c.self.inside.entries.entries c.args.self.now c.self.view_is c.args.key.now in
    subst (λ o. IsAtMost c.args.mode (mode_among o c.args.session)) (here ∙ sym c.in-Some.ensures.value) c.requires.weaker

pub returns-in-Some-weakened : goal.returns-in-Some-weakened
returns-in-Some-weakened g c =
    let es = c.self.inside.entries.entries in
    let k = c.args.key.now in
    let after = c.in-Some-weakened.after in
    let here = get-view es c.args.self.now c.self.view_is k in
    let updates = updates-with_value_at c.self.inside.entries c.in-Some.index after nat_list_eq_equiv c.pair_mut-place.ensures.unique k c.in-Some.holders c.in-Some.ensures.entry in
    sets_mode c.args.self.now _ c.args.session k c.args.mode (Some after)
    (index-with_entry es _ k (Some after) updates.0 ∙ ap (λ (m : KeyMap Holders). with_entry m k (Some after)) c.self.view_is)
    (subst (λ o. ChangesTo o (Some after) c.args.session c.args.mode) (c.in-Some.ensures.value ∙ sym here) c.in-Some-weakened.ensures.others)
    (if_some (Some after) c.in-Some-weakened.ensures.held)

pub returns-in-None : goal.returns-in-None
returns-in-None g c =
    let es = c.self.inside.entries.entries in
    let k = c.args.key.now in
    let here = get-view es c.args.self.now c.self.view_is k in
    let updates = at_some c.swap_remove_index-last.result _ c.swap_remove_index-last.ensures.updates _ (c.swap_remove_index-last.ensures.entry ∙ c.in-Some.ensures.entry) in
    sets_mode c.args.self.now _ c.args.session k c.args.mode None
    (index-with_entry es c.swap_remove_index-last.new.self.entries k None updates.0
    ∙ ap (λ (m : KeyMap Holders). with_entry m k None) c.self.view_is)
    (subst (λ o. ChangesTo o None c.args.session c.args.mode) (c.in-Some.ensures.value ∙ sym here) c.in-None.ensures.others)
    (if_some None tt)
