use Rattle.std.proofs.Common.{◌≡◌, None, Some, slice_get, subst, sym, ◌∙◌}
use Rattle.procedure.proofs.Maps.{at_key}
use Rattle.locktable.proofs.Few.{Pairs, has-listed, has-others, lacks}
use Rattle.locktable.proofs.key_holders.KeyHolders.get.Goals as goal

pub returns-in-Some : goal.returns-in-Some
returns-in-Some g c =
    let there = subst (λ (es : Pairs). slice_get es c.in-Some._index ≡ Some (c.args.key.now, c.in-Some.holders)) c.deref.ensures.value c.in-Some.ensures.entry in
    sym (has-listed c.self.inside.few.items c.self.inside.many c.self.invariant c.args.self.now c.self.view_is c.args.key.now c.in-Some._index c.in-Some.holders there)

pub returns-in-None : goal.returns-in-None
returns-in-None g c =
    let absent = subst (λ (es : Pairs). at_key es c.args.key.now ≡ None) c.deref.ensures.value c.in-None.ensures.absent in
    sym (has-others c.self.inside.few.items c.self.inside.many c.self.invariant c.args.self.now c.self.view_is c.args.key.now absent
    ∙ lacks c.self.inside.many c.args.key.now (c.is_empty.ensures.0 c.if-is_empty.true))

pub returns-in-None-2 : goal.returns-in-None-2
returns-in-None-2 g c =
    let absent = subst (λ (es : Pairs). at_key es c.args.key.now ≡ None) c.deref.ensures.value c.in-None-2.ensures.absent in
    c.get.ensures ∙ sym (has-others c.self.inside.few.items c.self.inside.many c.self.invariant c.args.self.now c.self.view_is c.args.key.now absent)
