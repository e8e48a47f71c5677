use Rattle.std.proofs.Common.{◌<◌, List, length, slice_get, subst, ap, sym, ◌∙◌}
use Rattle.procedure.proofs.Slices.{copied_get, get_within}
use Rattle.procedure.proofs.sequences.Sequence.get.Goals as goal

pub returns-clause-value : goal.returns-clause-value
returns-clause-value g c =
    copied_get c.get.result c.deref.result.now c.args.index c.get.ensures.lookup.3
    ∙ ap (λ (s : List g.row.T.Denot). slice_get s c.args.index) (c.deref.ensures.value ∙ c.self.view_is)

pub returns-clause-within : goal.returns-clause-within
returns-clause-within g c =
    let length_is = ap (λ (s : List g.row.T.Denot). length s) (c.deref.ensures.value ∙ c.self.view_is) in (
      λ is. subst (λ n. c.args.index < n) length_is (get_within c.get.result c.deref.result.now c.args.index c.get.ensures.lookup.3 is),
      λ within. c.get.ensures.lookup.2 (subst (λ n. c.args.index < n) (sym length_is) within),
    )
