use Rattle.std.proofs.Common.{◌≡◌, ◌∙◌, ap, subst, sym, T}
use Rattle.std.specs.FinMap.{entries, empty}
use Rattle.procedure.specs.Table.{KeyMap, with_pairs}
use Rattle.procedure.proofs.Maps.{entries-with_pairs}
use Rattle.procedure.proofs.Results.{if_ok}
use Rattle.procedure.proofs.tables.KeyMap.from_pairs.Goals as goal

pub returns-clause-sorted : goal.returns-clause-sorted
returns-clause-sorted g c =
    λ h.
    if_ok (λ m. m ≡ with_pairs empty c.into_vec.result.items) (λ (m : KeyMap g.row.V.Denot). entries m ≡ c.args.pairs)
    (λ m e. ap entries (e ∙ ap (with_pairs empty) c.into_vec.ensures) ∙ entries-with_pairs c.args.pairs (subst T (sym h) tt))
    c.inserted.result c.inserted.ensures
