use Rattle.std.proofs.Common.{◌∙◌, ap, subst}
use Rattle.std.specs.FinMap.{entries}
use Rattle.std.specs.List.Sorted.{IsPermutation}
use Rattle.procedure.specs.Table.{KeyMap}
use Rattle.procedure.proofs.Sorting.{sorted_entries}
use Rattle.procedure.proofs.tables.KeyMap.into_pairs.Goals as goal

pub returns : goal.returns
returns g c =
    let es = c.self.inside.entries.entries in
    let ys = c.sort_by_keys.new.pairs.items in
    let moved = subst (λ l. IsPermutation l ys) c.in_ok-pairs.ensures.pairs c.sort_by_keys.ensures.moved in
    c.new.ensures
    ∙ sorted_entries es ys moved c.in_ok-pairs.ensures.once c.sort_by_keys.ensures.in_order
    ∙ ap (λ (m : KeyMap g.row.V.Denot). entries m) c.self.view_is
