use Rattle.std.proofs.Common.{sym, ◌∙◌, ap, ◌++◌, ◌∷◌, []}
use Rattle.view.specs.Rows.{changed}
use Rattle.view.proofs.Showing.{taken_in}
use Rattle.view.proofs.tables.ShownAbsorbAppended.absorb_first.Goals as goal

pub invariant_of-self-2 : goal.invariant_of-self-2
invariant_of-self-2 g c =
    let image = c.appended.inside.image in
    let entries = c.in_ok-entries.ensures.items_if_clones_equal (λ x y e. e) ∙ c.entries.ensures.value in
    let at_its_place = c.is.ensures c.if-not-is.false in
    taken_in c.self.inside.images c.again.result image c.self.inside.rows.table c.change.new.self.table c.number.result c.entries.ensures.lawful c.self.invariant.0
    (c.again.ensures ∙ c.appended.invariant ∙ ap (λ is. is ++ image ∷ []) (sym at_its_place))
    (c.change.ensures ∙ (λ j. changed (c.kind.ensures j) (c.reserve.ensures.table j) (entries j)))
    c.number.ensures
