use Rattle.std.proofs.Common.{sym, ap, ◌∙◌}
use Rattle.std.specs.FinMap.{slice_cmp-IsAntisymmetric, nat_cmp-IsAntisymmetric}
use Rattle.std.proofs.lemmas.List.{get_or_default}
use Rattle.image.specs.Images.{Entry}
use Rattle.image.proofs.layers.place_of.Goals as goal

pub returns-in-Equal-clause-key : goal.returns-in-Equal-clause-key
returns-in-Equal-clause-key g c = λ e.
    let es = c.args.entries.now in
    ap (λ (f : Entry). f.0) (get_or_default es c.loop-at.at e c.index-entries-at.result c.loop-at-test.true ∙ sym c.index-entries-at.is)
    ∙ slice_cmp-IsAntisymmetric nat_cmp-IsAntisymmetric c.index-entries-at.result.0 c.args.key.now (sym c.compared.ensures ∙ c.in-Equal.is)
