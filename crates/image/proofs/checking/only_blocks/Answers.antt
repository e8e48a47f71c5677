use Rattle.std.proofs.lemmas.List.{nil_from_length}
use Rattle.std.proofs.Common.{rules, ◌≡◌, length, Ok, List, sym, ap, ◌∙◌, subst}
use Rattle.image.specs.Images.{Entry}
use Rattle.image.specs.inside.Pieces.{AreThere, pieces_in}
use Rattle.image.proofs.PieceLists.{blocks_are, blocks_there}
use Rattle.image.proofs.checking.only_blocks.Goals as goal

pub new-requires : goal.new-requires
new-requires c =
    let r = c.in_ok-rest.rest.now in
    let none : length r ≡ 0 = search rules in
    subst (λ k. AreThere c.args.count k c.args.bytes.now) (sym c.min.ensures) (blocks_there c.args.count c.args.digest c.args.bytes.now r (nil_from_length r none) c.in_ok-rest.ensures)

pub returns : goal.returns
returns c =
    let r = c.in_ok-rest.rest.now in
    let none : length r ≡ 0 = search rules in
    blocks_are c.args.count c.args.digest c.args.bytes.now r (nil_from_length r none) c.in_ok-rest.ensures
    ∙ ap (λ k. Ok (pieces_in c.args.count k c.args.bytes.now)) (sym c.min.ensures) ∙ ap (λ (l : List Entry). Ok l) (sym c.new.ensures)
