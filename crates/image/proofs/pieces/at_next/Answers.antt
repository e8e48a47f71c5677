use Rattle.std.proofs.Common.{◌≡◌, subst, arith, Some}
use Rattle.image.specs.Fronts.{entry_at}
use Rattle.image.specs.inside.Pieces.{past_digest}
use Rattle.image.proofs.PieceLists.{has_digest, more}
use Rattle.image.proofs.pieces.at_next.Goals as goal

pub split_at-requires : goal.split_at-requires
split_at-requires c =
    let b = c.args.rest.now in
    let m = more c.args.left c.args.block b c.requires.some c.requires.there in
    let none : c.args.block ≡ 0 = omega (arith, c.if-block-gt0.false) in
    has_digest b m.first (subst (λ k. entry_at (past_digest k b) ≡ Some m.first) none m.found)
