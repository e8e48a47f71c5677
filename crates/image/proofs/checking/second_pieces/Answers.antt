use Rattle.std.proofs.Common.{sym, ◌∙◌, subst}
use Rattle.image.specs.Fronts.{Gives}
use Rattle.image.proofs.Readings.{second_is}
use Rattle.image.proofs.checking.second_pieces.Goals as goal

pub returns : goal.returns
returns c =
    subst (Gives (λ pieces. pieces) c.only_blocks.result)
    (second_is c.args.bytes.now c.split_at.result.0.now c.split_at.result.1.now c.split_at-2.result.0.now c.digest-digest.result c.as_slice.result.now c.split_at-2.result.1.now c.count_at.result
    c.split_at.ensures.front c.split_at.ensures.back c.split_at-2.ensures.front c.split_at-2.ensures.back c.digest-digest.ensures c.as_slice.ensures c.count_at.ensures
    (sym c.ne.ensures ∙ c.if-ne.false))
    c.only_blocks.ensures
