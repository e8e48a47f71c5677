use Rattle.std.proofs.Common.{sym, ◌∙◌, subst}
use Rattle.image.specs.Fronts.{Gives}
use Rattle.image.proofs.Readings.{first_is}
use Rattle.image.proofs.checking.first_pieces.Goals as goal

pub returns : goal.returns
returns c =
    subst (Gives (λ pieces. pieces) c.only_entries.result)
    (first_is c.args.bytes.now c.split_at.result.0.now c.split_at.result.1.now c.as_slice.result.now c.split_at-2.result.1.now c.count_at.result c.split_at.ensures.front c.split_at.ensures.back
    (c.as_slice.ensures ∙ c.digest.ensures) c.count_at.ensures c.split_at-2.ensures.back (sym c.ne.ensures ∙ c.if-ne.false))
    c.only_entries.ensures
