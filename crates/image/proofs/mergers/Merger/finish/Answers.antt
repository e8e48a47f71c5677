use Rattle.std.proofs.Common.{◌∙◌, sym, arith}
use Rattle.image.proofs.Pushes.{finished}
use Rattle.image.proofs.mergers.Merger.finish.Goals as goal

pub returns-clause-merge : goal.returns-clause-merge
returns-clause-merge g c = λ images is.
    finished images c.self.inside.count c.in_ok-chain.chain c.full_image_of.result
    ((λ k. record { count = c.self.inside.count; chain = sym c.in_ok-chain.was k }) ∙ c.self.view_is ∙ is)
    (omega arith) c.full_image_of.ensures.value c.full_image_of.ensures.refusal
