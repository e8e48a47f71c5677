use Rattle.std.proofs.Common.{◌+◌, ◌∙◌, sym}
use Rattle.image.proofs.Pushes.{goes_on, stays}
use Rattle.image.proofs.mergers.Merger.push.Goals as goal
use Rattle.image.proofs.mergers.Merger.push.Goals.{in-Ok+in_ok-chain-in-Ok, in-Err}

pub returns : goal.returns
returns g c = λ images is.
    elim c.match-chain-2.branch [
      | in-Ok+in_ok-chain-in-Ok w ↦
          goes_on images c.args.image c.self.inside.count w.in-Ok.chain c.match-chain-2.chain
          ((λ k. record { count = c.self.inside.count; chain = sym w.in-Ok.is k }) ∙ c.self.view_is ∙ is) c.if-count-ge-IMAGES.false
          (λ none. w.chain-is ∙ w.in_ok-chain-in-Ok.ensures.first none) (λ some. w.chain-is ∙ w.in_ok-chain-in-Ok.ensures.later some)
      | in-Err w ↦
          (λ k. record { count = c.self.inside.count + 1; chain = w.chain-is k })
          ∙ stays images c.args.image c.self.inside.count w.in-Err.refusal ((λ k. record { count = c.self.inside.count; chain = sym w.in-Err.is k }) ∙ c.self.view_is ∙ is) c.if-count-ge-IMAGES.false
    ]
