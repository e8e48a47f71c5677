use Rattle.std.proofs.Common.{sym, ◌∙◌}
use Rattle.image.proofs.laws.spellings_law.Goals as goal

pub returns : goal.returns
returns c = λ i x y. (λ p q. p.1 ∙ sym q.1, λ p q. p.1 ∙ sym q.1)
