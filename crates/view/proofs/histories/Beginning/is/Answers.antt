use Rattle.std.proofs.Common.{ap, subst, arith, List, sym, ◌∙◌}
use mathlib.Core.List.{IsPrefix}
use Rattle.image.specs.Images.{Image}
use Rattle.view.proofs.Beginnings.{begins_longer, whole}
use Rattle.view.proofs.histories.Beginning.is.Goals as goal

pub returns-then-self-other : goal.returns-then-self-other
returns-then-self-other g c = λ _.
    let both = c.learn.new.self.log in
    let this = c.self.inside.seen.log in
    let that = c.other.inside.seen.log in
    let below : IsPrefix this both = subst (λ (l : List Image). IsPrefix l both) (ap (λ s. s.log) c.again-both.ensures) c.learn.ensures.2 in
    let begins = begins_longer this that both below c.learn.ensures.3 (omega (arith, c.self.invariant.0, c.other.invariant.0, c.if-self-other.true)) in
    sym c.self.view_is
    ∙ whole this that begins (omega (arith, c.self.invariant.0, c.other.invariant.0, c.if-self-other.true))
    ∙ c.other.view_is
