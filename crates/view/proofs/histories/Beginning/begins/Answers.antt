use Rattle.std.proofs.Common.{ap, subst, arith, List}
use mathlib.Core.List.{IsPrefix}
use Rattle.image.specs.Images.{Image}
use Rattle.view.proofs.Beginnings.{begins_longer}
use Rattle.view.proofs.histories.Beginning.begins.Goals as goal

pub returns-then-self-other : goal.returns-then-self-other
returns-then-self-other g c =
    let both = c.learn.new.self.log in
    let this = c.self.inside.seen.log in
    let that = c.other.inside.seen.log in
    let below : IsPrefix this both = subst (λ (l : List Image). IsPrefix l both) (ap (λ s. s.log) c.again-both.ensures) c.learn.ensures.2 in
    rw (← c.self.view_is, ← c.other.view_is) (begins_longer this that both below c.learn.ensures.3 (omega (arith, c.self.invariant.0, c.other.invariant.0, c.if-self-other.true)))

pub returns : goal.returns
returns g c =
    let both = c.learn.new.self.log in
    let this = c.self.inside.seen.log in
    let that = c.other.inside.seen.log in
    let below : IsPrefix this both = subst (λ (l : List Image). IsPrefix l both) (ap (λ s. s.log) c.again-both.ensures) c.learn.ensures.2 in
    rw (← c.self.view_is, ← c.other.view_is) (begins_longer that this both c.learn.ensures.3 below (omega (arith, c.self.invariant.0, c.other.invariant.0, c.if-self-other.false)))
