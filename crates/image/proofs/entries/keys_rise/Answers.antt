use Rattle.std.proofs.Common.{◌∷◌, Some, sym, ap, ◌∙◌}
use Rattle.image.specs.Images.{Entry}
use Rattle.image.proofs.Rising.{rises_from_walk, no_rise_from_walk}
use Rattle.image.proofs.entries.keys_rise.Goals as goal

pub returns-then-ge : goal.returns-then-ge
returns-then-ge g c =
    no_rise_from_walk c.loop-first.rest.now c.args.entries.now (c.first-in-Some.inside.key, c.first-in-Some.inside.cell) (c.second.inside.key, c.second.inside.cell) c.in-Some.tail.now
    (c.in-Some.ensures.cases.0 ∙ ap (λ (e : Entry). e ∷ c.in-Some.tail.now) (sym c.first-in-Some.view_is))
    (sym c.in-Some-first.ensures.value ∙ ap (λ (e : Entry). Some e) (sym c.second.view_is))
    (sym c.ge.ensures ∙ c.if-ge.true)
    c.loop-first.invariant

pub returns : goal.returns
returns g c = rises_from_walk c.loop-first.rest.now c.args.entries.now c.in_default.ensures.cases c.loop-first.invariant
