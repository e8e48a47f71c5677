use Rattle.std.proofs.Common.{◌∙◌, sym, arith}
use Rattle.calcdb.specs.Lines.{is_blank}
use Rattle.calcdb.proofs.FirstBytes.{first_place, no_place}
use Rattle.calcdb.proofs.lines.word_end.Goals as goal

pub returns-then-is_blank : goal.returns-then-is_blank
returns-then-is_blank c =
    first_place is_blank c.args.line.now c.loop-at.at c.loop-at-test.true c.loop-at.invariant (sym c.is_blank.ensures ∙ c.if-is_blank.true)

pub returns : goal.returns
returns c = no_place is_blank c.args.line.now (λ i less. c.loop-at.invariant i (omega (arith, less, c.loop-at-test.false)))
