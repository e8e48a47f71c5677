use Rattle.std.proofs.Common.{◌≡◌, option_map}
use Rattle.calcdb.specs.Lines.{left_lines}
use Rattle.calcdb.specs.Preambles.{block_ends}
use Rattle.calcdb.specs.LineByLine.{size}
use Rattle.calcdb.proofs.preambles.block_ends.Given as goal

-- the lines that are left decide
abbrev pub invariant-loop-rest : goal.invariant-loop-rest
invariant-loop-rest l = block_ends (left_lines (option_map (λ t. t.now) l.rest)) ≡ block_ends (left_lines (option_map (λ t. t.now) l.text))

abbrev pub decreases-loop-rest : goal.decreases-loop-rest
decreases-loop-rest l = size (option_map (λ t. t.now) l.rest)
