use Rattle.std.proofs.Common.{◌≡◌, ◌≤◌, ◌+◌, length, option_map}
use Rattle.calcdb.specs.LineByLine.{size}
use Rattle.calcdb.specs.Lines.{left_lines, lines}
use Rattle.calcdb.specs.Preambles as spec
use Rattle.calcdb.proofs.preambles.read_lines.Given as goal

-- the lines that are left, after what was said, say what the text says; each line has a byte, but the last
abbrev pub invariant-loop-rest : goal.invariant-loop-rest
invariant-loop-rest g l = record {
  says : spec.preamble_after l.said l.number (left_lines (option_map (λ t. t.now) l.rest)) ≡ spec.preamble_after spec.nothing_said 1 (lines l.text);
  count : l.number + size (option_map (λ t. t.now) l.rest) ≤ length l.text + 2;
}

abbrev pub decreases-loop-rest : goal.decreases-loop-rest
decreases-loop-rest g l = size (option_map (λ t. t.now) l.rest)
