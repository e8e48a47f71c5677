use Rattle.std.proofs.Common.{◌≡◌, ◌≤◌, ◌+◌, option_map}
use Rattle.calcdb.specs.LineByLine.{after_lines, size}
use Rattle.calcdb.specs.Lines.{left_lines}
use Rattle.calcdb.specs.declared.scripts.TheConstants.{SCRIPT_BYTES}
use Rattle.calcdb.proofs.line_by_line.read_lines.Given as goal

-- the lines that are left make of what is said what all of them make of what was said before; each line has a byte, but the last
abbrev pub invariant-loop-rest : goal.invariant-loop-rest
invariant-loop-rest g l = record {
  says : after_lines g.S.LineReader.after l.said l.number (left_lines (option_map (λ t. t.now) l.rest)) ≡ after_lines g.S.LineReader.after l.initial.said l.first (left_lines (option_map (λ t. t.now) l.left));
  count : l.number + size (option_map (λ t. t.now) l.rest) ≤ SCRIPT_BYTES + 2;
}

abbrev pub decreases-loop-rest : goal.decreases-loop-rest
decreases-loop-rest g l = size (option_map (λ t. t.now) l.rest)
