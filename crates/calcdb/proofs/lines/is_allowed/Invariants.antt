use Rattle.std.proofs.Common.{◌≡◌, ◌≤◌, ◌-◌, drop, length}
use Rattle.calcdb.specs.Lines.{all_pass, is_allowed}
use Rattle.calcdb.proofs.lines.is_allowed.Given as goal

-- the bytes that are left decide
abbrev pub invariant-loop-at : goal.invariant-loop-at
invariant-loop-at l = record { within : l.at ≤ length l.line; left : all_pass is_allowed (drop l.at l.line) ≡ all_pass is_allowed l.line }

abbrev pub decreases-loop-at : goal.decreases-loop-at
decreases-loop-at l = length l.line - l.at
