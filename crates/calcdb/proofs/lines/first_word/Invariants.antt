use Rattle.std.proofs.Common.{◌≡◌, ◌≤◌, length}
use Rattle.calcdb.specs.Lines.{words}
use Rattle.calcdb.proofs.lines.first_word.Given as goal

-- the words of what is left are those of the line
abbrev pub invariant-loop-after : goal.invariant-loop-after
invariant-loop-after l = record { words : words l.rest ≡ words l.line; within : length l.rest ≤ length l.line }

abbrev pub decreases-loop-after : goal.decreases-loop-after
decreases-loop-after l = length l.rest
