use Rattle.std.proofs.Common.{◌≡◌, ◌<◌, ◌-◌, ℕ, false, length, slice_index_or}
use Rattle.calcdb.specs.Lines.{is_blank}
use Rattle.calcdb.proofs.lines.word_end.Given as goal

-- no byte so far is a blank
abbrev pub invariant-loop-at : goal.invariant-loop-at
invariant-loop-at l = (i : ℕ) → i < l.at → is_blank (slice_index_or l.line i 0) ≡ false

abbrev pub decreases-loop-at : goal.decreases-loop-at
decreases-loop-at l = length l.line - l.at
