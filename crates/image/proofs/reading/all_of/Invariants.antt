use Rattle.std.proofs.Common.{◌≡◌, ◌++◌, length}
use Rattle.image.proofs.reading.all_of.Given as goal

-- those that were made, and those that are still to come
abbrev pub invariant-loop-made : goal.invariant-loop-made
invariant-loop-made g l = l.made.items ++ l.entries ≡ l.fn.entries

abbrev pub decreases-loop-made : goal.decreases-loop-made
decreases-loop-made g l = length l.entries
