use Rattle.std.proofs.Common.{◌≡◌, ◌++◌, length}
use Rattle.commitlog.proofs.decoding.all_of.Given as goal

-- those that were made, and those that are still to come
abbrev pub invariant-loop-made : goal.invariant-loop-made
invariant-loop-made g l = l.made.items ++ l.records ≡ l.fn.records

abbrev pub decreases-loop-made : goal.decreases-loop-made
decreases-loop-made g l = length l.records
