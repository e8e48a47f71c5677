use Rattle.std.proofs.Common.{length}
use Rattle.commitlog.proofs.Chains.{Counted}
use Rattle.commitlog.proofs.checking.count_of.Given as goal

-- so many records stand at the front, and the digest is that of the last
abbrev pub invariant-loop-ending : goal.invariant-loop-ending
invariant-loop-ending l = Counted l.version l.fn.digest l.digest l.count l.rest l.bytes

abbrev pub decreases-loop-ending : goal.decreases-loop-ending
decreases-loop-ending l = length l.rest
