use Rattle.pipe.specs.Rings.{IsPair}
use Rattle.workers.proofs.core_tests.count_right.Given as goal

abbrev pub invariant-loop-i : goal.invariant-loop-i
invariant-loop-i l = IsPair l.tap l.drain
