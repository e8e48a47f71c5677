use Rattle.std.proofs.Common.{◌≡◌, ◌*◌, ◌-◌, ℕ}
use Rattle.procedure.proofs.KeyOrders.{SameBefore}
use Rattle.procedure.proofs.keys.KeyPartialEq.eq.Given as goal

-- so many places of both keys are the same, and they are eights
abbrev pub invariant-loop-from : goal.invariant-loop-from
invariant-loop-from l = SameBefore l.from l.self l.other × (q : ℕ) × (l.from ≡ 8 * q)

abbrev pub decreases-loop-from : goal.decreases-loop-from
decreases-loop-from l = 32 - l.from
