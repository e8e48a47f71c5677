use Rattle.std.proofs.Common.{◌≡◌, take}
use Rattle.procedure.proofs.values.are_same_replies.Given as goal

-- the replies so far are the same
abbrev pub invariant-loop-i : goal.invariant-loop-i
invariant-loop-i g l = take l.i l.x ≡ take l.i l.y
