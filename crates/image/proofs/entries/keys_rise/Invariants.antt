use Rattle.std.proofs.Common.{◌≡◌, length}
use Rattle.image.proofs.Rising.{steps_up}
use Rattle.image.proofs.entries.keys_rise.Given as goal

-- whether all keys rise is whether those that are left do
abbrev pub invariant-loop-first : goal.invariant-loop-first
invariant-loop-first g l = steps_up l.rest ≡ steps_up l.entries

abbrev pub decreases-loop-first : goal.decreases-loop-first
decreases-loop-first g l = length l.rest
