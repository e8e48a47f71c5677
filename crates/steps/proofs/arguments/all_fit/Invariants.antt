use Rattle.std.proofs.Common.{◌≡◌, drop, map}
use Rattle.steps.specs.Refusals.{all_fit}
use Rattle.steps.proofs.arguments.all_fit.Given as goal

abbrev pub invariant-loop-bytes : goal.invariant-loop-bytes
invariant-loop-bytes g l = all_fit (map (λ b. b.items) (drop l.bytes-index l.args)) ≡ all_fit (map (λ b. b.items) l.args)
