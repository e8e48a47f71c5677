use Rattle.std.proofs.Common.{◌≡◌, drop}
use Rattle.steps.specs.Refusals.{all_fit}
use Rattle.steps.proofs.arguments.values_fit.Given as goal

abbrev pub invariant-loop-value : goal.invariant-loop-value
invariant-loop-value g l = all_fit (drop l.value-index l.args) ≡ all_fit l.args
