use Rattle.std.proofs.Common.{◌≡◌, ◌++◌, ◌≤◌, ◌+◌, map, length, vec_capacity}
use Rattle.std.specs.Vec.Iter.{into_iter_items}
use Rattle.steps.specs.Refusals.{all_fit}
use Rattle.steps.proofs.arguments.values_of.Given as goal

-- the values so far, and the arguments that are left
abbrev pub invariant-loop-bytes : goal.invariant-loop-bytes
invariant-loop-bytes g l =
    (l.values.items ++ map (λ b. b.items) (into_iter_items l.bytes-iterator) ≡ map (λ b. b.items) l.fn.args.items)
    × (all_fit (map (λ b. b.items) (into_iter_items l.bytes-iterator)) ≡ all_fit (map (λ b. b.items) l.fn.args.items))
    × (length l.values.items + length (into_iter_items l.bytes-iterator) ≤ vec_capacity l.values)
