use Rattle.std.proofs.Common.{◌≡◌, [], replicate}
use Rattle.locktable.specs.Tables.{keys_in}
use Rattle.locktable.proofs.locks.nothing_held.Given as goal

abbrev pub invariant-loop : goal.invariant-loop
invariant-loop g l = keys_in l.held.items ≡ replicate l.counter []
