use Rattle.std.proofs.Common.{◌≡◌, ◌-◌}
use Rattle.commitlog.specs.LogBytes.{greatest_value}
use Rattle.commitlog.specs.BodyReading.{value_in, many}
use Rattle.commitlog.proofs.Manys.{with_front}
use Rattle.commitlog.proofs.bodies.values_of.Given as goal

abbrev pub invariant-loop : goal.invariant-loop
invariant-loop g l =
    with_front l.values.items (many (value_in (greatest_value l.version)) (l.count - l.counter) l.rest)
    ≡ many (value_in (greatest_value l.version)) l.count l.bytes
