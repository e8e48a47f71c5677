use Rattle.std.proofs.Common.{◌≡◌, ◌-◌}
use Rattle.commitlog.specs.LogBytes.{greatest_value}
use Rattle.commitlog.specs.BodyReading.{reply_in, many}
use Rattle.commitlog.proofs.Manys.{with_front}
use Rattle.commitlog.proofs.bodies.cells_of.Given as goal

abbrev pub invariant-loop : goal.invariant-loop
invariant-loop g l =
    with_front l.cells.items (many (reply_in (greatest_value l.version)) (l.count - l.counter) l.rest)
    ≡ many (reply_in (greatest_value l.version)) l.count l.bytes
