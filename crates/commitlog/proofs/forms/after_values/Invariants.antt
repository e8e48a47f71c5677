use Rattle.commitlog.specs.LogBytes.{greatest_value}
use Rattle.commitlog.specs.BodyReading.{value_in}
use Rattle.commitlog.proofs.Passing.{PassedSoFar}
use Rattle.commitlog.proofs.forms.after_values.Given as goal

-- so many were read past
abbrev pub invariant-loop : goal.invariant-loop
invariant-loop l = PassedSoFar (value_in (greatest_value l.version)) l.count l.counter l.rest l.bytes
