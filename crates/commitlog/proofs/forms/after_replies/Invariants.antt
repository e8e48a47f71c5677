use Rattle.commitlog.specs.LogBytes.{greatest_value}
use Rattle.commitlog.specs.BodyReading.{reply_in}
use Rattle.commitlog.proofs.Passing.{PassedSoFar}
use Rattle.commitlog.proofs.forms.after_replies.Given as goal

-- so many were read past
abbrev pub invariant-loop : goal.invariant-loop
invariant-loop l = PassedSoFar (reply_in (greatest_value l.version)) l.count l.counter l.rest l.bytes
