use Rattle.std.proofs.Common.{◌≤◌, ℕ, drop, length}
use Rattle.std.specs.List.{AllByRecursion}
use Rattle.commitlog.specs.declared.formats.Version.TheVariants.{Two}
use Rattle.commitlog.specs.declared.limits.TheConstants.{BODY_BYTES}
use Rattle.commitlog.specs.LogBytes.{Fits, body}
use Rattle.commitlog.proofs.encoding.longest_body.Given as goal

abbrev pub invariant-loop-record : goal.invariant-loop-record
invariant-loop-record g l = record {
  longest : (most : ℕ) → l.longest ≤ most → AllByRecursion (λ r. length (body r) ≤ most) (drop l.record-index l.records) → AllByRecursion (λ r. length (body r) ≤ most) l.records;
  fits : AllByRecursion (Fits Two) (drop l.record-index l.records) → AllByRecursion (Fits Two) l.records;
  most : l.longest ≤ BODY_BYTES;
}
