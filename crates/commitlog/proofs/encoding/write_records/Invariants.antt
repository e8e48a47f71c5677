use Rattle.std.proofs.Common.{◌≡◌, ◌++◌, drop}
use Rattle.std.specs.List.{AllByRecursion}
use Rattle.commitlog.specs.declared.formats.Version.TheVariants.{Two}
use Rattle.commitlog.specs.LogBytes.{records_bytes, Fits}
use Rattle.commitlog.proofs.encoding.write_records.Given as goal

abbrev pub invariant-loop-record : goal.invariant-loop-record
invariant-loop-record g l = record {
  written : l.out.items ++ records_bytes l.digest (drop l.record-index l.records) ≡ l.fn.out.items ++ records_bytes l.fn.digest l.records;
  fits : AllByRecursion (Fits Two) (drop l.record-index l.records) → AllByRecursion (Fits Two) l.records;
}
