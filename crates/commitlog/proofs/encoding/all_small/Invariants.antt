use Rattle.std.proofs.Common.{drop}
use Rattle.std.specs.Prelude.{◌↔◌}
use Rattle.std.specs.List.{AllByRecursion}
use Rattle.commitlog.specs.declared.formats.Version.TheVariants.{One}
use Rattle.commitlog.specs.LogBytes.{Fits}
use Rattle.commitlog.proofs.encoding.all_small.Given as goal

abbrev pub invariant-loop-record : goal.invariant-loop-record
invariant-loop-record g l = AllByRecursion (Fits One) l.records ↔ AllByRecursion (Fits One) (drop l.record-index l.records)
