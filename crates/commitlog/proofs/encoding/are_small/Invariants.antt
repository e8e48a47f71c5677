use Rattle.std.proofs.Common.{drop}
use Rattle.std.specs.Prelude.{◌↔◌}
use Rattle.std.specs.List.{AllByRecursion}
use Rattle.commitlog.specs.declared.formats.Version.TheVariants.{One}
use Rattle.commitlog.specs.LogBytes.{IsValue}
use Rattle.commitlog.proofs.encoding.are_small.Given as goal

abbrev pub invariant-loop-value : goal.invariant-loop-value
invariant-loop-value g l = AllByRecursion (IsValue One) l.values ↔ AllByRecursion (IsValue One) (drop l.value-index l.values)
