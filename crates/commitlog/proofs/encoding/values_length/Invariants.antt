use Rattle.std.proofs.Common.{◌≡◌, ◌≤◌, ◌+◌, ◌*◌, drop, length}
use Rattle.std.specs.List.{flat_map, AllByRecursion}
use Rattle.commitlog.specs.declared.formats.Version.TheVariants.{Two}
use Rattle.commitlog.specs.LogBytes.{value_bytes, IsValue}
use Rattle.commitlog.proofs.encoding.values_length.Given as goal

abbrev pub invariant-loop-value : goal.invariant-loop-value
invariant-loop-value g l = record {
  counted : l.total + length (flat_map value_bytes (drop l.value-index l.values)) ≡ length (flat_map value_bytes l.values);
  fits : AllByRecursion (IsValue Two) (drop l.value-index l.values) → AllByRecursion (IsValue Two) l.values;
  most : l.total ≤ l.value-index * 65537;
}
