use Rattle.std.proofs.Common.{take}
use Rattle.std.specs.List.{flat_map}
use Rattle.commitlog.specs.LogBytes.{value_bytes}
use Rattle.commitlog.proofs.body_writing.write_values.Given as goal

abbrev pub invariant-loop-value : goal.invariant-loop-value
invariant-loop-value g l = g.P.Pieces.Takes l.fn.out l.out (flat_map value_bytes (take l.value-index l.values))
