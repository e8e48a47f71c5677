use Rattle.std.proofs.Common.{◌≡◌, ◌++◌, drop}
use Rattle.std.specs.List.{flat_map}
use Rattle.procedure.specs.CatalogBytes.{instruction_bytes}
use Rattle.procedure.proofs.digests.write_code.Given as goal

abbrev pub invariant-loop-instruction : goal.invariant-loop-instruction
invariant-loop-instruction g l = l.out.items ++ flat_map instruction_bytes (drop l.instruction-index l.code) ≡ l.fn.out.items ++ flat_map instruction_bytes l.code
