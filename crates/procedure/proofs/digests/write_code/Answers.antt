use Rattle.std.proofs.Common.{◌++◌}
use Rattle.std.specs.List.{flat_map}
use Rattle.procedure.specs.CatalogBytes.{instruction_bytes}
use Rattle.procedure.proofs.Passes.{written_more, written_all}
use Rattle.procedure.proofs.digests.write_code.Goals as goal

pub returns : goal.returns
returns g c =
    written_all instruction_bytes c.args.code.now c.loop-instruction.instruction-index c.loop-instruction.out.items (c.args.out.now.items ++ flat_map instruction_bytes c.args.code.now)
    c.loop-instruction-test.false c.loop-instruction.invariant

pub loop-instruction-preserved : goal.loop-instruction-preserved
loop-instruction-preserved g c =
    written_more c.args.code.now c.loop-instruction.instruction-index c.instruction-item.result c.loop-instruction-test.true c.instruction-item.is
    instruction_bytes c.loop-instruction.out.items c.write_instruction.new.out.items (c.args.out.now.items ++ flat_map instruction_bytes c.args.code.now)
    c.loop-instruction.invariant c.in_ok-write_instruction.ensures
