use Rattle.std.proofs.Common.{◌∙◌}
use Rattle.procedure.specs.Catalogs.{instruction_fault}
use Rattle.procedure.proofs.Passes.{no_fault_left, fault_later, fault_now, err_is}
use Rattle.procedure.proofs.catalogs.check_code.Goals as goal

pub returns : goal.returns
returns g c =
    no_fault_left (instruction_fault c.args.arity) c.args.code.now c.loop-instruction.instruction-index c.loop-instruction-test.false
    ∙ c.loop-instruction.invariant

pub loop-instruction-preserved : goal.loop-instruction-preserved
loop-instruction-preserved g c =
    fault_later c.args.code.now c.loop-instruction.instruction-index c.instruction-item.result c.loop-instruction-test.true c.instruction-item.is (instruction_fault c.args.arity)
    c.in_ok-check_instruction.ensures
    ∙ c.loop-instruction.invariant

pub returns-in_err-check_instruction : goal.returns-in_err-check_instruction
returns-in_err-check_instruction g c =
    let fault = c.in_err-check_instruction.field-0.0 in
    err_is c.from_residual.result fault c.from_residual.ensures.1
    ∙ fault_now c.args.code.now c.loop-instruction.instruction-index c.instruction-item.result c.loop-instruction-test.true c.instruction-item.is (instruction_fault c.args.arity) fault
    c.in_err-check_instruction.ensures
    ∙ c.loop-instruction.invariant
