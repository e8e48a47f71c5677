use Rattle.std.proofs.Common.{◌∙◌}
use Rattle.procedure.specs.Catalogs.{procedure_fault}
use Rattle.procedure.proofs.Passes.{no_fault_left, fault_later, fault_now, err_is}
use Rattle.procedure.proofs.catalogs.check_procedures.Goals as goal

pub returns : goal.returns
returns g c = no_fault_left procedure_fault c.args.procedures.now c.loop-procedure.procedure-index c.loop-procedure-test.false ∙ c.loop-procedure.invariant

pub loop-procedure-preserved : goal.loop-procedure-preserved
loop-procedure-preserved g c =
    fault_later c.args.procedures.now c.loop-procedure.procedure-index c.procedure-item.result c.loop-procedure-test.true c.procedure-item.is procedure_fault c.in_ok-check_procedure.ensures
    ∙ c.loop-procedure.invariant

pub returns-in_err-check_procedure : goal.returns-in_err-check_procedure
returns-in_err-check_procedure g c =
    let fault = c.in_err-check_procedure.field-0.0 in
    err_is c.from_residual.result fault c.from_residual.ensures.1
    ∙ fault_now c.args.procedures.now c.loop-procedure.procedure-index c.procedure-item.result c.loop-procedure-test.true c.procedure-item.is procedure_fault fault c.in_err-check_procedure.ensures
    ∙ c.loop-procedure.invariant
