use Rattle.std.proofs.Common.{Ok, Err}
use Rattle.std.proofs.lemmas.Result.{err_from_is_err_and}
use Rattle.calcdb.proofs.Recovering.{fault_by_script, only_by_script, script_refused, scripted}
use Rattle.calcdb.proofs.recover_files.recover_from.Goals as goal

pub returns-in_err-recover_with-clause-err : goal.returns-in_err-recover_with-clause-err
returns-in_err-recover_with-clause-err g c = λ files h.
    let p = err_from_is_err_and c.from_residual-in_err-recover_with.result c.from_residual-in_err-recover_with.ensures.1 in
    rw (p.1, p.2) (fault_by_script c.args.script.now c.args.log.now files c.in_ok-catalog.catalog c.in_err-recover_with.field-0.0 c.in_ok-catalog.ensures.value
    (c.in_err-recover_with.ensures.err files h))

pub returns-in_err-recover_with-clause-only : goal.returns-in_err-recover_with-clause-only
returns-in_err-recover_with-clause-only g c = λ files says h told.
    let p = err_from_is_err_and c.from_residual-in_err-recover_with.result c.from_residual-in_err-recover_with.ensures.1 in
    rw (p.1, p.2) (only_by_script c.args.script.now c.args.log.now files c.in_ok-catalog.catalog (Err c.in_err-recover_with.field-0.0) c.in_ok-catalog.ensures.value
    (λ a is. c.in_err-recover_with.ensures.only files a h is) says told)

pub returns-clause-only : goal.returns-clause-only
returns-clause-only g c = λ files says h told.
    only_by_script c.args.script.now c.args.log.now files c.in_ok-catalog.catalog (Ok c.in_ok-recover_with.field-0) c.in_ok-catalog.ensures.value
    (λ a is. c.in_ok-recover_with.ensures.only files a h is) says told

pub returns-in_err-catalog-clause-spelled : goal.returns-in_err-catalog-clause-spelled
returns-in_err-catalog-clause-spelled g c = λ files h.
    let p = err_from_is_err_and c.from_residual.result c.from_residual.ensures.1 in
    rw (p.1, p.2) (script_refused c.args.script.now c.args.log.now files c.in_err-catalog.field-0.0 c.in_err-catalog.ensures.value)

pub returns-in_err-recover_with-clause-spelled : goal.returns-in_err-recover_with-clause-spelled
returns-in_err-recover_with-clause-spelled g c = λ files h.
    let p = err_from_is_err_and c.from_residual-in_err-recover_with.result c.from_residual-in_err-recover_with.ensures.1 in
    rw (p.1, p.2) (scripted c.args.script.now c.args.log.now files c.in_ok-catalog.catalog (Err c.in_err-recover_with.field-0.0) c.in_ok-catalog.ensures.value
    (c.in_err-recover_with.ensures.spelled files h))

pub returns-clause-spelled : goal.returns-clause-spelled
returns-clause-spelled g c = λ files h.
    scripted c.args.script.now c.args.log.now files c.in_ok-catalog.catalog (Ok c.in_ok-recover_with.field-0) c.in_ok-catalog.ensures.value
    (c.in_ok-recover_with.ensures.spelled files h)
