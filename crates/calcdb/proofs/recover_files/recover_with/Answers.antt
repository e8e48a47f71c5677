use Rattle.std.proofs.Common.{subst, Ok, Err}
use Rattle.std.proofs.lemmas.Result.{err_from_is_err_and}
use Rattle.calcdb.specs.Merging.{HasTaken}
use Rattle.calcdb.proofs.Merges.{came_refused, only_came_refused}
use Rattle.calcdb.proofs.Recovering.{file_refused, only_refused, only_taken, recovered_taken, refused_taken, spelled_refused, spelled_taken}
use Rattle.calcdb.proofs.recover_files.recover_with.Goals as goal

pub returns-in_err-merger-clause-err : goal.returns-in_err-merger-clause-err
returns-in_err-merger-clause-err g c = λ files h.
    let p = err_from_is_err_and c.from_residual.result c.from_residual.ensures.1 in
    let r = c.in_err-merger.field-0.0 in
    rw (p.1, p.2) (file_refused c.args.catalog.now c.args.log.now files r (came_refused files r (subst (HasTaken files) c.in_err-merger.was h)))

pub returns-in_err-merger-clause-only : goal.returns-in_err-merger-clause-only
returns-in_err-merger-clause-only g c = λ files says h is.
    let p = err_from_is_err_and c.from_residual.result c.from_residual.ensures.1 in
    let r = c.in_err-merger.field-0.0 in
    rw (p.1, p.2) (only_refused c.args.catalog.now c.args.log.now files r (only_came_refused files r (subst (HasTaken files) c.in_err-merger.was h)) says is)

pub returns-in_err-merger-clause-spelled : goal.returns-in_err-merger-clause-spelled
returns-in_err-merger-clause-spelled g c = λ files h.
    let p = err_from_is_err_and c.from_residual.result c.from_residual.ensures.1 in
    let r = c.in_err-merger.field-0.0 in
    rw (p.1, p.2) (spelled_refused c.args.catalog.now c.args.log.now files r (only_came_refused files r (subst (HasTaken files) c.in_err-merger.was h)))

pub returns-in_err-recover_in_turn-clause-err : goal.returns-in_err-recover_in_turn-clause-err
returns-in_err-recover_in_turn-clause-err g c = λ files h.
    let p = err_from_is_err_and c.from_residual-in_err-recover_in_turn.result c.from_residual-in_err-recover_in_turn.ensures.1 in
    rw (p.1, p.2) (refused_taken c.args.catalog.now c.args.log.now files c.in_ok-merger.merger c.in_err-recover_in_turn.field-0.0 (subst (HasTaken files) c.in_ok-merger.was h)
    c.in_err-recover_in_turn.ensures.answer)

pub returns-in_err-recover_in_turn-clause-only : goal.returns-in_err-recover_in_turn-clause-only
returns-in_err-recover_in_turn-clause-only g c = λ files says h is.
    let p = err_from_is_err_and c.from_residual-in_err-recover_in_turn.result c.from_residual-in_err-recover_in_turn.ensures.1 in
    rw (p.1, p.2) (only_taken c.args.catalog.now c.args.log.now files c.in_ok-merger.merger (Err c.in_err-recover_in_turn.field-0.0) (subst (HasTaken files) c.in_ok-merger.was h)
    (λ images took a told. c.in_err-recover_in_turn.ensures.only images a took told) says is)

pub returns-in_err-recover_in_turn-clause-spelled : goal.returns-in_err-recover_in_turn-clause-spelled
returns-in_err-recover_in_turn-clause-spelled g c = λ files h.
    let p = err_from_is_err_and c.from_residual-in_err-recover_in_turn.result c.from_residual-in_err-recover_in_turn.ensures.1 in
    rw (p.1, p.2) (spelled_taken c.args.catalog.now c.args.log.now files c.in_ok-merger.merger (Err c.in_err-recover_in_turn.field-0.0) (subst (HasTaken files) c.in_ok-merger.was h)
    c.in_err-recover_in_turn.ensures.answer)

pub returns-clause-ok : goal.returns-clause-ok
returns-clause-ok g c = λ files h.
    recovered_taken c.args.catalog.now c.args.log.now files c.in_ok-merger.merger c.in_ok-recover_in_turn.field-0 (subst (HasTaken files) c.in_ok-merger.was h) c.in_ok-recover_in_turn.ensures.answer

pub returns-clause-only : goal.returns-clause-only
returns-clause-only g c = λ files says h is.
    only_taken c.args.catalog.now c.args.log.now files c.in_ok-merger.merger (Ok c.in_ok-recover_in_turn.field-0) (subst (HasTaken files) c.in_ok-merger.was h)
    (λ images took a told. c.in_ok-recover_in_turn.ensures.only images a took told) says is

pub returns-clause-spelled : goal.returns-clause-spelled
returns-clause-spelled g c = λ files h.
    spelled_taken c.args.catalog.now c.args.log.now files c.in_ok-merger.merger (Ok c.in_ok-recover_in_turn.field-0) (subst (HasTaken files) c.in_ok-merger.was h) c.in_ok-recover_in_turn.ensures.answer
