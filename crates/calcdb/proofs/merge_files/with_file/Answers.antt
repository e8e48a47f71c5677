use Rattle.std.proofs.Common.{[], ◌∷◌, ◌++◌, subst}
use Rattle.std.proofs.lemmas.Result.{err_from_is_err_and}
use Rattle.calcdb.specs.Merging.{HasTaken}
use Rattle.calcdb.proofs.Merges.{read_given, taken, taken_nothing, taken_refused, taken_unread}
use Rattle.calcdb.proofs.merge_files.with_file.Goals as goal

pub returns-in_err-merger : goal.returns-in_err-merger
returns-in_err-merger g c = λ files h.
    let p = err_from_is_err_and c.from_residual.result c.from_residual.ensures.1 in
    rw (p.1, p.2) (taken_refused files c.args.file.now c.in_err-merger.field-0.0 (subst (HasTaken files) c.in_err-merger.was h))

pub returns-in_err-image : goal.returns-in_err-image
returns-in_err-image g c = λ files h.
    let p = err_from_is_err_and c.from_residual-in_err-image.result c.from_residual-in_err-image.ensures.1 in
    rw (p.1, p.2)
    (taken_unread files c.args.file.now c.in_ok-merger.merger c.in_err-image.field-0.0 (subst (HasTaken files) c.in_ok-merger.was h) c.in_err-image.ensures.answer c.in_err-image.ensures.exact)

pub returns-in_err-push : goal.returns-in_err-push
returns-in_err-push g c = λ files h.
    let p = err_from_is_err_and c.from_residual-in_err-push.result c.from_residual-in_err-push.ensures.1 in
    rw (p.1, p.2) (taken_nothing (files ++ c.args.file.now ∷ []))

pub returns : goal.returns
returns g c = λ files h.
    let image = c.in_ok-image.image in
    taken files c.args.file.now c.in_ok-merger.merger c.in_ok-push.field-0 image (subst (HasTaken files) c.in_ok-merger.was h)
    (read_given c.args.file.now image c.in_ok-image.ensures.answer) c.in_ok-image.ensures.exact c.in_ok-push.ensures
