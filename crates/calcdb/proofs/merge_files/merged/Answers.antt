use Rattle.std.proofs.Common.{subst, Ok}
use Rattle.calcdb.specs.Merging.{HasTaken}
use Rattle.calcdb.proofs.Merges.{made_end, tells_end}
use Rattle.calcdb.proofs.merge_files.merged.Goals as goal

pub returns-clause-ok : goal.returns-clause-ok
returns-clause-ok g c = λ files h.
    made_end files c.in_ok-merger.merger c.in_ok-finish.field-0 (subst (HasTaken files) c.in_ok-merger.was h) c.in_ok-finish.ensures.merge

pub returns-clause-only : goal.returns-clause-only
returns-clause-only g c = λ files says h is.
    tells_end files c.in_ok-merger.merger (Ok c.in_ok-finish.field-0) (subst (HasTaken files) c.in_ok-merger.was h) c.in_ok-finish.ensures.merge says is
