use Rattle.std.proofs.Common.{[], sym, subst, Ok}
use Rattle.image.specs.Mergers.{Merging}
use Rattle.calcdb.specs.Merging.{HasTaken}
use Rattle.calcdb.proofs.Merges.{taken_none}
use Rattle.calcdb.proofs.merge_files.before_files.Goals as goal

pub returns : goal.returns
returns g c = subst (λ (m : Merging). HasTaken [] (Ok m)) (sym c.new.ensures) taken_none
