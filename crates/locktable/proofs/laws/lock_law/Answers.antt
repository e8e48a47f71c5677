use Rattle.locktable.proofs.Changing.{changes_one_lock}
use Rattle.locktable.proofs.laws.lock_law.Goals as goal

pub returns : goal.returns
returns c = changes_one_lock
