use Rattle.locktable.proofs.Changing.{releases_one_session}
use Rattle.locktable.proofs.laws.release_law.Goals as goal

pub returns : goal.returns
returns c = releases_one_session
