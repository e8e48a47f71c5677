use Rattle.commitlog.proofs.Cuts.{keeps_cut}
use Rattle.commitlog.proofs.laws.cuts_law.Goals as goal

pub returns : goal.returns
returns c = keeps_cut
