use Rattle.std.proofs.Common.{length}
use Rattle.image.proofs.merges.+gathered.Given as goal

abbrev pub decreases-gathered : goal.decreases-gathered
decreases-gathered g l = length l.images.now
