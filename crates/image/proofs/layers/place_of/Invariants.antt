use Rattle.std.proofs.Common.{◌-◌, length}
use Rattle.image.proofs.layers.place_of.Given as goal

abbrev pub decreases-loop-at : goal.decreases-loop-at
decreases-loop-at g l = length l.entries - l.at
