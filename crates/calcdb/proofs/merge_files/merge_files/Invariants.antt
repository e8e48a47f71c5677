use Rattle.std.proofs.Common.{map, take}
use Rattle.calcdb.specs.Merging.{HasTaken}
use Rattle.calcdb.proofs.merge_files.merge_files.Given as goal

-- the files so far were taken
abbrev pub invariant-loop-image : goal.invariant-loop-image
invariant-loop-image g l = HasTaken (map (λ f. f.items) (take l.image-index l.images)) l.kept
