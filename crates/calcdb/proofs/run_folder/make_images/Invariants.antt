use Rattle.std.proofs.Common.{take, map}
use Rattle.calcdb.specs.RunFiles.{Makes, image_file}
use Rattle.calcdb.proofs.run_folder.make_images.Given as goal

-- the images so far were made
abbrev pub invariant-loop-image : goal.invariant-loop-image
invariant-loop-image g l = Makes (g.F.RunFolder.made l.fn.folder) (g.F.RunFolder.made l.folder) (map image_file (take l.image-index l.images))
