use Rattle.commitlog.proofs.Growth.{keeps_images}
use Rattle.commitlog.proofs.laws.images_law.Goals as goal

pub returns : goal.returns
returns c = keeps_images
