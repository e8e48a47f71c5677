use Rattle.image.proofs.ReadAnswers.{one_image}
use Rattle.image.proofs.laws.images_law.Goals as goal

pub returns : goal.returns
returns c = one_image
