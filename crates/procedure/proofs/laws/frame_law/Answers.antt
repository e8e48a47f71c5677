use Rattle.procedure.proofs.Frame.{front_frame}
use Rattle.procedure.proofs.laws.frame_law.Goals as goal

pub returns : goal.returns
returns c = front_frame
