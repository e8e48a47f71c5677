use Rattle.std.proofs.Common.{sym}
use Rattle.image.proofs.Chains.{last_at}
use Rattle.image.proofs.merges.last_image.Goals as goal

pub returns-in-Some : goal.returns-in-Some
returns-in-Some g c = last_at c.args.full.now c.args.partials.now c.in-Some.last.now (sym c.in-Some.ensures.value)
