use Rattle.std.proofs.Common.{arith}
use Rattle.image.proofs.FrontLoops.{behind_shorter}
use Rattle.image.proofs.fronts.past_block.Goals as goal

pub slice_bounds-chained_digest-count : goal.slice_bounds-chained_digest-count
slice_bounds-chained_digest-count c = behind_shorter c.args.count c.args.bytes.now c.in_ok-left.left.now (λ i. omega (arith, c.type_inv.bytes i)) c.in_ok-left.ensures
