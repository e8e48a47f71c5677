use Rattle.std.proofs.Common.{subst}
use Rattle.workers.specs.Checkpointed.{IsTakenInto}
use Rattle.workers.proofs.Keeping.{image_kept, taken_last}
use Rattle.workers.proofs.shared.Locked.take_image.Goals as goal

pub invariant_of-self-then-was_waiting-clause-kept : goal.invariant_of-self-then-was_waiting-clause-kept
invariant_of-self-then-was_waiting-clause-kept g c =
    let old = c.args.self.now.held in
    let new = c.take_image.new.self in
    let t = taken_last old new (subst (λ b. IsTakenInto old new b) c.if-was_waiting.true c.in_ok-was_waiting.ensures.taken.0) in
    image_kept g.K.Keeper.Has c.args.self.now.keeper c.tell_image.new.keeper g.L.Beginning.begun old.images (c.tell_image.ensures t.0 t.2) c.take_image.ensures.log t.1 c.args.self.now.kept
