use Rattle.std.proofs.Common.{ap, drop}
use Rattle.workers.proofs.Keeping.{more_kept}
use Rattle.workers.proofs.shared.Locked.finish.Goals as goal

pub invariant_of-self-2-clause-kept : goal.invariant_of-self-2-clause-kept
invariant_of-self-2-clause-kept g c =
    let new = c.finish.new.self.core.log in
    more_kept g.K.Keeper.Has c.args.self.now.keeper c.tell_records.new.keeper g.L.Beginning.begun c.args.self.now.held.core.log new (drop c.count_records-before.result new) c.tell_records.ensures
    (ap (λ n. drop n new) c.count_records-before.ensures) c.finish.ensures.log c.finish.ensures.images c.args.self.now.kept
