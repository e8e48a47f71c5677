use Rattle.phase.proofs.Counting.{counts_at_most, fewer_at_most}
use Rattle.phase.proofs.open_calls.Active.set.Goals as goal

pub with-self-inside-requires : goal.with-self-inside-requires
with-self-inside-requires c =
    fewer_at_most c.self.inside.counts c.without-fewer.result _ 64 c.without-fewer.ensures (counts_at_most c.self.inside.starts c.self.inside.counts c.self.invariant)
