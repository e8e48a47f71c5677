use Rattle.workers.proofs.Keeping.{nothing_kept}
use Rattle.workers.proofs.streamed_runs.stream_in.Goals as goal

pub new-shared-requires-clause-kept : goal.new-shared-requires-clause-kept
new-shared-requires-clause-kept g c = ∣ nothing_kept g.L.Beginning.begun ∣₁
