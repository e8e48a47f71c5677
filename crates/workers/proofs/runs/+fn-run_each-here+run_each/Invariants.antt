use Rattle.std.proofs.Common.{vec_len, ◌+◌, ◌*◌}
use Rattle.workers.proofs.runs.+fn-run_each-here+run_each.Given as goal

abbrev pub decreases-here : goal.decreases-here
decreases-here g l = 2 * vec_len l.works + 1

abbrev pub decreases-run_each : goal.decreases-run_each
decreases-run_each g l = 2 * vec_len l.works
