use Rattle.std.proofs.Common.{◌≡◌, length, vec_len}
use Rattle.workers.proofs.runs.make_works.Given as goal

abbrev pub invariant-loop-script : goal.invariant-loop-script
invariant-loop-script g l = vec_len l.works ≡ length l.yielded
