use denote.Param.Send.{copied_send, copied_sync, param_send, param_sync}
use Rattle.calcdb.proofs.ThreadJournals.{still_begun, told_after}
use Rattle.calcdb.proofs.threads.run_to_end.Goals as goal

pub run_kept-ran-requires-send-J : goal.run_kept-ran-requires-send-J
run_kept-ran-requires-send-J g c κs within = param_send 0 _ c.type_bounds.send-J

pub run_kept-ran-requires-send-Q : goal.run_kept-ran-requires-send-Q
run_kept-ran-requires-send-Q g c κs within = param_send 1 _ c.type_bounds.send-Q

pub run_kept-ran-requires-send-A : goal.run_kept-ran-requires-send-A
run_kept-ran-requires-send-A g c κs within = copied_send 2 _ c.type_bounds.send-A

pub run_kept-ran-requires-send-K : goal.run_kept-ran-requires-send-K
run_kept-ran-requires-send-K g c κs within = param_send 5 _ c.type_bounds.send-K

pub run_kept-ran-requires-sync-J : goal.run_kept-ran-requires-sync-J
run_kept-ran-requires-sync-J g c κs within = param_sync 0 _ c.type_bounds.sync-J

pub run_kept-ran-requires-sync-Q : goal.run_kept-ran-requires-sync-Q
run_kept-ran-requires-sync-Q g c κs within = param_sync 1 _ c.type_bounds.sync-Q

pub run_kept-ran-requires-sync-A : goal.run_kept-ran-requires-sync-A
run_kept-ran-requires-sync-A g c κs within = copied_sync 2 _ c.type_bounds.sync-A

pub run_kept-ran-requires-sync-R : goal.run_kept-ran-requires-sync-R
run_kept-ran-requires-sync-R g c κs within = param_sync 3 _ c.type_bounds.sync-T

pub run_kept-ran-requires-sync-G : goal.run_kept-ran-requires-sync-G
run_kept-ran-requires-sync-G g c κs within = param_sync 4 _ c.type_bounds.sync-G

pub run_kept-ran-requires-frees-A-Allocator : goal.run_kept-ran-requires-frees-A-Allocator
run_kept-ran-requires-frees-A-Allocator g c κs within = c.type_bounds.frees-A-Allocator

pub invariant_of-ended-clause-told : goal.invariant_of-ended-clause-told
invariant_of-ended-clause-told g c =
    told_after g.K.Keeper.Has g.J.Beginning.begun c.args.named.keeper _ _ c.from_parts-taken.result.core _ c.from_parts-taken.result.images c.from_parts-taken.ensures.core c.from_parts-taken.ensures.images c.args.named.begun
    c.in-Ok.ensures.kept

pub invariant_of-untold : goal.invariant_of-untold
invariant_of-untold g c = record { begun = still_begun g.J.Beginning.begun c.args.named.keeper _ c.in-Err.ensures.err.2 c.args.named.begun }
