use denote.Param.Send.{copied_send, copied_sync, param_send, param_sync, sendable}
use Rattle.workers.proofs.runs.run_all.Goals as goal

pub run_kept-requires-send-J : goal.run_kept-requires-send-J
run_kept-requires-send-J g c κs within = param_send 0 _ c.type_bounds.send-J

pub run_kept-requires-send-Q : goal.run_kept-requires-send-Q
run_kept-requires-send-Q g c κs within = param_send 1 _ c.type_bounds.send-Q

pub run_kept-requires-send-A : goal.run_kept-requires-send-A
run_kept-requires-send-A g c κs within = copied_send 2 _ c.type_bounds.send-A

pub run_kept-requires-send-K : goal.run_kept-requires-send-K
run_kept-requires-send-K g c κs within = search sendable

pub run_kept-requires-sync-J : goal.run_kept-requires-sync-J
run_kept-requires-sync-J g c κs within = param_sync 0 _ c.type_bounds.sync-J

pub run_kept-requires-sync-Q : goal.run_kept-requires-sync-Q
run_kept-requires-sync-Q g c κs within = param_sync 1 _ c.type_bounds.sync-Q

pub run_kept-requires-sync-A : goal.run_kept-requires-sync-A
run_kept-requires-sync-A g c κs within = copied_sync 2 _ c.type_bounds.sync-A

pub run_kept-requires-sync-R : goal.run_kept-requires-sync-R
run_kept-requires-sync-R g c κs within = param_sync 3 _ c.type_bounds.sync-R

pub run_kept-requires-sync-G : goal.run_kept-requires-sync-G
run_kept-requires-sync-G g c κs within = param_sync 4 _ c.type_bounds.sync-G

pub run_kept-requires-frees-A-Allocator : goal.run_kept-requires-frees-A-Allocator
run_kept-requires-frees-A-Allocator g c κs within = c.type_bounds.frees-A-Allocator
