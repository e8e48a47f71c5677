use Rattle.std.proofs.Common.{inr, refl}
use denote.Param.Send.{copied_send, copied_sync, param_send, param_sync}
use Rattle.calcdb.proofs.ThreadEnds.{nothing_more}
use Rattle.calcdb.proofs.threads.run_in_view.Goals as goal

pub run_plan-ran-requires-send-J : goal.run_plan-ran-requires-send-J
run_plan-ran-requires-send-J g c κs within = param_send 0 _ c.type_bounds.send-J

pub run_plan-ran-requires-send-A : goal.run_plan-ran-requires-send-A
run_plan-ran-requires-send-A g c κs within = copied_send 3 _ c.type_bounds.send-A

pub run_plan-ran-requires-send-K : goal.run_plan-ran-requires-send-K
run_plan-ran-requires-send-K g c κs within = param_send 5 _ c.type_bounds.send-K

pub run_plan-ran-requires-sync-J : goal.run_plan-ran-requires-sync-J
run_plan-ran-requires-sync-J g c κs within = param_sync 0 _ c.type_bounds.sync-J

pub run_plan-ran-requires-sync-T : goal.run_plan-ran-requires-sync-T
run_plan-ran-requires-sync-T g c κs within = param_sync 2 _ c.type_bounds.sync-T

pub run_plan-ran-requires-sync-A : goal.run_plan-ran-requires-sync-A
run_plan-ran-requires-sync-A g c κs within = copied_sync 3 _ c.type_bounds.sync-A

pub run_plan-ran-requires-sync-G : goal.run_plan-ran-requires-sync-G
run_plan-ran-requires-sync-G g c κs within = param_sync 4 _ c.type_bounds.sync-G

pub run_plan-ran-requires-frees-A-Allocator : goal.run_plan-ran-requires-frees-A-Allocator
run_plan-ran-requires-frees-A-Allocator g c κs within = c.type_bounds.frees-A-Allocator

pub returns-in-Err-ran-clause-err : goal.returns-in-Err-ran-clause-err
returns-in-Err-ran-clause-err g c = inr (refl, nothing_more _ _ c.in-Err-ran.ensures.err)
