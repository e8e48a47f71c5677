use Rattle.std.proofs.Common.{◌≡◌, length, take, drop, map, option_map}
use Rattle.steps.specs.inside.CoreFields.{restarted_call}
use Rattle.steps.proofs.checkpointing.restart_all.Given as goal

abbrev pub invariant-loop-session : goal.invariant-loop-session
invariant-loop-session g l = record {
  sessions : length l.calls.items ≡ length l.fn.calls.items;
  done : take l.session l.calls.items ≡ map (option_map restarted_call) (take l.session l.fn.calls.items);
  rest : drop l.session l.calls.items ≡ drop l.session l.fn.calls.items;
}
