use Rattle.std.proofs.Common.{◌≡◌, length, take, drop, map}
use Rattle.phase.specs.Phases.{restarted_phase}
use Rattle.phase.proofs.open_calls.Active.restart.Given as goal

abbrev pub invariant-loop-session : goal.invariant-loop-session
invariant-loop-session l = record {
  sessions : length l.self ≡ length l.fn.self;
  done : take l.session l.self ≡ map restarted_phase (take l.session l.fn.self);
  rest : drop l.session l.self ≡ drop l.session l.fn.self;
}
