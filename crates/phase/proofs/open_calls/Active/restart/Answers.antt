use Rattle.std.proofs.Common.{◌∙◌, None, ap, length, arith, ◌<◌, length-set, slice_set}
use Rattle.phase.specs.Phases.{restarted_phase, Starts}
use Rattle.phase.proofs.ChangedItems.{same_here, more_done, less_rest, all_done}
use Rattle.phase.proofs.open_calls.Active.restart.Goals as goal

pub loop-session-preserved : goal.loop-session-preserved
loop-session-preserved c =
    let before : Starts = c.args.self.now in
    let now : Starts = c.loop-session.self in
    let i = c.loop-session.session in
    let kept = c.loop-session.invariant in
    let within : i < length before = omega arith in
    let set = c.restart_call.ensures None in
    record {
      sessions = ap length set ∙ length-set now i _ ∙ kept.sessions;
      done = more_done restarted_phase None before now i within kept.sessions kept.done kept.rest c.restart_call.new.self
          (set ∙ ap (λ x. slice_set now i (restarted_phase x)) (same_here restarted_phase None before now i within kept.sessions kept.done kept.rest));
      rest = less_rest restarted_phase None before now i within kept.sessions kept.done kept.rest _ c.restart_call.new.self set;
    }

pub returns : goal.returns
returns c =
    let kept = c.loop-session.invariant in
    all_done restarted_phase c.args.self.now c.loop-session.self c.loop-session.session (omega arith) kept.sessions kept.done
