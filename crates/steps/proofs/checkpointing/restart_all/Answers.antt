use Rattle.std.proofs.Common.{◌≡◌, ◌<◌, Option, length, length-set, option_map, slice_set, slice_index_or, refl, ap, ◌∙◌, arith}
use Rattle.phase.proofs.ChangedItems.{all_done, less_rest, more_done, same_here}
use Rattle.steps.specs.inside.CoreFields.{restarted_call}
use Rattle.steps.specs.declared.calls.OpenCall.{OpenCall}
use Rattle.steps.proofs.checkpointing.restart_all.Goals as goal

pub loop-session-preserved : goal.loop-session-preserved
loop-session-preserved g c =
    let f : Option (OpenCall g.row.A.Denot) → Option (OpenCall g.row.A.Denot) = option_map restarted_call in
    let before = c.args.calls.now.items in
    let now = c.loop-session.calls.items in
    let i = c.loop-session.session in
    let was = c.index_mut.result.now in
    let kept = c.loop-session.invariant in
    let short = c.len-sessions.ensures in
    let below = c.loop-session-test.true in
    let within : i < length before = omega (arith, short, below) in
    let set : slice_set now i c.restart.new.call ≡ slice_set now i (f (slice_index_or before i was)) =
    ap (slice_set now i) (c.restart.ensures ∙ ap f (c.index_mut.ensures.value ∙ same_here f was before now i within kept.sessions kept.done kept.rest)) in
    record {
      sessions = length-set now i c.restart.new.call ∙ kept.sessions;
      done = more_done f was before now i within kept.sessions kept.done kept.rest (slice_set now i c.restart.new.call) set;
      rest = less_rest f was before now i within kept.sessions kept.done kept.rest c.restart.new.call (slice_set now i c.restart.new.call) refl;
    }

pub returns : goal.returns
returns g c =
    let kept = c.loop-session.invariant in
    let short = c.len-sessions.ensures in
    let stops = c.loop-session-test.false in
    all_done (option_map restarted_call) c.args.calls.now.items c.loop-session.calls.items c.loop-session.session (omega (arith, short, stops)) kept.sessions kept.done
