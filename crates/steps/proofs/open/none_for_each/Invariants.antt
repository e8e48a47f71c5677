use Rattle.std.proofs.Common.{◌≡◌, ◌≤◌, None, replicate, vec_capacity}
use Rattle.procedure.specs.declared.limits.TheConstants.{SESSIONS}
use Rattle.steps.proofs.open.none_for_each.Given as goal

abbrev pub invariant-loop-session : goal.invariant-loop-session
invariant-loop-session g l = record {
  free : l.items.items ≡ replicate l._session None;
  room : SESSIONS ≤ vec_capacity l.items;
}
