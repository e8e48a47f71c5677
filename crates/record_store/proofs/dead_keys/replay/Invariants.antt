use Rattle.std.proofs.Common.{◌+◌, ◌<◌}
use Rattle.record_store.specs.DeadKeys.{IsWonBut, SameFrom}
use Rattle.record_store.proofs.dead_keys.replay.Given as goal

abbrev pub invariant-loop-node : goal.invariant-loop-node
invariant-loop-node l = record {
  kept : SameFrom l.fn.nodes l.nodes l.slots;
  within : l.node < l.slots + l.slots;
  won : IsWonBut l.nodes l.slots l.node;
}

abbrev pub decreases-loop-node : goal.decreases-loop-node
decreases-loop-node l = l.node
