use Rattle.std.proofs.Common.{◌≡◌, ◌-◌, ◌≤◌, None, ◌++◌, length, replicate, vec_capacity}
use Rattle.record_store.proofs.dead_keys.lengthen.Given as goal

abbrev pub invariant-loop-nodes : goal.invariant-loop-nodes
invariant-loop-nodes g l = record {
  items : l.nodes.items ≡ l.fn.nodes.items ++ replicate (length l.nodes.items - length l.fn.nodes.items) None;
  memory : vec_capacity l.nodes ≡ vec_capacity l.fn.nodes;
  more : length l.fn.nodes.items ≤ length l.nodes.items;
  within : length l.nodes.items ≤ l.len;
}

abbrev pub decreases-loop-nodes : goal.decreases-loop-nodes
decreases-loop-nodes g l = l.len - length l.nodes.items
