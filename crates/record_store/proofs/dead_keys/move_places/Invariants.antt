use Rattle.std.proofs.Common.{◌≡◌, ℕ, ◌+◌, ◌≤◌, ◌<◌, length}
use Rattle.record_store.specs.DeadKeys.{node_at}
use Rattle.record_store.proofs.dead_keys.move_places.Given as goal

abbrev pub invariant-loop-slot : goal.invariant-loop-slot
invariant-loop-slot l = record {
  len : length l.nodes ≡ length l.fn.nodes;
  moved : (slot : ℕ) → slot < l.slot → node_at l.nodes (l.to + slot) ≡ node_at l.fn.nodes (l.from + slot);
  others : (n : ℕ) → l.to + l.slot ≤ n → node_at l.nodes n ≡ node_at l.fn.nodes n;
  sources : (n : ℕ) → n < l.to → node_at l.nodes n ≡ node_at l.fn.nodes n;
}
