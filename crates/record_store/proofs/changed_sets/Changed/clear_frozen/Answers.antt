use Rattle.std.proofs.Common.{arith}
use Rattle.record_store.proofs.ChangedKeys.{no_keys_once, no_keys_rise}
use Rattle.record_store.proofs.changed_sets.Changed.clear_frozen.Goals as goal

pub invariant_of-self : goal.invariant_of-self
invariant_of-self g c = record {
  in_order = λ said. no_keys_rise c.clear.new.self.items c.clear.ensures.items;
  distinct = no_keys_once c.clear.new.self.items c.clear.ensures.items;
  unique = c.self.invariant.unique;
  within = c.self.invariant.within;
  room_to_collect = c.self.invariant.room_to_collect;
  room_to_freeze = omega (arith, c.clear.ensures.capacity, c.self.invariant.room_to_freeze);
}
