use Rattle.std.proofs.Common.{◌≤◌, ap, arith, length, subst, sym, ◌∙◌}
use Rattle.record_store.specs.ChangedSets.{ChangedSets, count, room}
use Rattle.record_store.proofs.ChangedKeys.{count-set_of}
use Rattle.record_store.proofs.changed_sets.Changed.rejoin.Goals as goal

pub add_keys-requires-clause-room : goal.add_keys-requires-clause-room
add_keys-requires-clause-room g c =
    let fits = subst (λ (s : ChangedSets). count s.frozen ≤ room s) (sym c.self.view_is) c.requires in
    let frozen = ap length c.as_slice.ensures.value ∙ sym (count-set_of c.self.inside.frozen.items c.self.invariant.distinct) in
    let collected = count-set_of c.self.inside.collecting.keys c.self.invariant.unique in
    let memory = c.self.invariant.room_to_collect in
    omega arith

pub invariant_of-self : goal.invariant_of-self
invariant_of-self g c =
    let fits = subst (λ (s : ChangedSets). count s.frozen ≤ room s) (sym c.self.view_is) c.requires in
    let frozen = ap length c.as_slice.ensures.value ∙ sym (count-set_of c.self.inside.frozen.items c.self.invariant.distinct) in
    let collected = count-set_of c.self.inside.collecting.keys c.self.invariant.unique in
    record {
      in_order = c.self.invariant.in_order;
      distinct = c.self.invariant.distinct;
      unique = c.add_keys.ensures.unique;
      within = omega (arith, fits, frozen, collected, c.add_keys.ensures.len, c.self.invariant.within);
      room_to_collect = omega (arith, c.add_keys.ensures.room, c.self.invariant.room_to_collect);
      room_to_freeze = c.self.invariant.room_to_freeze;
    }
