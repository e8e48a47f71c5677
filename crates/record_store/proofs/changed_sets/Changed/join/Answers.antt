use Rattle.std.proofs.Common.{arith, subst, sym, ◌∙◌, nat_eq}
use Rattle.std.specs.Cmp.Lexicographic.{pointwise}
use Rattle.std.specs.List.{list_any}
use Rattle.record_store.specs.ChangedSets.{ChangedSets, HasRoomFor}
use Rattle.record_store.proofs.ChangedKeys.{count-set_of, has-set_of, joined_within}
use Rattle.record_store.proofs.changed_sets.Changed.join.Goals as goal

pub add_key-requires-clause-room : goal.add_key-requires-clause-room
add_key-requires-clause-room g c absent =
    let keys = c.self.inside.collecting.keys in
    let room = subst (λ (s : ChangedSets). HasRoomFor s c.args.key) (sym c.self.view_is) c.requires (has-set_of keys c.args.key ∙ absent) in
    let counted = count-set_of keys c.self.invariant.unique in
    let memory = c.self.invariant.room_to_collect in
    omega arith

pub invariant_of-self : goal.invariant_of-self
invariant_of-self g c =
    let keys = c.self.inside.collecting.keys in
    let room = subst (λ (s : ChangedSets). HasRoomFor s c.args.key) (sym c.self.view_is) c.requires in
    record {
      in_order = c.self.invariant.in_order;
      distinct = c.self.invariant.distinct;
      unique = c.add_key.ensures.unique;
      within = joined_within (list_any (pointwise nat_eq c.args.key) keys) _ _ _ _ c.add_key.ensures.len (count-set_of keys c.self.invariant.unique) c.self.invariant.within
          (λ absent. room (has-set_of keys c.args.key ∙ absent));
      room_to_collect = omega (arith, c.add_key.ensures.room, c.self.invariant.room_to_collect);
      room_to_freeze = c.self.invariant.room_to_freeze;
    }
