use Rattle.std.proofs.Common.{◌≤◌, None, subst, vec_capacity}
use Rattle.steps.proofs.views.FilledLists.{filled_all, filled_more, filled_room, same_room}
use Rattle.steps.proofs.open.none_for_each.Goals as goal

pub returns : goal.returns
returns g c =
    let l = c.loop-session in
    filled_all l.items.items None l._session l.invariant.free c.loop-session-test.false l.auto._session-end

pub loop-session-init : goal.loop-session-init
loop-session-init g c = record { free = c.in_ok-items.ensures.items; room = subst (λ n. n ≤ vec_capacity c.in_ok-items.items) c.from.ensures c.in_ok-items.ensures.capacity }

pub push_reserved-requires : goal.push_reserved-requires
push_reserved-requires g c =
    let l = c.loop-session in
    filled_room l.items.items None l._session l.invariant.free l.items.len (vec_capacity l.items) l.items.ok.0 c.loop-session-test.true l.invariant.room

pub loop-session-preserved : goal.loop-session-preserved
loop-session-preserved g c =
    let l = c.loop-session in
    record {
      free = filled_more l.items.items None l._session l.invariant.free c.push_reserved.new.self.items c.push_reserved.ensures.items;
      room = same_room (vec_capacity l.items) (vec_capacity c.push_reserved.new.self) c.push_reserved.ensures.capacity l.invariant.room;
    }
