use Rattle.std.proofs.Common.{◌≡◌, ◌++◌, ◌≤◌, ◌+◌, List, length, vec_capacity}
use Rattle.std.specs.Vec.Iter.{into_iter_items, into_iter_len}
use Rattle.steps.specs.CoreViews.{CoreView}
use Rattle.steps.specs.Schedules.{HandlesAll, images_in, replies_in}
use Rattle.steps.specs.declared.schedules.Handled.{Handled}
use Rattle.steps.proofs.drives.handle_all.Given as goal

-- what the events that are left make of the core as it is, all of them make of the first one
abbrev pub invariant-loop-event : goal.invariant-loop-event
invariant-loop-event g l = record {
  each : List (Handled g.row.A.Denot);
  replied : l.answers.items ≡ replies_in each;
  taken : l.images.items ≡ images_in each;
  goes_on : (new : CoreView) (hs : List (Handled g.row.A.Denot)) → HandlesAll (into_iter_items l.event-iterator) l.core new hs → HandlesAll l.fn.events.items l.initial.core new (each ++ hs);
  room : length l.answers.items + length (into_iter_items l.event-iterator) ≤ vec_capacity l.answers;
  count : into_iter_len l.event-iterator ≡ length (into_iter_items l.event-iterator);
}
