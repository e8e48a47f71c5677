use Rattle.left_right.specs.Handles as handles
use Rattle.view.specs.Views.{published, pending}
use Rattle.view.proofs.Showing.{published_all, none_left, still_all}
use Rattle.view.proofs.publishers.Publisher.publish.Goals as goal

pub returns-clause-ok : goal.returns-clause-ok
returns-clause-ok g c =
    let handed = c.hand_over.new.self in
    let shown = c.in_ok-publish.ensures.values in
    let none = c.in_ok-hand_over.ensures.ok in (
      published_all (handles.published c.publish.new.self) (handles.published handed.writer) (published c.args.self.now) (handles.pending handed.writer) handed.waiting.items (pending c.args.self.now)
          shown.0 none c.hand_over.ensures.published c.hand_over.ensures.pending,
      none_left (handles.pending c.publish.new.self) handed.waiting.items shown.1 none,
    )

pub invariant_of-self : goal.invariant_of-self
invariant_of-self g c =
    let handed = c.hand_over.new.self in
    record {
      all = still_all c.publish.result (handles.published c.publish.new.self) (handles.published handed.writer) (handles.pending c.publish.new.self) (handles.pending handed.writer) handed.waiting.items handed.tip c.publish.ensures.values handed.all;
    }
