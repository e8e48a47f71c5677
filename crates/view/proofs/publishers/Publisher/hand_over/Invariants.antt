use Rattle.std.proofs.Common.{◌≡◌, length}
use Rattle.view.specs.Views.{published, pending}
use Rattle.view.proofs.publishers.Publisher.hand_over.Given as goal

abbrev pub invariant-loop-appended : goal.invariant-loop-appended
invariant-loop-appended g l = (published l.self ≡ published l.initial.self) × (pending l.self ≡ pending l.initial.self)

abbrev pub decreases-loop-appended : goal.decreases-loop-appended
decreases-loop-appended g l = length l.self.waiting.items
