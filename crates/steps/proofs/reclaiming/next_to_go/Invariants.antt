use Rattle.record_store.specs.ChangedSets.{has}
use Rattle.steps.specs.inside.SetAside.{AsideIn, IsKnown, SameRecords}
use Rattle.steps.proofs.reclaim.Candidates.{candidates}
use Rattle.steps.proofs.reclaiming.next_to_go.Given as goal

-- more records are set aside, and nothing else changes
abbrev pub invariant-loop-slot : goal.invariant-loop-slot
invariant-loop-slot g l = record {
  known : IsKnown l.aside;
  reasons : AsideIn l.aside l.store (has l.changed.collecting) l.locks;
  records : SameRecords l.fn.store l.store;
}

-- a candidate less each time
abbrev pub decreases-loop-slot : goal.decreases-loop-slot
decreases-loop-slot g l = candidates l.store
