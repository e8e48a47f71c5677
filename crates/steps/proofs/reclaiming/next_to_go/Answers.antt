use Rattle.std.proofs.Common.{subst, sym, ◌≡◌, true}
use Rattle.steps.specs.inside.SetAside.{SameRecords, put_aside}
use Rattle.steps.proofs.reclaim.Candidates.{same_then, set_aside_same}
use Rattle.steps.proofs.reclaiming.next_to_go.Goals as goal

pub loop-slot-preserved : goal.loop-slot-preserved
loop-slot-preserved g c =
    let kept = c.loop-slot.invariant in
    let now = c.loop-slot.store in
    let i = c.in-Some.slot in
    let is : c.stays.new.store ≡ put_aside now i = c.if-not-stays.ensures.aside in
    record {
      known = c.stays.ensures.known;
      reasons = c.stays.ensures.reasons;
      records = same_then kept.records (subst (SameRecords now) (sym is) (set_aside_same true now i));
    }
