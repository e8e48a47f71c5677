use Rattle.std.proofs.Common.{subst, sym, ◌≢◌, ap, ◌∙◌, false, arith, below_more}
use Rattle.record_store.specs.Stores.{Slots}
use Rattle.steps.specs.inside.SetAside.{SameRecords, aside_at}
use Rattle.steps.proofs.reclaim.Candidates.{none_here, none_other, same_then, set_aside_same}
use Rattle.steps.proofs.reclaiming.reconsider_all.Goals as goal

pub loop-slot-preserved : goal.loop-slot-preserved
loop-slot-preserved g c =
    let kept = c.loop-slot.invariant in
    let now = c.loop-slot.store in
    let i = c.loop-slot.slot in
    record {
      records = same_then kept.records (subst (SameRecords now) (sym c.reconsider.ensures) (set_aside_same false now i));
      none = below_more _ _
          (λ k below. let differs : k ≢ i = omega arith in ap (λ (slots : Slots). aside_at slots k) c.reconsider.ensures ∙ none_other now i k differs (kept.none k below))
          (ap (λ (slots : Slots). aside_at slots i) c.reconsider.ensures ∙ none_here now i);
    }
