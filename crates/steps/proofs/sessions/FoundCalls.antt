-- The call that a core looks up in its places, and whether it may be answered.
use Rattle.std.proofs.Common.{◌≡◌, ℕ, Bool, true, List, Option, Some, None, slice_index_or, sym, ap, ◌∙◌}
use Rattle.std.specs.Prelude.{◌==◌, length}
use Rattle.commitlog.specs.declared.limits.TheConstants.{LOG_RECORDS}
use Rattle.steps.specs.inside.CoreFields.{IsCore, call_at, view_of}
use Rattle.steps.specs.CoreViews.{CoreView}
use Rattle.steps.specs.Refusals.{finish_refusal}
use Rattle.steps.specs.inside.Endings.{unanswered}
use Rattle.steps.specs.declared.calls.OpenCall.{OpenCall}
use Rattle.steps.specs.declared.cores.Core.TheInside.{Inside}
use Rattle.steps.specs.declared.errors.FinishError.TheVariants as refused
use Rattle.steps.proofs.sessions.CallProgress.{not_active, refusal_is, same_test}

module _ {A : Type 0} (c : Inside A) where
  -- what was looked up at an index stands so in the core
  pub found_at : {s i : ℕ} {l : List (Option (OpenCall A))} (k : Option (OpenCall A)) → i ≡ s → l ≡ c.calls.items → k ≡ slice_index_or l i None → call_at c s ≡ k
  found_at {i = i} k at same found = ap (call_at c) (sym at) ∙ sym (found ∙ ap (λ l. slice_index_or l i None) same)

  module _ (ok : IsCore c) (v : CoreView) (same : view_of c ≡ v) (s : ℕ) where
    -- a test of the log's length tells whether it is full
    pub full_is : (full : Bool) → (full ≡ true → length c.log.records ≡ LOG_RECORDS) × (length c.log.records ≡ LOG_RECORDS → full ≡ true) → full ≡ (length v.log == LOG_RECORDS)
    full_is full fills =
        same_test full (length v.log) LOG_RECORDS (λ e. ap (λ (w : CoreView). length w.log) (sym same) ∙ fills.0 e) (λ e. fills.1 (ap (λ (w : CoreView). length w.log) same ∙ e))

    -- the refusal of a call that was found, by a test of the log's length
    pub found_refusal :
        (k : OpenCall A) → call_at c s ≡ Some k → (full : Bool) → (full ≡ true → length c.log.records ≡ LOG_RECORDS) × (length c.log.records ≡ LOG_RECORDS → full ≡ true) →
        finish_refusal v s ≡ unanswered k.machine.progress full
    found_refusal k is full fills = refusal_is c ok v same s k full is (full_is full fills)

    -- where none was found there is none to be answered
    pub absent_refusal : call_at c s ≡ None → finish_refusal v s ≡ Some refused.NotActive
    absent_refusal none = not_active c ok v same s none
