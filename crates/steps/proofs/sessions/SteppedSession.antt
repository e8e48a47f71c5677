-- A core after a step of a session, which may have no open call.
use Rattle.std.proofs.Common.{◌≡◌, ℕ, ◌<◌, List, Option, Some, None, Ok, Err, OnOk, OnErr, IfOk, IfSome, Vec, map, option_map, slice_set, slice_index_or, inl, refl, sym, ap, ◌∙◌, subst}
use Rattle.std.specs.declared.result.Result.{Result}
use Rattle.std.proofs.lemmas.List.{set-get_or}
use Rattle.procedure.specs.Runs.{ended}
use Rattle.procedure.specs.declared.limits.TheConstants.{INSTRUCTIONS}
use Rattle.locktable.specs.Locks.{Locks}
use Rattle.record_store.specs.Stores.{Slots}
use Rattle.steps.specs.inside.CoreFields.{IsCore, call_at, underway, view_of}
use Rattle.steps.specs.inside.InstructionLocks.{StepsIn}
use Rattle.steps.specs.CoreViews.{CoreView, OfOpen, Steps, front_of, one_more, stepped_as}
use Rattle.steps.specs.Refusals.{Answers, step_refusal, unstepped}
use Rattle.steps.specs.declared.calls.OpenCall.{OpenCall}
use Rattle.steps.specs.declared.cores.Core.TheInside.{Inside}
use Rattle.steps.specs.declared.errors.StepError.{StepError}
use Rattle.steps.specs.declared.errors.StepError.TheVariants as refused
use Rattle.steps.specs.declared.step.Stepped.{Stepped}
use Rattle.steps.proofs.sessions.CallProgress.{going, roomy_fields}
use Rattle.steps.proofs.sessions.EndedCall.{not_open}
use Rattle.steps.proofs.sessions.SteppedCall.{answered_core, answered_ready, answered_view, few, step_answers, unanswered_view}

module _ {A : Type 0} (c : Inside A) (ok : IsCore c) where
  few_in : (s : ℕ) (o : Option (OpenCall A)) → call_at c s ≡ o → IfSome o (λ k. ended k.machine.progress ≡ None → k.executed < INSTRUCTIONS)
  few_in s None is = tt
  few_in s (Some k) is = λ e. few c ok s k is (going k.machine.progress e)

  -- an open call has instructions left to count
  pub few_at : (s : ℕ) → IfSome (call_at c s) (λ k. ended k.machine.progress ≡ None → k.executed < INSTRUCTIONS)
  few_at s = few_in s (call_at c s) refl

module _ {A : Type 0} (c : Inside A) (ok : IsCore c) (s : ℕ) (calls : Vec (Option (OpenCall A)) A) (store : Slots) (locks : Locks) (r : Result Stepped StepError)
    (here : StepsIn c.phase s c.store c.locks (call_at c s) store locks (slice_index_or calls.items s None) r) (others : calls.items ≡ slice_set c.calls.items s (slice_index_or calls.items s None)) where
  abbrev after : Inside A
  after = record c { calls = calls; store = store; locks = locks }

  abbrev In : Option (OpenCall A) → Option (OpenCall A) → Type 0
  In o p = StepsIn c.phase s c.store c.locks o store locks p r

  -- without an open call the calls are the same
  unset : (p : Option (OpenCall A)) → call_at c s ≡ None → p ≡ None → calls.items ≡ slice_set c.calls.items s p → calls.items ≡ c.calls.items
  unset p is none set = set ∙ ap (slice_set c.calls.items s) (none ∙ sym is) ∙ set-get_or c.calls.items s None

  core_by : (o p : Option (OpenCall A)) → call_at c s ≡ o → calls.items ≡ slice_set c.calls.items s p → In o p → IsCore after
  core_by None p is set x =
      subst (λ (t : Slots). IsCore (record c { calls = calls; store = t; locks = locks })) (sym x.0)
      (subst (λ (m : Locks). IsCore (record c { calls = calls; locks = m })) (sym x.1) (roomy_fields c ok calls c.log c.changed c.rooms (unset p is x.2 set) refl refl refl))
  core_by (Some k) None is set x = absurd x
  core_by (Some k) (Some d) is set x = answered_core c ok s k is d calls store locks set r x.ok x.granted x.err x.unlocked x.refusal

  pub session_core : IsCore after
  session_core = core_by (call_at c s) (slice_index_or calls.items s None) refl others here

  module _ (w : CoreView) (same : view_of c ≡ w) where
    refused_ok : (P : Type 0) → r ≡ Err refused.NotActive → OnOk r P
    refused_ok P e = subst (λ (r : Result Stepped StepError). OnOk r P) (sym e) tt

    stepped_by : (o p : Option (OpenCall A)) → call_at c s ≡ o → calls.items ≡ slice_set c.calls.items s p → In o p → OnOk r (OfOpen w s (Steps w (view_of after) s))
    stepped_by None p is set x = refused_ok _ x.3
    stepped_by (Some k) None is set x = absurd x
    stepped_by (Some k) (Some d) is set x = answered_view c ok s k is d calls store locks set w same r x.ok x.granted x.refusal

    pub session_stepped : OnOk r (OfOpen w s (Steps w (view_of after) s))
    session_stepped = stepped_by (call_at c s) (slice_index_or calls.items s None) refl others here

    ready_by : (o p : Option (OpenCall A)) → call_at c s ≡ o → calls.items ≡ slice_set c.calls.items s p → In o p → IfOk r (λ x. OfOpen w s (λ k. x ≡ stepped_as (front_of w (one_more k))))
    ready_by None p is set x = subst (λ (r : Result Stepped StepError). IfOk r (λ x. OfOpen w s (λ k. x ≡ stepped_as (front_of w (one_more k))))) (sym x.3) tt
    ready_by (Some k) None is set x = absurd x
    ready_by (Some k) (Some d) is set x = answered_ready c ok s k is d calls store locks set w same r x.ok x.granted x.refusal x.ready

    pub session_ready : IfOk r (λ x. OfOpen w s (λ k. x ≡ stepped_as (front_of w (one_more k))))
    session_ready = ready_by (call_at c s) (slice_index_or calls.items s None) refl others here

    on_err : {P : Type 0} (x : Result Stepped StepError) → P → OnErr x P
    on_err (Ok y) p = tt
    on_err (Err e) p = p

    unstepped_by : (o p : Option (OpenCall A)) → call_at c s ≡ o → calls.items ≡ slice_set c.calls.items s p → In o p → OnErr r (view_of after ≡ w)
    unstepped_by None p is set x =
        on_err r
        (ap (λ (l : List (Option (OpenCall A))). record (view_of after) { calls = map (option_map underway) l }) (unset p is x.2 set)
        ∙ ap (λ (t : Slots). record (view_of c) { slots = t }) x.0
        ∙ same)
    unstepped_by (Some k) None is set x = absurd x
    unstepped_by (Some k) (Some d) is set x = unanswered_view c ok s k is d calls store locks set w same r x.err x.unlocked

    pub session_unstepped : OnErr r (view_of after ≡ w)
    session_unstepped = unstepped_by (call_at c s) (slice_index_or calls.items s None) refl others here

    refusal_by : (o p : Option (OpenCall A)) → call_at c s ≡ o → In o p → Answers (step_refusal w s) refused.NoMemory r
    refusal_by None p is x =
        subst (λ (r : Result Stepped StepError). Answers (step_refusal w s) refused.NoMemory r) (sym x.3) (inl (ap (unstepped w s) (not_open c ok s w same is)))
    refusal_by (Some k) None is x = absurd x
    refusal_by (Some k) (Some d) is x = step_answers c ok s k is w same r x.refusal

    pub session_refusal : Answers (step_refusal w s) refused.NoMemory r
    session_refusal = refusal_by (call_at c s) (slice_index_or calls.items s None) refl here
