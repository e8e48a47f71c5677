-- When a phase may be left, by the start phases and by the view.
use Rattle.std.proofs.Common.{◌≡◌, ◌↔◌, Ok, Err, IsOk, is_err, ℕ, zero, suc, Bool, true, false, not, ◌||◌, List, [], ◌∷◌, Option, Some, None, map, option_map, refl, sym, ap, ◌∙◌, subst, true≢false}
use Rattle.std.specs.Prelude.{◌==◌}
use Rattle.std.specs.declared.result.Result.{Result}
use Rattle.std.proofs.lemmas.Bool.{eqb-true, eq-eqb}
use Rattle.phase.specs.Phases.{AllStartedIn, MayLeave}
use Rattle.phase.specs.declared.phases.Phase.{Phase}
use Rattle.phase.specs.declared.phases.Phase.TheVariants.{Rest, Prepare, Resolve, Capture, Complete}
use Rattle.commitlog.specs.Histories.{phase_of}
use Rattle.steps.specs.inside.CoreFields.{IsCore, SameCall, call_at, start_of, underway, view_of}
use Rattle.steps.specs.CoreViews.{CoreView, Underway, any_open}
use Rattle.steps.specs.Refusals.{advance_refusal, is_held, is_log_full, is_rest, is_scanning, rank, started_elsewhere, refused_unless}
use Rattle.steps.specs.machine.Machine.{AllStarted, Open}
use Rattle.steps.specs.declared.calls.OpenCall.{OpenCall}
use Rattle.steps.specs.declared.cores.Core.TheInside.{Inside}
use Rattle.steps.specs.declared.errors.AdvanceError.TheVariants as refused
use Rattle.steps.proofs.sessions.BarredTouches.{any_none, neither_of}
use Rattle.steps.proofs.machine.OpenCalls.{none_some, same_Some}
use Rattle.steps.proofs.sessions.AcceptedCalls.{passes, shown_at}
use Rattle.steps.proofs.views.CoreState.{phase_by}

abbrev of_rank : ℕ → Phase
of_rank zero = Rest
of_rank (suc zero) = Prepare
of_rank (suc (suc zero)) = Resolve
of_rank (suc (suc (suc zero))) = Capture
of_rank (suc (suc (suc (suc n)))) = Complete

rank_back : (p : Phase) → of_rank (rank p) ≡ p
rank_back Rest = refl
rank_back _ = refl

same_rank : (p q : Phase) → (rank p == rank q) ≡ true → p ≡ q
same_rank p q e = sym (rank_back p) ∙ ap of_rank (eqb-true (rank p) (rank q) e) ∙ rank_back q

here : (p : Phase) (u : Underway) → started_elsewhere p u ≡ false → u.start ≡ p
here p u e = by (rank u.start == rank p) refl e
  where
    by : (b : Bool) → (rank u.start == rank p) ≡ b → not b ≡ false → u.start ≡ p
    by true is e = same_rank u.start p is
    by false is e = absurd (true≢false e)

none_elsewhere : (p : Phase) (u : Underway) → u.start ≡ p → started_elsewhere p u ≡ false
none_elsewhere p u e = ap not (eq-eqb (rank u.start) (rank p) (ap rank e))

module _ {A : Type 0} where
  held_by : (p : Phase) (l : List (Option (OpenCall A))) → AllStartedIn p (map start_of l) → any_open (started_elsewhere p) (map (option_map underway) l) ≡ false
  held_by p [] all = refl
  held_by p (None ∷ l) all = held_by p l (λ s q e. all (suc s) q e)
  held_by p (Some k ∷ l) all =
      ap (λ b. b || any_open (started_elsewhere p) (map (option_map underway) l)) (none_elsewhere p (underway k) (all 0 k.start refl))
      ∙ held_by p l (λ s q e. all (suc s) q e)

  free_by : (p : Phase) (l : List (Option (OpenCall A))) → any_open (started_elsewhere p) (map (option_map underway) l) ≡ false → AllStartedIn p (map start_of l)
  free_by p [] e s q is = none_some is
  free_by p (None ∷ l) e zero q is = absurd (cc)
  free_by p (None ∷ l) e (suc s) q is = free_by p l e s q is
  free_by p (Some k ∷ l) e zero q is =
      let one : k.start ≡ q = same_Some (same_Some is) in
      sym one ∙ here p (underway k) (neither_of (started_elsewhere p (underway k)) (any_open (started_elsewhere p) (map (option_map underway) l)) e).0
  free_by p (Some k ∷ l) e (suc s) q is = free_by p l (neither_of (started_elsewhere p (underway k)) (any_open (started_elsewhere p) (map (option_map underway) l)) e).1 s q is

  module _ (c : Inside A) (ok : IsCore c) where
    -- where the start phases let the phase go, no open call holds it
    pub free_phase : (p : Phase) → MayLeave p c.active → is_held p (view_of c).calls ≡ false
    free_phase Rest may = refl
    free_phase Prepare may = held_by Prepare c.calls.items (subst (AllStartedIn Prepare) ok.starts may)
    free_phase Resolve may = held_by Resolve c.calls.items (subst (AllStartedIn Resolve) ok.starts may)
    free_phase Capture may = refl
    free_phase Complete may = held_by Complete c.calls.items (subst (AllStartedIn Complete) ok.starts may)

    may_leave : (p : Phase) → is_held p (view_of c).calls ≡ false → MayLeave p c.active
    may_leave Rest e = tt
    may_leave Prepare e = subst (AllStartedIn Prepare) (sym ok.starts) (free_by Prepare c.calls.items e)
    may_leave Resolve e = subst (AllStartedIn Resolve) (sym ok.starts) (free_by Resolve c.calls.items e)
    may_leave Capture e = tt
    may_leave Complete e = subst (AllStartedIn Complete) (sym ok.starts) (free_by Complete c.calls.items e)

    -- where they don't, one does
    pub held_phase : (p : Phase) → (MayLeave p c.active → ⊥) → is_held p (view_of c).calls ≡ true
    held_phase p never = by (is_held p (view_of c).calls) refl
      where
        by : (b : Bool) → is_held p (view_of c).calls ≡ b → b ≡ true
        by true e = refl
        by false e = absurd (never (may_leave p e))

    -- every open call started in a phase that only such calls let go
    pub all_started : (p : Phase) → any_open (started_elsewhere p) (view_of c).calls ≡ false → AllStarted p ok.world.calls
    all_started p e s o is = by (call_at c s) (ok.world.calls s) refl is (ok.stands.calls s)
      where
        by : (x : Option (OpenCall A)) (y : Option Open) → call_at c s ≡ x → y ≡ Some o → SameCall x y → o.start ≡ p
        by None None at there same = none_some there
        by None (Some d) at there same = absurd same
        by (Some k) None at there same = none_some there
        by (Some k) (Some d) at there same =
            subst (λ (d : Open). d.start ≡ p) (same_Some there)
            (same.start ∙ here p (underway k) (any_none (started_elsewhere p) (view_of c).calls e s (underway k) (shown_at c s ∙ ap (option_map underway) at)))

pub not_not : (b : Bool) → not b ≡ true → b ≡ false
not_not true e = absurd (true≢false (sym e))
not_not false e = refl

-- what holds where the phase may change
pub record IsFree (v : CoreView) (p : Phase) : Type 0 where
  pub running : is_rest p ≡ false
  pub free : is_held p v.calls ≡ false
  pub scanned : is_scanning p v.checkpoint ≡ false
  pub room : is_log_full v ≡ false

pub free_to_advance : (v : CoreView) (p : Phase) → phase_of v.log ≡ p → advance_refusal v ≡ None → IsFree v p
free_to_advance v p e is =
    let first = passes (not (is_rest (phase_of v.log))) refused.AtRest _ is in
    let second = passes (not (is_held (phase_of v.log) v.calls)) refused.StillActive _ first.1 in
    let third = passes (not (is_scanning (phase_of v.log) v.checkpoint)) refused.NotScanned _ second.1 in
    record {
      running = subst (λ p. is_rest p ≡ false) e (not_not _ first.0);
      free = subst (λ p. is_held p v.calls ≡ false) e (not_not _ second.0);
      scanned = subst (λ p. is_scanning p v.checkpoint ≡ false) e (not_not _ third.0);
      room = not_not _ (last_not (not (is_log_full v)) third.1);
    }
  where
    last_not : (b : Bool) → refused_unless b refused.LogFull ≡ None → b ≡ true
    last_not true is = refl
    last_not false is = absurd (cc)

module _ {A : Type 0} (c : Inside A) (ok : IsCore c) (v : CoreView) (same : view_of c ≡ v) (p : Phase) (at : phase_of v.log ≡ p) (goes : advance_refusal v ≡ None) where
  -- what holds of the fields where the phase may change
  pub record MayGo : Type 0 where
    pub is : c.phase ≡ p
    pub held : is_held p (view_of c).calls ≡ false
    pub scanned : is_scanning p (view_of c).checkpoint ≡ false

  pub advances_from : MayGo
  advances_from =
      let free = free_to_advance v p at goes in record {
        is = phase_by c ok same at;
        held = subst (λ (w : CoreView). is_held p w.calls ≡ false) (sym same) free.free;
        scanned = subst (λ (w : CoreView). is_scanning p w.checkpoint ≡ false) (sym same) free.scanned;
      }

-- the same by the view
module _ {A : Type 0} (c : Inside A) (ok : IsCore c) (v : CoreView) (same : view_of c ≡ v) where
  phase_here : c.phase ≡ phase_of v.log
  phase_here = phase_by c ok same refl

  held_here : is_held c.phase (view_of c).calls ≡ is_held (phase_of v.log) v.calls
  held_here = ap (λ p. is_held p (view_of c).calls) phase_here ∙ ap (λ (w : CoreView). is_held (phase_of v.log) w.calls) same

  -- whether a call that started elsewhere is open, by what says whether the phase may be left
  pub held_as : {X E : Type 0} (r : Result X E) → (IsOk r ↔ MayLeave c.phase c.active) → is_err r ≡ is_held (phase_of v.log) v.calls
  held_as (Ok x) leaves = sym (free_phase c ok c.phase (leaves.0 refl)) ∙ held_here
  held_as (Err e) leaves = sym (held_phase c ok c.phase (λ may. let no_ok = leaves.1 may in absurd (cc))) ∙ held_here
