-- When a core isn't renewed, by its fields.
use Rattle.std.proofs.Common.{◌≡◌, ◌↔◌, ℕ, zero, suc, Bool, true, false, not, List, [], ◌∷◌, map, option_map, slice_index_or, Option, Some, None, IsTrue, IsNone, refl, sym, ap, ◌∙◌, true≢false}
use Rattle.std.specs.List.{All, AllByRecursion}
use Rattle.std.proofs.lemmas.List.Elements.{All-from_recursion, recursion_from_All}
use Rattle.commitlog.specs.Histories.{phase_of}
use Rattle.steps.specs.CoreViews.{CoreView, Underway}
use Rattle.steps.specs.Refusals.{is_rest}
use Rattle.steps.specs.Renewals.{is_busy, renew_refusal}
use Rattle.steps.specs.inside.CoreFields.{call_at, underway, view_of}
use Rattle.steps.specs.declared.calls.OpenCall.{OpenCall}
use Rattle.steps.specs.declared.cores.Core.TheInside.{Inside}
use Rattle.steps.specs.declared.errors.RenewError.TheVariants.{NotAtRest, SessionBusy}
use Rattle.steps.proofs.phases.PhaseEnds.{not_not}
use Rattle.steps.proofs.sessions.AcceptedCalls.{passes}

module _ {A : Type 0} where
  abbrev Free : List (Option (OpenCall A)) → Type 0
  Free calls = All (λ (call : Option (OpenCall A)). IsNone call) calls

  abbrev seen : List (Option (OpenCall A)) → List (Option Underway)
  seen calls = map (option_map underway) calls

  busy_not : (calls : List (Option (OpenCall A))) → AllByRecursion (λ (call : Option (OpenCall A)). IsNone call) calls → is_busy (seen calls) ≡ false
  busy_not [] free = refl
  busy_not (None ∷ calls) free = busy_not calls free.1
  busy_not (Some c ∷ calls) free = absurd (true≢false free.0)

  not_busy : (calls : List (Option (OpenCall A))) → is_busy (seen calls) ≡ false → AllByRecursion (λ (call : Option (OpenCall A)). IsNone call) calls
  not_busy [] e = tt
  not_busy (None ∷ calls) e = (refl, not_busy calls e)
  not_busy (Some c ∷ calls) e = absurd (true≢false e)

  -- where all are free none is open
  busy_free : (calls lent : List (Option (OpenCall A))) (b : Bool) → lent ≡ calls → b ≡ true → (IsTrue b → Free lent) → is_busy (seen calls) ≡ false
  busy_free calls lent b is e f =
      ap (λ (l : List (Option (OpenCall A))). is_busy (seen l)) (sym is) ∙ busy_not lent (recursion_from_All (λ (call : Option (OpenCall A)). IsNone call) lent (f e))

  busy_some : (calls lent : List (Option (OpenCall A))) (b : Bool) → lent ≡ calls → b ≡ false → (Free lent → IsTrue b) → is_busy (seen calls) ≡ true
  busy_some calls lent b is e f = ap (λ (l : List (Option (OpenCall A))). is_busy (seen l)) (sym is) ∙ by (is_busy (seen lent)) refl
    where
      by : (x : Bool) → is_busy (seen lent) ≡ x → is_busy (seen lent) ≡ true
      by true same = same
      by false same = absurd (true≢false (sym (f (All-from_recursion (λ (call : Option (OpenCall A)). IsNone call) lent (not_busy lent same))) ∙ e))

  -- whether one is open, by what says whether all are free
  pub busy_as : (calls lent : List (Option (OpenCall A))) (b : Bool) → lent ≡ calls → (IsTrue b ↔ Free lent) → not b ≡ is_busy (seen calls)
  busy_as calls lent true is f = sym (busy_free calls lent true is refl f.0)
  busy_as calls lent false is f = sym (busy_some calls lent false is refl f.1)

  none_at : (calls : List (Option (OpenCall A))) (s : ℕ) → is_busy (seen calls) ≡ false → slice_index_or calls s None ≡ None
  none_at [] s e = refl
  none_at (None ∷ calls) zero e = refl
  none_at (None ∷ calls) (suc s) e = none_at calls s e
  none_at (Some c ∷ calls) s e = absurd (true≢false e)

  -- where a core may be renewed no call is open
  pub none_open_at : (c : Inside A) (v : CoreView) → view_of c ≡ v → renew_refusal v ≡ None → (s : ℕ) → call_at c s ≡ None
  none_open_at c v same e s =
      let free = passes (not (is_busy v.calls)) SessionBusy _ (passes (is_rest (phase_of v.log)) NotAtRest _ e).1 in
      none_at c.calls.items s (ap (λ (w : CoreView). is_busy w.calls) same ∙ not_not (is_busy v.calls) free.0)
