-- Steps and turns that are left.
use Rattle.std.proofs.Common.{◌≡◌, ◌<◌, ◌≤◌, ◌+◌, ◌-◌, ℕ, suc, zero, true, false, List, [], ◌∷◌, drop, length, slice_index_or, Option, Some, None, Ok, Err, refl, sym, ap, ◌∙◌, subst, arith}
use Rattle.std.specs.declared.result.Result.{Result}
use Rattle.steps.specs.declared.errors.StepError.{StepError}
use Rattle.steps.specs.declared.errors.StepError.TheVariants.{AlreadyReady}
use Rattle.steps.specs.declared.step.Stepped.TheVariants.{Ran, Ready}
use Rattle.std.proofs.lemmas.List.{drop_all, drop_more}
use Rattle.procedure.specs.declared.instructions.Call.{Call}
use Rattle.workers.specs.declared.shares.Given.{Given}
use Rattle.workers.specs.declared.shares.Given.TheVariants.{TurnsOut}
use Rattle.workers.specs.Sessions.{Deed, asks, steps, Executes, IsRefusal, runs, readied, was_ready, refused, ran_all, Attempts, Makes, at_last, again, without_turn, MakesAll, no_call, goes_no_further, one_more, the_last}
use Rattle.workers.specs.declared.shares.Response.{Response}
use Rattle.workers.specs.Shares.{stops}

before : (n : ℕ) → suc n - 1 ≡ n
before n = omega arith

-- what holds of no value is None
pub none_of : {X : Type 0} (o : Option X) → ((x : X) → o ≡ Some x → ⊥) → o ≡ None
none_of None h = refl
none_of (Some x) h = absurd (h x refl)

module _ {A S : Type 0} (does : Deed A → S → S → Type 0) where
  pub ran_on : (n : ℕ) {s t u : S} {r : Result (Unit {0}) StepError} → 0 < n → does (steps (Ok Ran)) s t → Executes does (n - 1) t u r → Executes does n s u r
  ran_on zero p d e = absurd (omega (arith, p))
  ran_on (suc n) {t = t} {u = u} {r = r} p d e = runs d (subst (λ k. Executes does k t u r) (before n) e)

  pub ready_now : (n : ℕ) {s t : S} {x : Unit {0}} → 0 < n → does (steps (Ok Ready)) s t → Executes does n s t (Ok x)
  ready_now zero p d = absurd (omega (arith, p))
  ready_now (suc n) p d = readied d

  pub ready_before : (n : ℕ) {s t : S} {x : Unit {0}} → 0 < n → does (steps (Err AlreadyReady)) s t → Executes does n s t (Ok x)
  ready_before zero p d = absurd (omega (arith, p))
  ready_before (suc n) p d = was_ready d

  pub refused_one : (n : ℕ) {s t : S} {e : StepError} → 0 < n → IsRefusal e → does (steps (Err e)) s t → Executes does n s t (Err e)
  refused_one zero p i d = absurd (omega (arith, p))
  refused_one (suc n) p i d = refused i d

  pub made_at_last : (n : ℕ) {c : Call A} {s t : S} {g : Given A} → 0 < n → Attempts does c s t (Some g) → Makes does c n n s t g
  made_at_last zero p a = absurd (omega (arith, p))
  made_at_last (suc n) p a = at_last a

  pub made_again : (n m : ℕ) {c : Call A} {s t u : S} {g : Given A} → 0 < n → Attempts does c s t None → Makes does c (n - 1) m t u g → Makes does c n m s u g
  made_again zero m p a l = absurd (omega (arith, p))
  made_again (suc n) m {c = c} {t = t} {u = u} {g = g} p a l = again a (subst (λ k. Makes does c k m t u g) (before n) l)

  pub out_of_turns : (n : ℕ) {c : Call A} {s : S} → n ≤ 0 → Makes does c n n s s TurnsOut
  out_of_turns zero p = without_turn
  out_of_turns (suc n) p = absurd (omega (arith, p))

  pub ran_out : (n : ℕ) {s : S} {x : Unit {0}} → n ≤ 0 → Executes does n s s (Ok x)
  ran_out zero p = ran_all
  ran_out (suc n) p = absurd (omega (arith, p))

  -- the call at a position is the first of those that are left
  first_left : (cs : List (Call A)) (k : ℕ) (c : Call A) → k < length cs → c ≡ slice_index_or cs k c → drop k cs ≡ c ∷ drop (k + 1) cs
  first_left cs k c within is = drop_more cs k c within ∙ ap (λ d. d ∷ drop (k + 1) cs) (sym is)

  pub made_one : (cs : List (Call A)) (k : ℕ) {n m : ℕ} {c : Call A} {s t u v : S} {g : Given A} {rs : List (Response A)} → k < length cs → c ≡ slice_index_or cs k c → does (asks true) s t → Makes does c n m t u g → false ≡ stops g → MakesAll does m (drop (k + 1) cs) u v rs → MakesAll does n (drop k cs) s v (record { number = c.number; given = g } ∷ rs)
  made_one cs k {n = n} {c = c} {s = s} {v = v} {g = g} {rs = rs} within is goes_on one goes rest = subst (λ l. MakesAll does n l s v (record { number = c.number; given = g } ∷ rs)) (sym (first_left cs k c within is)) (one_more goes_on one (sym goes) rest)

  pub made_last : (cs : List (Call A)) (k : ℕ) {n m : ℕ} {c : Call A} {s t u : S} {g : Given A} → k < length cs → c ≡ slice_index_or cs k c → does (asks true) s t → Makes does c n m t u g → true ≡ stops g → MakesAll does n (drop k cs) s u (record { number = c.number; given = g } ∷ [])
  made_last cs k {n = n} {c = c} {s = s} {u = u} {g = g} within is goes_on one ends = subst (λ l. MakesAll does n l s u (record { number = c.number; given = g } ∷ [])) (sym (first_left cs k c within is)) (the_last goes_on one (sym ends))

  pub made_no_more : (cs : List (Call A)) (k : ℕ) {n : ℕ} {c : Call A} {s t : S} → k < length cs → c ≡ slice_index_or cs k c → does (asks false) s t → MakesAll does n (drop k cs) s t []
  made_no_more cs k {n = n} {c = c} {s = s} {t = t} within is ends = subst (λ l. MakesAll does n l s t []) (sym (first_left cs k c within is)) (goes_no_further ends)

  pub made_all : (cs : List (Call A)) (k : ℕ) {n : ℕ} {s : S} → length cs ≤ k → MakesAll does n (drop k cs) s s []
  made_all cs k {n = n} {s = s} past = subst (λ l. MakesAll does n l s s []) (sym (drop_all k cs past)) no_call
