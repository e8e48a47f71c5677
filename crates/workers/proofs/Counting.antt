-- What grows by one with each call that is answered.
use Rattle.std.proofs.Common.{◌≡◌, ◌⊎◌, inl, inr, ℕ, ◌+◌, List, [], Option, Some, None, refl, ap, ◌∙◌, arith}
use Rattle.std.specs.declared.result.Result.{Result}
use Rattle.std.proofs.lemmas.List.Sums.{sum_by-cons}
use Rattle.procedure.specs.declared.instructions.Call.{Call}
use Rattle.steps.specs.declared.errors.StepError.{StepError}
use Rattle.workers.specs.declared.shares.Given.{Given}
use Rattle.workers.specs.declared.shares.Response.{Response}
use Rattle.workers.specs.Sessions.{Deed, gains, Executes, runs, readied, was_ready, refused, ran_all, Attempts, not_begun, met_conflict, not_executed, not_finished, answered as was_answered, Makes, at_last, again, without_turn, MakesAll, no_call, goes_no_further, one_more, the_last}
use Rattle.workers.specs.Shares.{answered, gained}

module _ {A S : Type 0} (does : Deed A → S → S → Type 0) (parts amount : S → ℕ) (grows : (d : Deed A) (s t : S) → does d s t → (parts t ≡ parts s) × (amount t ≡ amount s + gains d)) where
  -- the parts stay, and the amount grows by this
  abbrev Grows : S → S → ℕ → Type 0
  Grows s t k = (parts t ≡ parts s) × (amount t ≡ amount s + k)

  then_on : (k m : ℕ) {s t u : S} → Grows s t k → Grows t u m → Grows s u (k + m)
  then_on k m a b = (b.0 ∙ a.0, omega (arith, a.1, b.1))

  abbrev gained_in : Option (Given A) → ℕ
  gained_in None = 0
  gained_in (Some g) = gained g

  executed : {n : ℕ} {s t : S} {r : Result (Unit {0}) StepError} → Executes does n s t r → Grows s t 0
  executed (runs {s = s} {t = t} d e) = then_on _ _ (grows _ s t d) (executed e)
  executed (readied {s = s} {t = t} d) = grows _ s t d
  executed (was_ready {s = s} {t = t} d) = grows _ s t d
  executed (refused {s = s} {t = t} i d) = grows _ s t d
  executed (ran_all {s = s}) = (refl, omega arith)

  attempted : {c : Call A} {s t : S} {o : Option (Given A)} → Attempts does c s t o → Grows s t (gained_in o)
  attempted (not_begun d) = grows _ _ _ d
  attempted (met_conflict d e g) = then_on _ _ (grows _ _ _ d) (then_on _ _ (executed e) (grows _ _ _ g))
  attempted (not_executed i d e g) = then_on _ _ (grows _ _ _ d) (then_on _ _ (executed e) (grows _ _ _ g))
  attempted (not_finished d e f g) = then_on _ _ (grows _ _ _ d) (then_on _ _ (executed e) (then_on _ _ (grows _ _ _ f) (grows _ _ _ g)))
  attempted (was_answered d e f) = then_on _ _ (grows _ _ _ d) (then_on _ _ (executed e) (grows _ _ _ f))

  made : {c : Call A} {n m : ℕ} {s t : S} {g : Given A} → Makes does c n m s t g → Grows s t (gained g)
  made (at_last a) = attempted a
  made (again a l) = ((made l).0 ∙ (attempted a).0, omega (arith, (attempted a).1, (made l).1))
  made without_turn = (refl, omega arith)

  pub made_all : {n : ℕ} {cs : List (Call A)} {s t : S} {rs : List (Response A)} → MakesAll does n cs s t rs → Grows s t (answered rs)
  made_all no_call = (refl, omega arith)
  made_all (goes_no_further d) = grows _ _ _ d
  made_all (one_more {c = c} {g = g} {rs = rs} a l goes rest) =
      ((made_all rest).0 ∙ ((made l).0 ∙ (grows _ _ _ a).0), omega (arith, (grows _ _ _ a).1, (made l).1, (made_all rest).1, sum_by-cons (λ (r : Response A). gained r.given) (record { number = c.number; given = g }) rs))
  made_all (the_last {c = c} {g = g} a l ends) =
      ((made l).0 ∙ (grows _ _ _ a).0, omega (arith, (grows _ _ _ a).1, (made l).1, sum_by-cons (λ (r : Response A). gained r.given) (record { number = c.number; given = g }) []))

  pub unmade : {n : ℕ} {cs : List (Call A)} {s t : S} {rs : List (Response A)} → ((rs ≡ []) × (t ≡ s)) ⊎ MakesAll does n cs s t rs → Grows s t (answered rs)
  unmade (inl none) = (ap parts none.1, ap amount none.1 ∙ omega (arith, ap answered none.0))
  unmade (inr all) = made_all all
