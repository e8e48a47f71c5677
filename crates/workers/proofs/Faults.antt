-- Why claims are refused.
use Rattle.std.proofs.Common.{◌≡◌, ℕ, ◌+◌, ◌<◌, ◌≤◌, List, Bool, true, false, Option, Some, None, length, take, drop, get_or, refl, sym, ap, ◌∙◌, subst, arith, inl, inr, ◌≢◌}
use Rattle.std.specs.Prelude.{cond, ◌==◌, IsTrue, slice_get, slice_set, eqb, ◌⊎◌, Ok, Err, IfErr}
use Rattle.std.specs.declared.result.Result.{Result}
use Rattle.std.proofs.lemmas.List.Sums.{sum_by-append, count_by_more_yes, count_by_more_no}
use Rattle.std.proofs.lemmas.Grind.{get_or-set_at}
use Rattle.std.proofs.lemmas.Bool.Decides.{eqb_tells}
use Rattle.std.proofs.lemmas.Bool.{eq-eqb, false≢true}
use Rattle.std.proofs.lemmas.Option.{slice_get_within}
use Rattle.std.proofs.lemmas.List.{take-append-drop, get_or_default, get_or-set_other}
use Rattle.commitlog.specs.Records.{Record, Token, Call}
use Rattle.workers.specs.declared.gathering.Claim.{Claim}
use Rattle.workers.specs.declared.errors.GatherError.{GatherError}
use Rattle.workers.specs.declared.errors.GatherError.TheVariants.{Stranger, Double, Missing, NoMemory}
use Rattle.workers.specs.Claims.{AreAnswered, Fault, is_call_at, is_call_in, IsCallIn, IsOf, mark_of, OneFault, times}

-- a call's place is among the records
call_within_at : (o : Option Record) → IsTrue (is_call_in o) → (r : Record) × (o ≡ Some r)
call_within_at None h = absurd (false≢true h)
call_within_at (Some r) h = (r, refl)

pub call_within : (records : List Record) (p : ℕ) → IsTrue (is_call_at records p) → p < length records
call_within records p h = let r = call_within_at (slice_get records p) h in slice_get_within records p r.0 r.1

module _ {A : Type 0} where
  call_in : (c : Claim A) (o : Option Record) → IsCallIn c o → IsTrue (is_call_in o)
  call_in c None h = absurd h
  call_in c (Some (Token p n)) h = absurd h
  call_in c (Some (Call s n p args o r)) h = refl

  times_take_le : (p n : ℕ) (claims : List (Claim A)) → times p (take n claims) ≤ times p claims
  times_take_le p n claims =
      let f : Claim A → ℕ = λ c. cond (c.answer.place == p) 1 0 in omega (arith, sum_by-append f (take n claims) (drop n claims), ap (times p) (take-append-drop n claims))

  pub fault_of : (records : List Record) (claims : List (Claim A)) (seen : List Bool) (i : ℕ) (d : Claim A) → i < length claims
      → ((p : ℕ) → p < length records → times p (take i claims) ≡ mark_of (get_or seen p false))
      → (e : GatherError) → OneFault records (get_or claims i d) seen e → Fault records claims e
  fault_of records claims seen i d low once Stranger h = (i, low, λ e s. h (let P : Claim A → Type 0 = IsOf records in subst P (get_or_default claims i e d low) s))
  fault_of records claims seen i d low once Double h =
      let p = (get_or claims i d).answer.place in (
        p,
        call_in (get_or claims i d) (slice_get records p) h.0,
        (let before : times p (take i claims) ≡ 1 = once _ h.2 ∙ ap mark_of h.1 in
            let here : times p (take (i + 1) claims) ≡ times p (take i claims) + 1 = count_by_more_yes (λ c. c.answer.place == p) claims i d low (eq-eqb p p refl) in
            omega (arith, times_take_le p (i + 1) claims)),
      )
  fault_of records claims seen i d low once (Missing p) h = absurd h
  fault_of records claims seen i d low once NoMemory h = absurd h

  pub well : (records : List Record) (claims : List (Claim A)) (seen : List Bool) (p : ℕ) (b : Bool)
      → ((p : ℕ) → p < length records → times p claims ≡ mark_of (get_or seen p false)) → get_or seen p false ≡ b → IsTrue (is_call_at records p) → times p claims ≡ mark_of b
  well records claims seen p b once is h = once p (call_within records p h) ∙ ap mark_of is

  -- where each answer has its call and each call one answer, only memory can be wanting
  pub no_fault : (records : List Record) (claims : List (Claim A)) (d : Claim A) → AreAnswered records claims → (e : GatherError) → Fault records claims e → e ≡ NoMemory
  no_fault records claims d w Stranger f = absurd (f.2 d (w.fit f.0 d f.1))
  no_fault records claims d w Double f = absurd (omega (arith, w.once f.0 f.1, f.2))
  no_fault records claims d w (Missing p) f = absurd (omega (arith, w.once p f.0, f.1))
  no_fault records claims d w NoMemory f = refl

  pub only_memory : (records : List Record) (claims : List (Claim A)) (d : Claim A) → AreAnswered records claims → (r : Result (Unit {0}) GatherError) → IfErr r (Fault records claims) →
      (r ≡ Ok tt) ⊎ (r ≡ Err NoMemory)
  only_memory records claims d w (Ok u) f = inl refl
  only_memory records claims d w (Err e) f = inr (ap (λ (x : GatherError). let r : Result (Unit {0}) GatherError = Err x in r) (no_fault records claims d w e f))

  -- one claim more fits
  pub fit_more : (records : List Record) (claims : List (Claim A)) (i : ℕ) (x : Claim A) → x ≡ get_or claims i x
      → ((k : ℕ) (d : Claim A) → k < i → IsOf records (get_or claims k d)) → i < length claims → IsOf records x → (k : ℕ) (d : Claim A) → k < i + 1 → IsOf records (get_or claims k d)
  fit_more records claims i x is fit within h k d low = by (eqb_tells k i)
    where
      P : Claim A → Type 0
      P = IsOf records

      by : ((eqb k i ≡ true) × (k ≡ i)) ⊎ ((eqb k i ≡ false) × (k ≢ i)) → IsOf records (get_or claims k d)
      by (inl (e, same)) = subst (λ (j : ℕ). P (get_or claims j d)) (sym same) (subst P (is ∙ get_or_default claims i x d within) h)
      by (inr (e, other)) = fit k d (omega (arith, low, other))

  -- and its place is marked
  pub mark_more : (records : List Record) (claims : List (Claim A)) (seen new : List Bool) (i : ℕ) (x : Claim A) → i < length claims → x ≡ get_or claims i x → length seen ≡ length records
      → ((p : ℕ) → p < length records → times p (take i claims) ≡ mark_of (get_or seen p false))
      → x.answer.place < length records → get_or seen x.answer.place false ≡ false → new ≡ slice_set seen x.answer.place true
      → (p : ℕ) → p < length records → times p (take (i + 1) claims) ≡ mark_of (get_or new p false)
  mark_more records claims seen new i x low is len once within free set p p_low = by (eqb_tells x.answer.place p)
    where
      is_at : Claim A → Bool
      is_at c = c.answer.place == p

      by : ((eqb x.answer.place p ≡ true) × (x.answer.place ≡ p)) ⊎ ((eqb x.answer.place p ≡ false) × (x.answer.place ≢ p)) → times p (take (i + 1) claims) ≡ mark_of (get_or new p false)
      by (inl (e, same)) =
          let one : times p (take (i + 1) claims) ≡ times p (take i claims) + 1 = count_by_more_yes is_at claims i x low (ap is_at (sym is) ∙ e) in
          let none : times p (take i claims) ≡ 0 = once p p_low ∙ ap mark_of (subst (λ (q : ℕ). get_or seen q false ≡ false) same free) in
          let marked : get_or new p false ≡ true = ap (λ (s : List Bool). get_or s p false) set ∙ get_or-set_at seen x.answer.place p true false (sym same) (omega (arith, within, len)) in
          one ∙ (ap (λ (n : ℕ). n + 1) none ∙ sym (ap mark_of marked))
      by (inr (e, other)) =
          count_by_more_no is_at claims i x low (ap is_at (sym is) ∙ e)
          ∙ (once p p_low ∙ ap mark_of (sym (ap (λ (s : List Bool). get_or s p false) set ∙ get_or-set_other seen x.answer.place p true false (λ (q : p ≡ x.answer.place). other (sym q)))))
