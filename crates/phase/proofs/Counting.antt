-- Counts of the start phases.
use Rattle.std.proofs.Common.{◌≡◌, ℕ, zero, suc, ◌+◌, ◌≤◌, ◌↔◌, [], ◌∷◌, length, Option, Some, None, slice_get, refl, sym, ap, ◌∙◌, arith, lit≤}
use Rattle.std.proofs.lemmas.List.Sums.{sum_by-cons}
use Rattle.phase.specs.Phases.{Phase, Rest, Prepare, Resolve, Capture, Complete, Starts, AllStartedIn, MayLeave}
use Rattle.phase.specs.Counts.{one_if, counts_one, count_in, IsCounted, Takes, HasNoOthers, IsAtMost}
use Rattle.phase.specs.declared.counts.Counts.{Counts}
use Rattle.phase.specs.declared.open_calls.TheConstants.{SESSIONS}

one_itself : (p : Phase) → one_if p p ≡ 1
one_itself Rest = refl
one_itself Prepare = refl
one_itself Resolve = refl
one_itself Capture = refl
one_itself Complete = refl

count_more : (p : Phase) (x : Option Phase) (xs : Starts) → count_in p (x ∷ xs) ≡ counts_one p x + count_in p xs
count_more p x xs = sum_by-cons (counts_one p) x xs

-- where none is counted, none started there
none_in : (q : Phase) (xs : Starts) → count_in q xs ≡ 0 → (s : ℕ) → slice_get xs s ≡ Some (Some q) → ⊥
none_in q [] e s h = cc
none_in q (x ∷ xs) e zero h =
    let same : x ≡ Some q = cc in
    let one : counts_one q x ≡ 1 = ap (counts_one q) same ∙ one_itself q in
    let more = count_more q x xs in
    absurd (omega arith)
none_in q (x ∷ xs) e (suc s) h = let more = count_more q x xs in none_in q xs (omega arith) s h

-- where all started in one phase, none is counted in another
none_other : (p q : Phase) → one_if q p ≡ 0 → (xs : Starts) → AllStartedIn p xs → count_in q xs ≡ 0
none_other p q d [] h = refl
none_other p q d (None ∷ xs) h =
    let rest = none_other p q d xs (λ s r e. h (suc s) r e) in
    let more = count_more q None xs in
    omega arith
none_other p q d (Some r ∷ xs) h =
    let rest = none_other p q d xs (λ s t e. h (suc s) t e) in
    let here : one_if q r ≡ 0 = ap (one_if q) (h 0 r refl) ∙ d in
    let more = count_more q (Some r) xs in
    omega arith

no_call : {P : Type 0} (q : Phase) (xs : Starts) (n : ℕ) → n ≡ count_in q xs → n ≡ 0 → (s : ℕ) → slice_get xs s ≡ Some (Some q) → P
no_call q xs n c z s e = absurd (none_in q xs (sym c ∙ z) s e)

module _ (xs : Starts) (c : Counts) (k : IsCounted xs c) where
  all_prepare : HasNoOthers c Prepare → AllStartedIn Prepare xs
  all_prepare h s Rest e = no_call Rest xs c.rest k.rest h.0 s e
  all_prepare h s Prepare e = refl
  all_prepare h s Resolve e = no_call Resolve xs c.resolve k.resolve h.1 s e
  all_prepare h s Capture e = no_call Capture xs c.capture k.capture h.2 s e
  all_prepare h s Complete e = no_call Complete xs c.complete k.complete h.3 s e

  all_resolve : HasNoOthers c Resolve → AllStartedIn Resolve xs
  all_resolve h s Rest e = no_call Rest xs c.rest k.rest h.0 s e
  all_resolve h s Prepare e = no_call Prepare xs c.prepare k.prepare h.1 s e
  all_resolve h s Resolve e = refl
  all_resolve h s Capture e = no_call Capture xs c.capture k.capture h.2 s e
  all_resolve h s Complete e = no_call Complete xs c.complete k.complete h.3 s e

  all_complete : HasNoOthers c Complete → AllStartedIn Complete xs
  all_complete h s Rest e = no_call Rest xs c.rest k.rest h.0 s e
  all_complete h s Prepare e = no_call Prepare xs c.prepare k.prepare h.1 s e
  all_complete h s Resolve e = no_call Resolve xs c.resolve k.resolve h.2 s e
  all_complete h s Capture e = no_call Capture xs c.capture k.capture h.3 s e
  all_complete h s Complete e = refl

  none : (p q : Phase) (n : ℕ) → n ≡ count_in q xs → one_if q p ≡ 0 → AllStartedIn p xs → n ≡ 0
  none p q n e d h = e ∙ none_other p q d xs h

  pub may_leave : (p : Phase) → HasNoOthers c p ↔ MayLeave p xs
  may_leave Rest = (λ h. h, λ h. h)
  may_leave Prepare =
      (all_prepare, λ h. (none Prepare Rest _ k.rest refl h, none Prepare Resolve _ k.resolve refl h, none Prepare Capture _ k.capture refl h, none Prepare Complete _ k.complete refl h))
  may_leave Resolve =
      (all_resolve, λ h. (none Resolve Rest _ k.rest refl h, none Resolve Prepare _ k.prepare refl h, none Resolve Capture _ k.capture refl h, none Resolve Complete _ k.complete refl h))
  may_leave Capture = (λ h. h, λ h. h)
  may_leave Complete =
      (all_complete, λ h. (none Complete Rest _ k.rest refl h, none Complete Prepare _ k.prepare refl h, none Complete Resolve _ k.resolve refl h, none Complete Capture _ k.capture refl h))

-- no count is over the number of sessions
one_at_most : (p : Phase) (x : Option Phase) → counts_one p x ≤ 1
one_at_most p None = lit≤ tt
one_at_most p (Some q) = at p q
  where
    at : (p q : Phase) → one_if p q ≤ 1
    at Rest Rest = lit≤ tt
    at Prepare Prepare = lit≤ tt
    at Resolve Resolve = lit≤ tt
    at Capture Capture = lit≤ tt
    at Complete Complete = lit≤ tt
    at p q = lit≤ tt

count_at_most : (p : Phase) (xs : Starts) → count_in p xs ≤ length xs
count_at_most p [] = lit≤ tt
count_at_most p (x ∷ xs) = let a = one_at_most p x in let b = count_at_most p xs in let more = count_more p x xs in omega arith

pub counts_at_most : (xs : Starts) (c : Counts) → IsCounted xs c → IsAtMost c SESSIONS
counts_at_most xs c k =
    record {
      rest = let a = count_at_most Rest xs in let b = k.rest in let c = k.sessions in omega arith;
      prepare = let a = count_at_most Prepare xs in let b = k.prepare in let c = k.sessions in omega arith;
      resolve = let a = count_at_most Resolve xs in let b = k.resolve in let c = k.sessions in omega arith;
      capture = let a = count_at_most Capture xs in let b = k.capture in let c = k.sessions in omega arith;
      complete = let a = count_at_most Complete xs in let b = k.complete in let c = k.sessions in omega arith;
    }

pub fewer_at_most : (more less : Counts) (start : Option Phase) (n : ℕ) → Takes more start less → IsAtMost more n → IsAtMost less n
fewer_at_most more less start n t h =
    let a = t.rest in let b = t.prepare in let c = t.resolve in let d = t.capture in let e = t.complete in
    let v = h.rest in let w = h.prepare in let x = h.resolve in let y = h.capture in let z = h.complete in
    record { rest = omega arith; prepare = omega arith; resolve = omega arith; capture = omega arith; complete = omega arith }
