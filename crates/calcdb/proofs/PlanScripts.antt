-- Scripts by their sessions.
use Rattle.std.proofs.Common.{◌≡◌, ℕ, zero, suc, ◌+◌, ◌<◌, arith, Bool, true, false, not, eqb, eq-eqb, map, filter, length, get_or, slice_set, List, [], ◌∷◌, ◌++◌, refl, sym, ap, ap₂, subst, ◌∙◌, append_assoc}
use Rattle.std.specs.Prelude.{vec_len}
use Rattle.std.proofs.lemmas.Bool.{eqb-false, ne_eqb}
use Rattle.std.proofs.lemmas.Grind.{flat_map-append}
use Rattle.std.proofs.lemmas.List.{append-nil, map-append, nil_from_length}
use Rattle.std.proofs.lemmas.List.Elements.{filter-append}
use borrow.Author.Tests.{eqb-true}
use Rattle.procedure.specs.Bytes.{Bytes}
use Rattle.procedure.specs.declared.instructions.Call as procedure
use Rattle.workers.specs.declared.runs.Script.{Script}
use Rattle.calcdb.specs.Plans.{AreNumbered, ThreadCommands, as_command, call_commands, call_asked, calls_in, calls_of, has_calls, is_of, script_calls}
use Rattle.calcdb.specs.declared.thread_commands.ThreadCommand.{ThreadCommand}

module _ {A : Type 0} where
  -- a script without calls adds none
  none_in : (s : ℕ) (x : Script A) → x.calls.items ≡ [] → script_calls s x ≡ []
  none_in s x none = go (eqb x.session s) refl
    where
      go : (b : Bool) → eqb x.session s ≡ b → script_calls s x ≡ []
      go true e = rw (e, none) refl
      go false e = rw e refl

  pub none_more : (s : ℕ) (xs : List (Script A)) (x : Script A) → x.calls.items ≡ [] → calls_in s (xs ++ x ∷ []) ≡ calls_in s xs
  none_more s xs x none = flat_map-append (script_calls s) xs (x ∷ []) ∙ ap (λ l. calls_in s xs ++ (l ++ [])) (none_in s x none) ∙ append-nil (calls_in s xs)

  -- one script more is of the next session
  pub numbered_more : (n : ℕ) (xs : List (Script A)) (x : Script A) → AreNumbered n xs → x.session ≡ n + length xs → AreNumbered n (xs ++ x ∷ [])
  numbered_more n [] x h is = (omega (arith, is), tt)
  numbered_more n (y ∷ ys) x (at, h) is = (at, numbered_more (n + 1) ys x h (omega (arith, is)))

  -- the same of a list that is so
  pub none_more_at : (s : ℕ) (xs ys : List (Script A)) (x : Script A) → ys ≡ xs ++ x ∷ [] → x.calls.items ≡ [] → calls_in s ys ≡ calls_in s xs
  none_more_at s xs ys x is none = ap (calls_in s) is ∙ none_more s xs x none

  pub numbered_at : (n : ℕ) (xs ys : List (Script A)) (x : Script A) → ys ≡ xs ++ x ∷ [] → AreNumbered n xs → x.session ≡ n + length xs → AreNumbered n ys
  numbered_at n xs ys x is h at = subst (AreNumbered n) (sym is) (numbered_more n xs x h at)

  -- no script from n on is of a session below n
  above : (s n : ℕ) (xs : List (Script A)) → s < n → AreNumbered n xs → calls_in s xs ≡ []
  above s n [] lt h = refl
  above s n (x ∷ xs) lt (at, h) = rw (ne_eqb x.session s (λ e. absurd (omega (arith, e, at, lt))), above s (n + 1) xs (omega (arith, lt)) h) refl

  pub numbered_set : (n i : ℕ) (xs : List (Script A)) (y d : Script A) → AreNumbered n xs → y.session ≡ (get_or xs i d).session → AreNumbered n (slice_set xs i y)
  numbered_set n i [] y d h same = tt
  numbered_set n zero (x ∷ xs) y d (at, h) same = (same ∙ at, h)
  numbered_set n (suc i) (x ∷ xs) y d (at, h) same = (at, numbered_set (n + 1) i xs y d h same)

  of_session : (s : ℕ) (x : Script A) → x.session ≡ s → script_calls s x ≡ map as_command x.calls.items
  of_session s x is = rw (eq-eqb x.session s is) refl

  of_other : (s : ℕ) (x : Script A) → (x.session ≡ s → ⊥) → script_calls s x ≡ []
  of_other s x other = rw (ne_eqb x.session s other) refl

  call_of : (s : ℕ) (c : procedure.Call A) → c.session ≡ s → filter (is_of s) (as_command c ∷ []) ≡ as_command c ∷ []
  call_of s c is = rw (eq-eqb c.session s is) refl

  call_other : (s : ℕ) (c : procedure.Call A) → (c.session ≡ s → ⊥) → filter (is_of s) (as_command c ∷ []) ≡ []
  call_other s c other = rw (ne_eqb c.session s other) refl

  -- a call is added to the script of its session
  pub call_added : (s n i : ℕ) (xs : List (Script A)) (y d : Script A) (c : procedure.Call A) → AreNumbered n xs → i < length xs → y.session ≡ (get_or xs i d).session →
      y.calls.items ≡ (get_or xs i d).calls.items ++ c ∷ [] → c.session ≡ n + i → calls_in s (slice_set xs i y) ≡ calls_in s xs ++ filter (is_of s) (as_command c ∷ [])
  call_added s n i [] y d c h lt same more of = absurd (omega (arith, lt))
  call_added s n zero (x ∷ xs) y d c (at, h) lt same more of = go (eqb n s) refl
    where
      session : c.session ≡ n
      session = omega (arith, of)

      go : (b : Bool) → eqb n s ≡ b → calls_in s (y ∷ xs) ≡ calls_in s (x ∷ xs) ++ filter (is_of s) (as_command c ∷ [])
      go true e =
          let is : n ≡ s = eqb-true n s e in
          let none = above s (n + 1) xs (omega (arith, is)) h in
          let left = ap₂ (λ a b. a ++ b) (of_session s y (same ∙ at ∙ is) ∙ ap (map as_command) more ∙ map-append as_command x.calls.items (c ∷ [])) none in
          let right = ap₂ (λ a b. a ++ b) (ap₂ (λ a b. a ++ b) (of_session s x (at ∙ is)) none ∙ append-nil (map as_command x.calls.items)) (call_of s c (session ∙ is)) in
          left ∙ append-nil (map as_command x.calls.items ++ as_command c ∷ []) ∙ sym right
      go false e =
          let other = eqb-false n s e in
          let left = ap (λ a. a ++ calls_in s xs) (of_other s y (λ k. other (sym (same ∙ at) ∙ k))) in
          let right = ap₂ (λ a b. a ++ b) (ap (λ a. a ++ calls_in s xs) (of_other s x (λ k. other (sym at ∙ k)))) (call_other s c (λ k. other (sym session ∙ k))) in
          left ∙ sym (append-nil (calls_in s xs)) ∙ sym right
  call_added s n (suc i) (x ∷ xs) y d c (at, h) lt same more of =
      ap (λ l. script_calls s x ++ l) (call_added s (n + 1) i xs y d c h (omega (arith, lt)) same more (omega (arith, of))) ∙ sym (append_assoc (script_calls s x) (calls_in s xs) (filter (is_of s) (as_command c ∷ [])))

  no_calls : (x : Script A) → has_calls x ≡ false → x.calls.items ≡ []
  no_calls x h = go (eqb (vec_len x.calls) 0) refl
    where
      go : (b : Bool) → eqb (vec_len x.calls) 0 ≡ b → x.calls.items ≡ []
      go true e = nil_from_length x.calls.items (sym x.calls.ok.0 ∙ eqb-true (vec_len x.calls) 0 e)
      go false e = let bad : true ≡ false = sym (ap not e) ∙ h in absurd (cc)

  -- scripts without calls are left out
  pub used_calls : (s : ℕ) (xs : List (Script A)) → calls_in s (filter has_calls xs) ≡ calls_in s xs
  used_calls s [] = refl
  used_calls s (x ∷ xs) = go (used_calls s xs) (has_calls x) refl
    where
      go : calls_in s (filter has_calls xs) ≡ calls_in s xs → (b : Bool) → has_calls x ≡ b → calls_in s (filter has_calls (x ∷ xs)) ≡ calls_in s (x ∷ xs)
      go others true e = rw e (ap (λ l. script_calls s x ++ l) others)
      go others false e = rw (e, none_in s x (no_calls x e)) others

  -- what one command more adds
  pub calls_more : (s : ℕ) (front : ThreadCommands) (d : ThreadCommand (List Bytes)) (old new : List (Script A)) → calls_in s old ≡ calls_of s front →
      calls_in s new ≡ calls_in s old ++ filter (is_of s) (call_asked d) → calls_in s new ≡ calls_of s (front ++ d ∷ [])
  calls_more s front d old new is more =
      more ∙ ap (λ l. l ++ filter (is_of s) (call_asked d)) is ∙ sym (filter-append (is_of s) (call_commands front) (call_asked d))
      ∙ ap (filter (is_of s)) (ap (λ l. call_commands front ++ l) (sym (append-nil (call_asked d))) ∙ sym (flat_map-append call_asked front (d ∷ [])))
