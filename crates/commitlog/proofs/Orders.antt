-- The numbers of a session's calls.
use Rattle.std.proofs.Common.{◌≡◌, ℕ, ◌≤◌, ◌<◌, Bool, true, false, cond, List, [], ◌∷◌, ◌++◌, length, take, Option, Some, None, refl, sym, ap, ◌∙◌, subst, ◌⊎◌, inl, inr, arith}
use Rattle.std.specs.Prelude.{slice_get, ◌==◌}
use Rattle.std.proofs.lemmas.Bool.{eqb-true, eq-eqb}
use Rattle.std.proofs.lemmas.Option.{slice_get_within}
use Rattle.std.proofs.lemmas.List.{length-append}
use Rattle.procedure.specs.Bytes.{Bytes, Cell}
use Rattle.commitlog.specs.Records.{Record, Token, Call}
use Rattle.commitlog.specs.Histories.{last_number, answered_after, IsAbove, RisesAfter, IsOrderly}
use Rattle.commitlog.proofs.Lists.{by_end, slice_get-left, slice_get-seam, slice_get-take}
use Rattle.commitlog.proofs.Histories.{each-front, each-take, each-last, last_number-push, same_some}

-- the session's last number is there, and is no less
abbrev IsAtMost : ℕ → Option ℕ → Type 0
IsAtMost m None = ⊥
IsAtMost m (Some x) = m ≤ x

abbrev IsOf : ℕ → ℕ → Record → Type 0
IsOf s m (Token p n) = ⊥
IsOf s m (Call u n p args o r) = (u ≡ s) × (n ≡ m)

rises : (o : Option ℕ) (m n : ℕ) → IsAtMost m o → IsAbove o n → m < n
rises None m n x a = absurd x
rises (Some k) m n x a = omega arith

-- with one record more the last number is no less
after_more : (s m : ℕ) (l : List Record) (r : Record) → RisesAfter l r → IsAtMost m (last_number s l) → IsAtMost m (answered_after s (last_number s l) r)
after_more s m l (Token p n) a x = x
after_more s m l (Call u n p args o r) a x = of_session (u == s) refl
  where
    of_session : (b : Bool) → (u == s) ≡ b → IsAtMost m (cond b (Some n) (last_number s l))
    of_session true e = let y : m < n = rises (last_number s l) m n x (subst (λ z. IsAbove (last_number z l) n) (eqb-true u s e) a) in omega arith
    of_session false e = x

own_number : (s m : ℕ) (o : Option ℕ) (r : Record) → IsOf s m r → IsAtMost m (answered_after s o r)
own_number s m o (Token p n) x = absurd x
own_number s m o (Call u n p args k r) x = subst (λ b. IsAtMost m (cond b (Some n) o)) (sym (eq-eqb u s x.0)) (let e = x.1 in omega arith)

AtMostLast : List Record → Type 0
AtMostLast l = IsOrderly l → (i s m : ℕ) (r : Record) → slice_get l i ≡ Some r → IsOf s m r → IsAtMost m (last_number s l)

at_most_more : (l : List Record) (r : Record) → AtMostLast l → AtMostLast (l ++ r ∷ [])
unfolding AtMostLast
at_most_more l r ih o i s m x e is = subst (IsAtMost m) (sym (last_number-push s l r)) (at_place (split i (length l) within))
  where
    within : i ≤ length l
    within = let b = slice_get_within (l ++ r ∷ []) i x e in let c = length-append l (r ∷ []) in omega arith

    split : (i n : ℕ) → i ≤ n → (i < n) ⊎ (i ≡ n)
    split i n le = grind arith

    at_place : (i < length l) ⊎ (i ≡ length l) → IsAtMost m (answered_after s (last_number s l) r)
    at_place (inl w) =
        after_more s m l r (each-last RisesAfter l r [] o)
        (ih (each-front RisesAfter l (r ∷ []) o) i s m x (sym (slice_get-left l (r ∷ []) i w) ∙ e) is)
    at_place (inr q) = own_number s m (last_number s l) r (subst (IsOf s m) (same_some (sym e ∙ ap (slice_get (l ++ r ∷ [])) q ∙ slice_get-seam l r [])) is)

none_at : (i : ℕ) (r : Record) → slice_get [] i ≡ Some r → ⊥
none_at i r e = no e
  where
    no : {x : Record} → None ≡ Some x → ⊥
    no e = cc

at_most_none : AtMostLast []
unfolding AtMostLast
at_most_none o i s m r e is = absurd (none_at i r e)

at_most_last : (l : List Record) → AtMostLast l
at_most_last l = by_end AtMostLast at_most_none at_most_more l

pub numbers_rise : (l : List Record) → IsOrderly l → (i j s m n p q : ℕ) (a b : List Bytes) (o u : ℕ) (r v : List Cell) → i < j → slice_get l i ≡ Some (Call s m p a o r) →
    slice_get l j ≡ Some (Call s n q b u v) → m < n
unfolding AtMostLast
numbers_rise l h i j s m n p q a b o u r v w e f =
    rises (last_number s (take j l)) m n
    (at_most_last (take j l) (each-take RisesAfter l j h) i s m (Call s m p a o r) (slice_get-take l i j w ∙ e) (refl, refl))
    (h j (Call s n q b u v) f)
