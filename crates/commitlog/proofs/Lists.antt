-- Lists: from their end, and cut at places.
use Rattle.std.proofs.Common.{◌≡◌, ℕ, zero, suc, ◌+◌, ◌-◌, ◌≤◌, ◌<◌, List, [], ◌∷◌, ◌++◌, length, take, drop, reverse, Some, refl, sym, ap, ◌∙◌, subst, arith}
use Rattle.std.specs.Prelude.{slice_get, slice_range}
use Rattle.std.proofs.lemmas.Grind.{reverse_onto}
use Rattle.std.proofs.Math.Seq.{take-add}
use Rattle.std.proofs.lemmas.List.{reverse-reverse, take-append-le, drop-append-le, drop-drop, length-drop}

reverse_push : {X : Type 0} (x : X) (xs : List X) → reverse (x ∷ xs) ≡ reverse xs ++ (x ∷ [])
reverse_push x xs = reverse_onto xs x []

-- induction from the end of a list
module _ {X : Type 0} (P : List X → Type 0) (none : P []) (more : (xs : List X) (x : X) → P xs → P (xs ++ x ∷ [])) where
  by_reverse : (xs : List X) → P (reverse xs)
  by_reverse [] = none
  by_reverse (x ∷ xs) = subst P (sym (reverse_push x xs)) (more (reverse xs) x (by_reverse xs))

  pub by_end : (xs : List X) → P xs
  by_end xs = subst P (reverse-reverse xs) (by_reverse (reverse xs))

pub slice_get-left : {X : Type 0} (xs ys : List X) (i : ℕ) → i < length xs → slice_get (xs ++ ys) i ≡ slice_get xs i
slice_get-left [] ys i l = absurd (omega arith)
slice_get-left (x ∷ xs) ys zero l = refl
slice_get-left (x ∷ xs) ys (suc i) l = slice_get-left xs ys i (omega arith)

pub slice_get-seam : {X : Type 0} (xs : List X) (y : X) (ys : List X) → slice_get (xs ++ y ∷ ys) (length xs) ≡ Some y
slice_get-seam [] y ys = refl
slice_get-seam (x ∷ xs) y ys = slice_get-seam xs y ys

pub slice_get-take : {X : Type 0} (xs : List X) (i j : ℕ) → i < j → slice_get (take j xs) i ≡ slice_get xs i
slice_get-take [] i zero l = absurd (omega arith)
slice_get-take [] i (suc j) l = refl
slice_get-take (x ∷ xs) i zero l = absurd (omega arith)
slice_get-take (x ∷ xs) zero (suc j) l = refl
slice_get-take (x ∷ xs) (suc i) (suc j) l = slice_get-take xs i j (omega arith)

-- what stands before a place, and from there to a later one
pub take_and_range : {X : Type 0} (xs : List X) (i j : ℕ) → i ≤ j → take i xs ++ slice_range xs i j ≡ take j xs
take_and_range xs i j l = sym (take-add i (j - i) xs) ∙ ap (λ n. take n xs) (omega arith)

pub ranges_join : {X : Type 0} (xs : List X) (i j k : ℕ) → i ≤ j → j ≤ k → slice_range xs i k ≡ slice_range xs i j ++ slice_range xs j k
ranges_join xs i j k l m =
    ap (λ n. take n (drop i xs)) (parts) ∙ take-add (j - i) (k - j) (drop i xs)
    ∙ ap (λ ys. slice_range xs i j ++ take (k - j) ys) (drop-drop (j - i) i xs ∙ ap (λ n. drop n xs) (within))
  where
    parts : k - i ≡ (j - i) + (k - j)
    parts = omega arith

    within : i + (j - i) ≡ j
    within = omega arith

-- a part of the front of a longer list
pub range-front : {X : Type 0} (xs ys : List X) (i j : ℕ) → i ≤ j → j ≤ length xs → slice_range (xs ++ ys) i j ≡ slice_range xs i j
range-front xs ys i j l m =
    ap (λ zs. take (j - i) zs) (drop-append-le i xs ys (omega arith))
    ∙ take-append-le (j - i) (drop i xs) ys (let d = length-drop i xs in omega arith)
