-- A list whose items are changed one after another.
use Rattle.std.proofs.Common.{◌≡◌, ℕ, suc, ◌+◌, ◌<◌, ◌≤◌, List, [], ◌∷◌, ◌++◌, length, map, take, drop, get_or, slice_set, add-one, drop-cons, sym, ap, ◌∙◌, arith}
use Rattle.std.proofs.Math.Seq.{take-suc, take-suc-set}
use Rattle.std.proofs.lemmas.List.{drop-set-lt, map-append, take_all}
use Rattle.std.proofs.lemmas.Grind.{common_steps}

same_tail : {X : Type 0} (x y : X) (xs ys : List X) → x ∷ xs ≡ y ∷ ys → xs ≡ ys
same_tail x y xs ys e = cc

module _ {X : Type 0} (f : X → X) (d : X) (xs ys : List X) (i : ℕ) (within : i < length xs) (long : length ys ≡ length xs) (done : take i ys ≡ map f (take i xs)) (rest : drop i ys ≡ drop i xs) where
  -- what stands there now is what stood there
  pub same_here : get_or ys i d ≡ get_or xs i d
  same_here = grind (arith, common_steps)

  pub more_done : (zs : List X) → zs ≡ slice_set ys i (f (get_or xs i d)) → take (i + 1) zs ≡ map f (take (i + 1) xs)
  more_done zs e =
      ap (λ n. take n zs) (add-one i)
      ∙ ap (take (suc i)) e
      ∙ take-suc-set ys i (f (get_or xs i d)) (omega arith)
      ∙ ap (λ p. p ++ f (get_or xs i d) ∷ []) done
      ∙ sym (map-append f (take i xs) (get_or xs i d ∷ []))
      ∙ ap (map f) (sym (take-suc xs i d within))
      ∙ sym (ap (λ n. map f (take n xs)) (add-one i))

  pub less_rest : (x : X) (zs : List X) → zs ≡ slice_set ys i x → drop (i + 1) zs ≡ drop (i + 1) xs
  less_rest x zs e =
      ap (λ n. drop n zs) (add-one i)
      ∙ ap (drop (suc i)) e
      ∙ drop-set-lt (suc i) ys i x (omega arith)
      ∙ same_tail _ _ _ _ (sym (drop-cons ys i d (omega arith)) ∙ rest ∙ drop-cons xs i d within)
      ∙ sym (ap (λ n. drop n xs) (add-one i))

pub all_done : {X : Type 0} (f : X → X) (xs ys : List X) (n : ℕ) → length xs ≤ n → length ys ≡ length xs → take n ys ≡ map f (take n xs) → ys ≡ map f xs
all_done f xs ys n most long done =
    sym (take_all n ys (omega arith)) ∙ done ∙ ap (map f) (take_all n xs most)
