-- A loop over a list: what of it is left, and what was made of the rest.
use Rattle.std.proofs.Common.{◌≡◌, ℕ, ◌+◌, ◌<◌, ◌≤◌, List, ◌∷◌, ◌++◌, length, drop, get_or, Some, None, Ok, Err, sym, ap, ◌∙◌, append_assoc}
use Rattle.std.specs.List.{flat_map}
use Rattle.std.specs.Result.{IsErrAnd, result_err}
use Rattle.std.specs.declared.result.Result.{Result}
use Rattle.std.proofs.lemmas.List.{at_drop_more, at_drop_all, append-nil}
use Rattle.procedure.specs.Bytes.{Bytes}
use Rattle.procedure.specs.Catalogs.{Fault, then_fault, first_fault}
use Rattle.procedure.specs.declared.catalogs.CatalogError.{CatalogError}

module _ {X : Type 0} (xs : List X) (i : ℕ) (x : X) (below : i < length xs) (here : x ≡ get_or xs i x) where
  -- what is left begins with this element
  left : {Y : Type 0} (F : List X → Y) → F (x ∷ drop (i + 1) xs) ≡ F (drop i xs)
  left F = ap (λ y. F (y ∷ drop (i + 1) xs)) here ∙ sym (at_drop_more F xs i x below)

  pub written_more : (f : X → Bytes) (before after all : Bytes) → before ++ flat_map f (drop i xs) ≡ all → after ≡ before ++ f x → after ++ flat_map f (drop (i + 1) xs) ≡ all
  written_more f before after all so_far wrote =
      let rest = flat_map f (drop (i + 1) xs) in
      ap (λ o. o ++ rest) wrote ∙ append_assoc before (f x) rest ∙ ap (λ o. before ++ o) (left (flat_map f)) ∙ so_far

  pub fault_here : (f : X → Fault) → then_fault (f x) (first_fault f (drop (i + 1) xs)) ≡ first_fault f (drop i xs)
  fault_here f = left (first_fault f)

  pub fault_later : (f : X → Fault) → None ≡ f x → first_fault f (drop (i + 1) xs) ≡ first_fault f (drop i xs)
  fault_later f none = ap (λ e. then_fault e (first_fault f (drop (i + 1) xs))) none ∙ fault_here f

  pub fault_now : (f : X → Fault) (e : CatalogError) → Some e ≡ f x → Some e ≡ first_fault f (drop i xs)
  fault_now f e is = ap (λ o. then_fault o (first_fault f (drop (i + 1) xs))) is ∙ fault_here f

-- what is written in turn stands in turn
pub written_then : (out mid after first second : Bytes) → mid ≡ out ++ first → after ≡ mid ++ second → after ≡ out ++ (first ++ second)
written_then out mid after first second one two = two ∙ ap (λ o. o ++ second) one ∙ append_assoc out first second

pub written_all : {X : Type 0} (f : X → Bytes) (xs : List X) (i : ℕ) (out all : Bytes) → length xs ≤ i → out ++ flat_map f (drop i xs) ≡ all → out ≡ all
written_all f xs i out all past so_far = sym (append-nil out) ∙ ap (λ o. out ++ o) (sym (at_drop_all (flat_map f) xs i past)) ∙ so_far

pub no_fault_left : {X : Type 0} (f : X → Fault) (xs : List X) (i : ℕ) → length xs ≤ i → None ≡ first_fault f (drop i xs)
no_fault_left f xs i past = sym (at_drop_all (first_fault f) xs i past)

pub err_is : {T : Type 0} (r : Result T CatalogError) (e : CatalogError) → IsErrAnd r (λ y. y ≡ e) → result_err r ≡ Some e
err_is (Ok x) e h = absurd h
err_is (Err y) e h = ap (λ z. Some z) h
