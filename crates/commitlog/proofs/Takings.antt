-- The bytes of the items of a list, one item after another.
use Rattle.std.proofs.Common.{◌≡◌, ◌≤◌, ◌<◌, ◌+◌, ℕ, suc, arith, List, [], ◌∷◌, ◌++◌, length, take, get_or, take-suc, take_all, sym, ap, ◌∙◌}
use Rattle.std.proofs.lemmas.Grind.{flat_map-append}
use Rattle.std.proofs.lemmas.List.{append-nil}
use Rattle.std.specs.List.{flat_map}
use Rattle.procedure.specs.Bytes.{Bytes}

pub next_taken : {X : Type 0} (f : X → Bytes) (xs : List X) (i : ℕ) (x : X) → i < length xs → x ≡ get_or xs i x → flat_map f (take (i + 1) xs) ≡ flat_map f (take i xs) ++ f x
next_taken {X} f xs i x lt e =
    let next : i + 1 ≡ suc i = omega arith in
    ap (λ (n : ℕ). flat_map f (take n xs)) next
    ∙ ap (flat_map f) (take-suc xs i x lt ∙ ap (λ (y : X). take i xs ++ y ∷ []) (sym e))
    ∙ flat_map-append f (take i xs) (x ∷ [])
    ∙ ap (λ (y : Bytes). flat_map f (take i xs) ++ y) (append-nil (f x))

pub all_taken : {X : Type 0} (f : X → Bytes) (xs : List X) (i : ℕ) → length xs ≤ i → flat_map f (take i xs) ≡ flat_map f xs
all_taken f xs i low = ap (flat_map f) (take_all i xs low)
