-- Beginnings of one list.
use Rattle.std.proofs.Common.{◌≡◌, ◌≤◌, List, [], ◌∷◌, length, refl, arith}
use mathlib.Core.List.{IsPrefix}

-- of two beginnings the one that is no longer begins the other
pub begins_longer : {X : Type 0} (xs ys all : List X) → IsPrefix xs all → IsPrefix ys all → length xs ≤ length ys → IsPrefix xs ys
begins_longer [] ys all p q le = (ys, refl)
begins_longer (x ∷ xs) [] all p q le = absurd (omega arith)
begins_longer (x ∷ xs) (y ∷ ys) [] p q le = absurd (cc (p.1))
begins_longer (x ∷ xs) (y ∷ ys) (z ∷ all) p q le =
    let rest = begins_longer xs ys all (p.0, cc (p.1)) (q.0, cc (q.1)) (omega arith) in
    (rest.0, cc (p.1, q.1, rest.1))

-- a beginning that is as long as the other is the other
pub whole : {X : Type 0} (xs ys : List X) → IsPrefix xs ys → length ys ≤ length xs → xs ≡ ys
whole [] [] p le = refl
whole [] (y ∷ ys) p le = absurd (omega arith)
whole (x ∷ xs) [] p le = absurd (cc (p.1))
whole (x ∷ xs) (y ∷ ys) p le = let rest = whole xs ys (p.0, cc (p.1)) (omega arith) in cc (p.1, rest)
