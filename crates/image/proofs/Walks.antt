-- A walk over a list, of which each element is looked at.
use Rattle.std.proofs.Common.{◌≡◌, ◌<◌, ◌≤◌, ℕ, ◌+◌, List, [], ◌∷◌, ◌++◌, length, get_or, drop, sym, ap, subst, ◌∙◌, append_assoc}
use Rattle.std.specs.List.{AllByRecursion}
use Rattle.std.proofs.lemmas.List.{append-nil, drop_all}
use Rattle.procedure.proofs.WriteProgress.{next_item}

pub one_more : {X : Type 0} (es : List X) (i : ℕ) (x y : X) (made new : List X) → i < length es → x ≡ get_or es i x → y ≡ x → new ≡ made ++ y ∷ [] → made ++ drop i es ≡ es →
    new ++ drop (i + 1) es ≡ es
one_more {X = X} es i x y made new lt is same pushed whole =
    ap (λ (l : List X). l ++ drop (i + 1) es) (pushed ∙ ap (λ z. made ++ z ∷ []) same)
    ∙ append_assoc made (x ∷ []) (drop (i + 1) es)
    ∙ ap (λ (l : List X). made ++ l) (sym (next_item es i x lt is))
    ∙ whole

pub all_from : {X : Type 0} (P : X → Type 0) (es : List X) (i : ℕ) (x : X) → i < length es → x ≡ get_or es i x → AllByRecursion P (drop i es) → P x × AllByRecursion P (drop (i + 1) es)
all_from P es i x lt is h = subst (AllByRecursion P) (next_item es i x lt is) h

pub all_with : {X : Type 0} (P : X → Type 0) (es : List X) (i : ℕ) (x : X) → i < length es → x ≡ get_or es i x → P x → AllByRecursion P (drop (i + 1) es) → AllByRecursion P (drop i es)
all_with P es i x lt is here there = subst (AllByRecursion P) (sym (next_item es i x lt is)) (here, there)

-- nothing is left where the place is past the end
pub all_made : {X : Type 0} (es made : List X) (i : ℕ) → length es ≤ i → made ++ drop i es ≡ es → made ≡ es
all_made {X = X} es made i past whole = sym (append-nil made) ∙ ap (λ (l : List X). made ++ l) (sym (drop_all i es past)) ∙ whole

pub all_past : {X : Type 0} (P : X → Type 0) (es : List X) (i : ℕ) → length es ≤ i → AllByRecursion P (drop i es)
all_past P es i past = subst (AllByRecursion P) (sym (drop_all i es past)) tt
