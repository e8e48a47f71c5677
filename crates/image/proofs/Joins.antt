-- Two lists in the order of their keys as one, at a key of both the entry of the second.
use Rattle.std.proofs.Common.{◌≡◌, ℕ, ◌≤◌, ◌-◌, length, take, drop, append-nil, append_assoc, Bool, true, false, cond, List, [], ◌∷◌, ◌++◌, Option, Some, None, T, refl, sym, ap, ◌∙◌, subst, ◌⊎◌, inl, inr}
use Rattle.std.specs.Option.{option_or}
use Rattle.std.specs.Ordering.{eq_by_cmp, is_eq, is_lt, ordering_reverse}
use Rattle.std.specs.declared.cmp.Ordering.{Ordering}
use Rattle.std.specs.declared.cmp.Ordering.TheVariants.{Less, Equal, Greater}
use Rattle.std.specs.Cmp.Lexicographic.{nat_list_cmp_total}
use Rattle.std.specs.FinMap.{find, is_sorted, slice_cmp-IsAntisymmetric, nat_cmp-IsAntisymmetric}
use Rattle.std.specs.FinMap.Entries.{below_all, by_order}
use Rattle.std.proofs.lemmas.List.{drop_all, length-drop, map-append}
use Rattle.std.proofs.Math.Seq.{take-length}
use Rattle.procedure.specs.Bytes.{Bytes, Cell}
use Rattle.image.specs.Images.{Entry, Rises}
use denote.Ref.{Bor}
use Rattle.image.specs.Joins.{Say, later_of, lent}
use Rattle.image.proofs.Rising.{by_bytes, both, parts, is_less, below_through}

abbrev pub woven : Entry → List Entry → (List Entry → List Entry) → List Entry → List Entry
woven x xs rest [] = x ∷ xs
woven x xs rest (y ∷ ys) = by_order (by_bytes x.0 y.0) (x ∷ rest (y ∷ ys)) (y ∷ rest ys) (y ∷ woven x xs rest ys)

abbrev pub union : List Entry → List Entry → List Entry
union [] ys = ys
union (x ∷ xs) ys = woven x xs (union xs) ys

pub union-nil : (xs : List Entry) → union xs [] ≡ xs
union-nil [] = refl
union-nil (x ∷ xs) = refl

same_of : (r : Ordering) (x y : Bytes) → by_bytes x y ≡ r → T (is_eq r) → x ≡ y
same_of Less x y e h = absurd h
same_of Equal x y e h = slice_cmp-IsAntisymmetric nat_cmp-IsAntisymmetric x y e
same_of Greater x y e h = absurd h

cases_of : (b : Bool) (x y : Bytes) → eq_by_cmp by_bytes x y ≡ b → (x ≡ y) ⊎ (eq_by_cmp by_bytes x y ≡ false)
cases_of true x y e = inl (same_of (by_bytes x y) x y refl (subst T (sym e) tt))
cases_of false x y e = inr e

-- two keys are one, or their test fails
pub keys : (x y : Bytes) → (x ≡ y) ⊎ (eq_by_cmp by_bytes x y ≡ false)
keys x y = cases_of (eq_by_cmp by_bytes x y) x y refl

apart : (r : Ordering) → T (is_lt r) → is_eq r ≡ false
apart Less h = refl
apart Equal h = absurd h
apart Greater h = absurd h

pub is_true : (b : Bool) → T b → b ≡ true
is_true true h = refl
is_true false h = absurd h

-- a key below all others isn't found among them
pub find_below : {X : Type 0} (q : Bytes) (es : List (Bytes × X)) → T (below_all by_bytes q es) → find by_bytes q es ≡ None
find_below q [] h = refl
find_below q (e ∷ es) h =
    let (here, there) = parts (is_lt (by_bytes q e.0)) (below_all by_bytes q es) h in
    ap (λ b. cond b (Some e.1) (find by_bytes q es)) (apart (by_bytes q e.0) here) ∙ find_below q es there

Below : Bytes → List Entry → Type 0
Below k es = T (below_all by_bytes k es)

below_woven : (k : Bytes) (x : Entry) (xs : List Entry) (rest : List Entry → List Entry) → T (is_lt (by_bytes k x.0)) → T (below_all by_bytes k xs) →
    ((ys : List Entry) → T (below_all by_bytes k ys) → T (below_all by_bytes k (rest ys))) → (ys : List Entry) → T (below_all by_bytes k ys) → T (below_all by_bytes k (woven x xs rest ys))
below_woven k x xs rest hx hxs f [] hy = both (is_lt (by_bytes k x.0)) (below_all by_bytes k xs) hx hxs
below_woven k x xs rest hx hxs f (y ∷ ys) hy =
    let (here, there) = parts (is_lt (by_bytes k y.0)) (below_all by_bytes k ys) hy in
    elim (by_bytes x.0 y.0) as (λ r. T (below_all by_bytes k (by_order r (x ∷ rest (y ∷ ys)) (y ∷ rest ys) (y ∷ woven x xs rest ys)))) [
      | Less ↦ both (is_lt (by_bytes k x.0)) (below_all by_bytes k (rest (y ∷ ys))) hx (f (y ∷ ys) hy)
      | Equal ↦ both (is_lt (by_bytes k y.0)) (below_all by_bytes k (rest ys)) here (f ys there)
      | Greater ↦ both (is_lt (by_bytes k y.0)) (below_all by_bytes k (woven x xs rest ys)) here (below_woven k x xs rest hx hxs f ys there)
    ]

below_union : (k : Bytes) (xs : List Entry) → T (below_all by_bytes k xs) → (ys : List Entry) → T (below_all by_bytes k ys) → T (below_all by_bytes k (union xs ys))
below_union k [] hx ys hy = hy
below_union k (x ∷ xs) hx ys hy =
    let (here, there) = parts (is_lt (by_bytes k x.0)) (below_all by_bytes k xs) hx in
    below_woven k x xs (union xs) here there (below_union k xs there) ys hy

pub flipped : (x y : Bytes) → by_bytes x y ≡ Greater → by_bytes y x ≡ Less
flipped x y e = nat_list_cmp_total.antisymm y x ∙ ap ordering_reverse e

sorted_woven : (x : Entry) (xs : List Entry) → T (below_all by_bytes x.0 xs) → T (is_sorted by_bytes xs) → ((ys : List Entry) → T (is_sorted by_bytes ys) → T (is_sorted by_bytes (union xs ys))) →
    (ys : List Entry) → T (is_sorted by_bytes ys) → T (is_sorted by_bytes (woven x xs (union xs) ys))
sorted_woven x xs first rises f [] hy = both (below_all by_bytes x.0 xs) (is_sorted by_bytes xs) first rises
sorted_woven x xs first rises f (y ∷ ys) hy =
    let (below, rest) = parts (below_all by_bytes y.0 ys) (is_sorted by_bytes ys) hy in
    elim (by_bytes x.0 y.0) as (λ r. by_bytes x.0 y.0 ≡ r → T (is_sorted by_bytes (by_order r (x ∷ union xs (y ∷ ys)) (y ∷ union xs ys) (y ∷ woven x xs (union xs) ys)))) [
      | Less ↦ λ e. both (below_all by_bytes x.0 (union xs (y ∷ ys))) (is_sorted by_bytes (union xs (y ∷ ys)))
          (below_union x.0 xs first (y ∷ ys) (both (is_lt (by_bytes x.0 y.0)) (below_all by_bytes x.0 ys) (is_less _ e) (below_through x.0 y.0 ys e below)))
          (f (y ∷ ys) hy)
      | Equal ↦ λ e. both (below_all by_bytes y.0 (union xs ys)) (is_sorted by_bytes (union xs ys))
          (below_union y.0 xs (subst (λ k. T (below_all by_bytes k xs)) (same_of Equal x.0 y.0 e tt) first) ys below)
          (f ys rest)
      | Greater ↦ λ e. both (below_all by_bytes y.0 (woven x xs (union xs) ys)) (is_sorted by_bytes (woven x xs (union xs) ys))
          (let past = below_through y.0 x.0 xs (flipped x.0 y.0 e) first in below_woven y.0 x xs (union xs) (is_less _ (flipped x.0 y.0 e)) past (below_union y.0 xs past) ys below)
          (sorted_woven x xs first rises f ys rest)
    ] refl

pub sorted_union : (xs : List Entry) → T (is_sorted by_bytes xs) → (ys : List Entry) → T (is_sorted by_bytes ys) → T (is_sorted by_bytes (union xs ys))
sorted_union [] hx ys hy = hy
sorted_union (x ∷ xs) hx ys hy =
    let (first, rises) = parts (below_all by_bytes x.0 xs) (is_sorted by_bytes xs) hx in
    sorted_woven x xs first rises (sorted_union xs rises) ys hy

pub or_none : (a : Option Cell) → option_or a None ≡ a
or_none None = refl
or_none (Some x) = refl

first_counts : (b : Bool) (v : Cell) (a o : Option Cell) → cond b (Some v) (option_or a o) ≡ option_or (cond b (Some v) a) o
first_counts true v a o = refl
first_counts false v a o = refl

-- where the test of x holds, a names nothing
second_counts : (b : Bool) (v : Cell) (a o : Option Cell) → (T b → a ≡ None) → cond b (Some v) (option_or a o) ≡ option_or a (cond b (Some v) o)
second_counts true v a o h = ap (λ s. option_or s (Some v)) (sym (h tt))
second_counts false v a o h = refl

shadowed : (b : Bool) (v w : Cell) (a o : Option Cell) → cond b (Some v) (option_or a o) ≡ option_or (cond b (Some v) a) (cond b (Some w) o)
shadowed true v w a o = refl
shadowed false v w a o = refl

pub same_key : (q k : Bytes) → T (eq_by_cmp by_bytes q k) → q ≡ k
same_key q k h = same_of (by_bytes q k) q k refl h

find_woven : (q : Bytes) (x : Entry) (xs : List Entry) → ((ys : List Entry) → T (is_sorted by_bytes ys) → find by_bytes q (union xs ys) ≡ option_or (find by_bytes q ys) (find by_bytes q xs)) →
    (ys : List Entry) → T (is_sorted by_bytes ys) → find by_bytes q (woven x xs (union xs) ys) ≡ option_or (find by_bytes q ys) (find by_bytes q (x ∷ xs))
find_woven q x xs f [] hy = refl
find_woven q x xs f (y ∷ ys) hy =
    let (below, rest) = parts (below_all by_bytes y.0 ys) (is_sorted by_bytes ys) hy in
    elim (by_bytes x.0 y.0) as (λ r. by_bytes x.0 y.0 ≡ r → find by_bytes q (by_order r (x ∷ union xs (y ∷ ys)) (y ∷ union xs ys) (y ∷ woven x xs (union xs) ys)) ≡ option_or (find by_bytes q (y ∷ ys))
    (find by_bytes q (x ∷ xs))) [
      | Less ↦ λ e. ap (cond (eq_by_cmp by_bytes q x.0) (Some x.1)) (f (y ∷ ys) hy)
          ∙ second_counts (eq_by_cmp by_bytes q x.0) x.1 (find by_bytes q (y ∷ ys)) (find by_bytes q xs)
          (λ h. subst (λ k. find by_bytes k (y ∷ ys) ≡ None) (sym (same_key q x.0 h)) (find_below x.0 (y ∷ ys)
          (both (is_lt (by_bytes x.0 y.0)) (below_all by_bytes x.0 ys) (is_less _ e) (below_through x.0 y.0 ys e below))))
      | Equal ↦ λ e. ap (cond (eq_by_cmp by_bytes q y.0) (Some y.1)) (f ys rest)
          ∙ shadowed (eq_by_cmp by_bytes q y.0) y.1 x.1 (find by_bytes q ys) (find by_bytes q xs)
          ∙ ap (λ k. option_or (find by_bytes q (y ∷ ys)) (cond (eq_by_cmp by_bytes q k) (Some x.1) (find by_bytes q xs))) (sym (same_of Equal x.0 y.0 e tt))
      | Greater ↦ λ e. ap (cond (eq_by_cmp by_bytes q y.0) (Some y.1)) (find_woven q x xs f ys rest)
          ∙ first_counts (eq_by_cmp by_bytes q y.0) y.1 (find by_bytes q ys) (find by_bytes q (x ∷ xs))
    ] refl

pub find_union : (q : Bytes) (xs ys : List Entry) → T (is_sorted by_bytes ys) → find by_bytes q (union xs ys) ≡ option_or (find by_bytes q ys) (find by_bytes q xs)
find_union q [] ys hy = sym (or_none (find by_bytes q ys))
find_union q (x ∷ xs) ys hy = find_woven q x xs (find_union q xs) ys hy

-- where one of the two is at its end, the other follows
pub ends : (xs ys : List Entry) → (xs ≡ []) ⊎ (ys ≡ []) → union xs ys ≡ xs ++ ys
ends xs ys (inl e) = ap (λ l. union l ys) e ∙ sym (ap (λ l. l ++ ys) e)
ends xs ys (inr e) = ap (union xs) e ∙ union-nil xs ∙ sym (append-nil xs) ∙ sym (ap (λ l. xs ++ l) e)

at_end : (i : ℕ) (es : List (Bor Entry)) → length es ≤ i → lent (drop i es) ≡ []
at_end i es h = ap lent (drop_all i es h)

-- a slice from i on
pub from_on : (i : ℕ) (es : List (Bor Entry)) → take (length es - i) (drop i es) ≡ drop i es
from_on i es = ap (λ n. take n (drop i es)) (sym (length-drop i es)) ∙ take-length (drop i es)

-- what is out and what is left of the two, where one is at its end
pub says_both : (out more whole older newer : List (Bor Entry)) (i j : ℕ) →
    more ≡ out ++ take (length older - i) (drop i older) → whole ≡ more ++ take (length newer - j) (drop j newer) → Rises (lent older) → Rises (lent newer) →
    lent out ++ union (lent (drop i older)) (lent (drop j newer)) ≡ union (lent older) (lent newer) → (length older ≤ i) ⊎ (length newer ≤ j) →
    Say (later_of (lent older) (lent newer)) (lent whole)
says_both out more whole older newer i j is_more is_whole hx hy same done =
    let one : (lent (drop i older) ≡ []) ⊎ (lent (drop j newer) ≡ []) = elim done [ inl h ↦ inl (at_end i older h) | inr h ↦ inr (at_end j newer h) ] in
    let written : whole ≡ (out ++ drop i older) ++ drop j newer =
    is_whole ∙ (λ k. (is_more ∙ ap (λ l. out ++ l) (from_on i older)) k ++ from_on j newer k) in
    let all : union (lent older) (lent newer) ≡ lent whole =
    sym same
    ∙ ap (λ l. lent out ++ l) (ends (lent (drop i older)) (lent (drop j newer)) one)
    ∙ sym (append_assoc (lent out) (lent (drop i older)) (lent (drop j newer)))
    ∙ ap (λ l. l ++ lent (drop j newer)) (sym (map-append (λ e. e.now) out (drop i older)))
    ∙ sym (map-append (λ e. e.now) (out ++ drop i older) (drop j newer))
    ∙ sym (ap lent written) in
    subst (Say (later_of (lent older) (lent newer))) all (record {
      rises = is_true _ (sorted_union (lent older) (subst T (sym hx) tt) (lent newer) (subst T (sym hy) tt));
      finds = λ q. find_union q (lent older) (lent newer) (subst T (sym hy) tt);
    })
