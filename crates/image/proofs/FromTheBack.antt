-- Two lists in the order of their keys as one, which is made from the back.
use Rattle.std.proofs.Common.{◌≡◌, ℕ, zero, suc, ◌+◌, ◌-◌, ◌<◌, ◌≤◌, length, take, drop, get_or, set, append_assoc, List, [], ◌∷◌, ◌++◌}
use Rattle.std.proofs.Common.{Bool, true, Some, None, ◌⊎◌, inl, inr, T, refl, sym, ap, ◌∙◌, subst, arith}
use Rattle.std.specs.Prelude.{◌&&◌, slice_get}
use Rattle.std.specs.List.{swap}
use Rattle.std.specs.Ordering.{is_lt, ordering_reverse}
use Rattle.std.specs.declared.cmp.Ordering.{Ordering}
use Rattle.std.specs.declared.cmp.Ordering.TheVariants.{Less, Equal, Greater}
use Rattle.std.specs.Cmp.Lexicographic.{nat_list_cmp_total}
use Rattle.std.specs.FinMap.{is_sorted, slice_cmp-IsAntisymmetric, nat_cmp-IsAntisymmetric}
use Rattle.std.specs.FinMap.Entries.{below_all, by_order}
use Rattle.std.proofs.lemmas.List.{drop-set, drop-set-lt, length-append, length-set, same_from_push, take_all, take_more, take-set-le}
use Rattle.std.proofs.lemmas.List.Edits.{length-swap, swap_is}
use Rattle.std.proofs.lemmas.Option.{slice_get_within, slice_get-get_or}
use Rattle.procedure.specs.Bytes.{Bytes}
use Rattle.image.specs.Images.{Entry, Rises}
use Rattle.image.proofs.Rising.{by_bytes, both, parts, is_less, less_of}
use Rattle.image.specs.Joins.{Say, later_of}
use Rattle.image.proofs.Joins.{find_union, flipped, is_true, sorted_union, union, union-nil, woven}

-- each key is below this one
abbrev pub all_below : Bytes → List Entry → Bool
all_below k [] = true
all_below k (e ∷ es) = is_lt (by_bytes e.0 k) && all_below k es

-- a key below another is the lesser
behind : (x y : Bytes) → T (is_lt (by_bytes y x)) → by_bytes x y ≡ Greater
behind x y h = nat_list_cmp_total.antisymm x y ∙ ap ordering_reverse (less_of _ h)

-- where x is above all others of the second, it comes last
last_woven : (x w : Entry) (ws : List Entry) → ((ys : List Entry) → T (all_below x.0 ys) → union (ws ++ x ∷ []) ys ≡ union ws ys ++ x ∷ []) →
    (ys : List Entry) → T (all_below x.0 ys) → woven w (ws ++ x ∷ []) (union (ws ++ x ∷ [])) ys ≡ woven w ws (union ws) ys ++ x ∷ []
last_woven x w ws f [] h = refl
last_woven x w ws f (y ∷ ys) h =
    let (here, there) = parts (is_lt (by_bytes y.0 x.0)) (all_below x.0 ys) h in
    elim (by_bytes w.0 y.0) as (λ r. by_order r (w ∷ union (ws ++ x ∷ []) (y ∷ ys)) (y ∷ union (ws ++ x ∷ []) ys) (y ∷ woven w (ws ++ x ∷ []) (union (ws ++ x ∷ [])) ys) ≡
    by_order r (w ∷ union ws (y ∷ ys)) (y ∷ union ws ys) (y ∷ woven w ws (union ws) ys) ++ x ∷ []) [
      | Less ↦ ap (λ l. w ∷ l) (f (y ∷ ys) h)
      | Equal ↦ ap (λ l. y ∷ l) (f ys there)
      | Greater ↦ ap (λ l. y ∷ l) (last_woven x w ws f ys there)
    ]

-- an entry alone
last_alone : (x : Entry) (ys : List Entry) → T (all_below x.0 ys) → union (x ∷ []) ys ≡ ys ++ x ∷ []
last_alone x [] h = refl
last_alone x (y ∷ ys) h =
    let (here, there) = parts (is_lt (by_bytes y.0 x.0)) (all_below x.0 ys) h in
    ap (λ r. by_order r (x ∷ y ∷ ys) (y ∷ ys) (y ∷ union (x ∷ []) ys)) (behind x.0 y.0 here) ∙ ap (λ l. y ∷ l) (last_alone x ys there)

pub last_of_first : (x : Entry) (xs ys : List Entry) → T (all_below x.0 ys) → union (xs ++ x ∷ []) ys ≡ union xs ys ++ x ∷ []
last_of_first x [] ys h = last_alone x ys h
last_of_first x (w ∷ ws) ys h = last_woven x w ws (last_of_first x ws) ys h

-- where y is above all of the first, it comes last
second_woven : (y x : Entry) (xs : List Entry) → T (is_lt (by_bytes x.0 y.0)) → ((ys : List Entry) → union xs (ys ++ y ∷ []) ≡ union xs ys ++ y ∷ []) → (ys : List Entry) →
    woven x xs (union xs) (ys ++ y ∷ []) ≡ woven x xs (union xs) ys ++ y ∷ []
second_woven y x xs lt f [] =
    ap (λ r. by_order r (x ∷ union xs (y ∷ [])) (y ∷ union xs []) (y ∷ x ∷ xs)) (less_of _ lt) ∙ ap (λ l. x ∷ l) (f [] ∙ ap (λ l. l ++ y ∷ []) (union-nil xs))
second_woven y x xs lt f (z ∷ ys) =
    elim (by_bytes x.0 z.0) as (λ r. by_order r (x ∷ union xs (z ∷ ys ++ y ∷ [])) (z ∷ union xs (ys ++ y ∷ [])) (z ∷ woven x xs (union xs) (ys ++ y ∷ [])) ≡
    by_order r (x ∷ union xs (z ∷ ys)) (z ∷ union xs ys) (z ∷ woven x xs (union xs) ys) ++ y ∷ []) [
      | Less ↦ ap (λ l. x ∷ l) (f (z ∷ ys))
      | Equal ↦ ap (λ l. z ∷ l) (f ys)
      | Greater ↦ ap (λ l. z ∷ l) (second_woven y x xs lt f ys)
    ]

pub last_of_second : (y : Entry) (xs : List Entry) → T (all_below y.0 xs) → (ys : List Entry) → union xs (ys ++ y ∷ []) ≡ union xs ys ++ y ∷ []
last_of_second y [] h ys = refl
last_of_second y (x ∷ xs) h ys =
    let (here, there) = parts (is_lt (by_bytes x.0 y.0)) (all_below y.0 xs) h in
    second_woven y x xs here (last_of_second y xs there) ys

-- where they are one key above all others, that of the second comes last
both_woven : (x y w : Entry) (ws : List Entry) → T (is_lt (by_bytes w.0 y.0)) → ((ys : List Entry) → T (all_below x.0 ys) → union (ws ++ x ∷ []) (ys ++ y ∷ []) ≡ union ws ys ++ y ∷ []) →
    (ys : List Entry) → T (all_below x.0 ys) → woven w (ws ++ x ∷ []) (union (ws ++ x ∷ [])) (ys ++ y ∷ []) ≡ woven w ws (union ws) ys ++ y ∷ []
both_woven x y w ws lt f [] h =
    ap (λ r. by_order r (w ∷ union (ws ++ x ∷ []) (y ∷ [])) (y ∷ union (ws ++ x ∷ []) []) (y ∷ w ∷ ws ++ x ∷ [])) (less_of _ lt)
    ∙ ap (λ l. w ∷ l) (f [] tt ∙ ap (λ l. l ++ y ∷ []) (union-nil ws))
both_woven x y w ws lt f (z ∷ ys) h =
    let (here, there) = parts (is_lt (by_bytes z.0 x.0)) (all_below x.0 ys) h in
    elim (by_bytes w.0 z.0) as (λ r. by_order r (w ∷ union (ws ++ x ∷ []) (z ∷ ys ++ y ∷ [])) (z ∷ union (ws ++ x ∷ []) (ys ++ y ∷ []))
    (z ∷ woven w (ws ++ x ∷ []) (union (ws ++ x ∷ [])) (ys ++ y ∷ [])) ≡
    by_order r (w ∷ union ws (z ∷ ys)) (z ∷ union ws ys) (z ∷ woven w ws (union ws) ys) ++ y ∷ []) [
      | Less ↦ ap (λ l. w ∷ l) (f (z ∷ ys) h)
      | Equal ↦ ap (λ l. z ∷ l) (f ys there)
      | Greater ↦ ap (λ l. z ∷ l) (both_woven x y w ws lt f ys there)
    ]

both_alone : (x y : Entry) → by_bytes x.0 y.0 ≡ Equal → (ys : List Entry) → T (all_below x.0 ys) → union (x ∷ []) (ys ++ y ∷ []) ≡ ys ++ y ∷ []
both_alone x y same [] h = ap (λ r. by_order r (x ∷ y ∷ []) (y ∷ []) (y ∷ x ∷ [])) same
both_alone x y same (z ∷ ys) h =
    let (here, there) = parts (is_lt (by_bytes z.0 x.0)) (all_below x.0 ys) h in
    ap (λ r. by_order r (x ∷ z ∷ ys ++ y ∷ []) (z ∷ ys ++ y ∷ []) (z ∷ union (x ∷ []) (ys ++ y ∷ []))) (behind x.0 z.0 here) ∙ ap (λ l. z ∷ l) (both_alone x y same ys there)

pub last_of_both : (x y : Entry) → by_bytes x.0 y.0 ≡ Equal → (xs ys : List Entry) → T (all_below y.0 xs) → T (all_below x.0 ys) → union (xs ++ x ∷ []) (ys ++ y ∷ []) ≡ union xs ys ++ y ∷ []
last_of_both x y same [] ys hx hy = both_alone x y same ys hy
last_of_both x y same (w ∷ ws) ys hx hy =
    let (here, there) = parts (is_lt (by_bytes w.0 y.0)) (all_below y.0 ws) hx in
    both_woven x y w ws here (λ zs. last_of_both x y same ws zs there) ys hy

-- what is below one key is below another
all_through : (j k : Bytes) (es : List Entry) → by_bytes j k ≡ Less → T (all_below j es) → T (all_below k es)
all_through j k [] lt h = tt
all_through j k (e ∷ es) lt h =
    let (here, there) = parts (is_lt (by_bytes e.0 j)) (all_below j es) h in
    both (is_lt (by_bytes e.0 k)) (all_below k es) (is_less _ (nat_list_cmp_total.trans e.0 j k (less_of _ here) lt)) (all_through j k es lt there)

all_with : (k : Bytes) (xs : List Entry) (x : Entry) → T (all_below k xs) → T (is_lt (by_bytes x.0 k)) → T (all_below k (xs ++ x ∷ []))
all_with k [] x h lt = both (is_lt (by_bytes x.0 k)) true lt tt
all_with k (w ∷ ws) x h lt =
    let (here, there) = parts (is_lt (by_bytes w.0 k)) (all_below k ws) h in
    both (is_lt (by_bytes w.0 k)) (all_below k (ws ++ x ∷ [])) here (all_with k ws x there lt)

below_end : (k : Bytes) (xs : List Entry) (x : Entry) → T (below_all by_bytes k (xs ++ x ∷ [])) → T (below_all by_bytes k xs) × T (is_lt (by_bytes k x.0))
below_end k [] x h = (tt, (parts (is_lt (by_bytes k x.0)) true h).0)
below_end k (w ∷ ws) x h =
    let (here, there) = parts (is_lt (by_bytes k w.0)) (below_all by_bytes k (ws ++ x ∷ [])) h in
    let both_of = below_end k ws x there in
    (both (is_lt (by_bytes k w.0)) (below_all by_bytes k ws) here both_of.0, both_of.1)

-- of a list that rises the last is above all others, which rise
sorted_end : (xs : List Entry) (x : Entry) → T (is_sorted by_bytes (xs ++ x ∷ [])) → T (is_sorted by_bytes xs) × T (all_below x.0 xs)
sorted_end [] x h = (tt, tt)
sorted_end (w ∷ ws) x h =
    let (first, rest) = parts (below_all by_bytes w.0 (ws ++ x ∷ [])) (is_sorted by_bytes (ws ++ x ∷ [])) h in
    let below = below_end w.0 ws x first in
    let others = sorted_end ws x rest in
    (both (below_all by_bytes w.0 ws) (is_sorted by_bytes ws) below.0 others.0, both (is_lt (by_bytes w.0 x.0)) (all_below x.0 ws) below.1 others.1)

rises_end : (xs : List Entry) (x : Entry) → Rises (xs ++ x ∷ []) → Rises xs × T (all_below x.0 xs)
rises_end xs x h = let ended = sorted_end xs x (subst T (sym h) tt) in (is_true _ ended.0, ended.1)

same_key : (j k : Bytes) → by_bytes j k ≡ Equal → j ≡ k
same_key j k e = slice_cmp-IsAntisymmetric nat_cmp-IsAntisymmetric j k e

-- the last of a list
parted : (es : List Entry) (z : Entry) → slice_get es (length es - 1) ≡ Some z → es ≡ take (length es - 1) es ++ z ∷ []
parted es z is =
    let within = slice_get_within es (length es - 1) z is in
    let here : get_or es (length es - 1) z ≡ z = let e = sym (slice_get-get_or es (length es - 1) z within) ∙ is in cc in
    sym (take_all (length es - 1 + 1) es (omega arith))
    ∙ take_more es (length es - 1) z within
    ∙ ap (λ (e : Entry). take (length es - 1) es ++ e ∷ []) here

none_left : (es : List Entry) → slice_get es (length es - 1) ≡ None → es ≡ []
none_left [] h = refl
none_left (e ∷ es) h = let some = slice_get-get_or (e ∷ es) (length (e ∷ es) - 1) e (omega arith) in absurd (cc)

-- Of a, `left` entries are to be joined with es yet; behind a gap, from `at` on, stands what is joined.
pub record Joining (all : List Entry) (a es : List Entry) (left at : ℕ) : Type 0 where
  pub older : Rises (take left a)
  pub newer : Rises es
  pub room : left + length es ≤ at
  pub within : at ≤ length a
  pub whole : union (take left a) es ++ drop at a ≡ all

module _ (all a es : List Entry) (left at j : ℕ) (is_at : at ≡ j + 1) (now : Joining all a es left at) where
  -- y stands where the gap ended
  set_ends : (y : Entry) → j < length a → drop j (set a j y) ≡ y ∷ drop at a
  set_ends y lt = drop-set a j y lt ∙ ap (λ n. y ∷ drop n a) (sym is_at)

  moves : (i : ℕ) (ys b : List Entry) (y : Entry) → drop j b ≡ y ∷ drop at a → take i b ≡ take i a → union (take left a) es ≡ union (take i a) ys ++ y ∷ [] → union (take i b) ys ++ drop j b ≡ all
  moves i ys b y ends front last =
      (λ k. union (front k) ys ++ ends k)
      ∙ sym (append_assoc (union (take i a) ys) (y ∷ []) (drop at a))
      ∙ ap (λ (l : List Entry). l ++ drop at a) (sym last)
      ∙ now.whole

  -- the last of the first that are left
  first_ends : (i : ℕ) (d : Entry) → left ≡ i + 1 → take left a ≡ take i a ++ get_or a i d ∷ []
  first_ends i d is = ap (λ n. take n a) is ∙ take_more a i d (omega (arith, now.room, now.within))

  -- z is the last of the second, and with its key the last of the first, if there is one, compares so
  module _ (z : Entry) (is_z : slice_get es (length es - 1) ≡ Some z) (order : Ordering) (compares : (i : ℕ) (e : Entry) → left ≡ i + 1 → order ≡ by_bytes (get_or a i e).0 z.0) where
    abbrev rest : List Entry
    rest = take (length es - 1) es

    count : length es ≡ length rest + 1
    count = ap length (parted es z is_z) ∙ length-append rest (z ∷ [])

    ended : Rises rest × T (all_below z.0 rest)
    ended = rises_end rest z (subst Rises (parted es z is_z) now.newer)

    below_second : (n : ℕ) → left ≡ n → order ≡ Less → T (all_below z.0 (take left a))
    below_second zero is less = subst (λ n. T (all_below z.0 (take n a))) (sym is) tt
    below_second (suc i) is less =
        let is_left : left ≡ i + 1 = omega arith in
        let x = get_or a i z in
        let front = rises_end (take i a) x (subst Rises (first_ends i z is_left) now.older) in
        let lt = sym (compares i z is_left) ∙ less in
        subst (λ l. T (all_below z.0 l)) (sym (first_ends i z is_left)) (all_with z.0 (take i a) x (all_through x.0 z.0 (take i a) lt front.1) (is_less _ lt))

    -- the last of the second goes over where it is above
    goes_second : order ≡ Less → Joining all (set a j z) rest left j
    goes_second less =
        let front = take-set-le left a j z (omega (arith, now.room, count)) in
        record {
          older = subst Rises (sym front) now.older;
          newer = ended.0;
          room = omega (arith, now.room, count);
          within = omega (arith, now.within, length-set a j z);
          whole = moves left rest (set a j z) z (set_ends z (omega (arith, now.within))) front
              (ap (union (take left a)) (parted es z is_z) ∙ last_of_second z (take left a) (below_second left refl less) rest);
        }

    -- and, where both have one key, in place of that of the first
    goes_over : (i : ℕ) → left ≡ i + 1 → order ≡ Equal → Joining all (set a j z) rest i j
    goes_over i is equal =
        let x = get_or a i z in
        let same = sym (compares i z is) ∙ equal in
        let key : x.0 ≡ z.0 = same_key x.0 z.0 same in
        let behind = rises_end (take i a) x (subst Rises (first_ends i z is) now.older) in
        let front = take-set-le i a j z (omega (arith, now.room, count)) in
        record {
          older = subst Rises (sym front) behind.0;
          newer = ended.0;
          room = omega (arith, now.room, count);
          within = omega (arith, now.within, length-set a j z);
          whole = moves i rest (set a j z) z (set_ends z (omega (arith, now.within))) front
              ((λ k. union (first_ends i z is k) (parted es z is_z k))
              ∙ last_of_both x z same (take i a) rest (subst (λ q. T (all_below q (take i a))) key behind.1) (subst (λ q. T (all_below q rest)) (sym key) ended.1));
        }

    -- as the list is seen that has lost its last
    lost : (ys : List Entry) (y : Entry) → es ≡ ys ++ y ∷ [] → (rest ≡ ys) × (z ≡ y)
    lost ys y is = same_from_push rest ys z y (sym (parted es z is_z) ∙ is)

    pub second : (ys b : List Entry) (y : Entry) → es ≡ ys ++ y ∷ [] → b ≡ set a j y → order ≡ Less → Joining all b ys left j
    second ys b y is is_b less =
        let same = lost ys y is in
        subst (λ l. Joining all l ys left j) (sym is_b) (subst (λ l. Joining all (set a j y) l left j) same.0 (subst (λ e. Joining all (set a j e) rest left j) same.1 (goes_second less)))

    pub over : (ys b : List Entry) (y : Entry) → es ≡ ys ++ y ∷ [] → b ≡ set a j y → (i : ℕ) → left ≡ i + 1 → order ≡ Equal → Joining all b ys i j
    over ys b y is is_b i is_i equal =
        let same = lost ys y is in
        subst (λ l. Joining all l ys i j) (sym is_b) (subst (λ l. Joining all (set a j y) l i j) same.0 (subst (λ e. Joining all (set a j e) rest i j) same.1 (goes_over i is_i equal)))

    -- the last of the first goes up where it is above
    above_all : (x : Entry) → by_bytes x.0 z.0 ≡ Greater → T (all_below x.0 es)
    above_all x greater =
        let less = flipped x.0 z.0 greater in
        subst (λ l. T (all_below x.0 l)) (sym (parted es z is_z)) (all_with x.0 rest z (all_through z.0 x.0 rest less ended.1) (is_less _ less))

    goes_up : (i : ℕ) → left ≡ i + 1 → order ≡ Greater → Joining all (swap a i j) es i j
    goes_up i is greater =
        let x = get_or a i z in
        let above = sym (compares i z is) ∙ greater in
        let behind = rises_end (take i a) x (subst Rises (first_ends i z is) now.older) in
        let swapped = swap_is a i j z (omega (arith, now.room, now.within)) (omega (arith, now.within)) in
        let front : take i (swap a i j) ≡ take i a =
        ap (take i) (sym swapped) ∙ take-set-le i (set a i (get_or a j z)) j x (omega (arith, now.room, count)) ∙ take-set-le i a i (get_or a j z) (omega arith) in
        let ends : drop j (swap a i j) ≡ x ∷ drop at a =
        ap (drop j) (sym swapped)
        ∙ drop-set (set a i (get_or a j z)) j x (omega (arith, now.within, length-set a i (get_or a j z)))
        ∙ ap (λ (l : List Entry). x ∷ l) (drop-set-lt (j + 1) a i (get_or a j z) (omega (arith, now.room, count)) ∙ ap (λ n. drop n a) (sym is_at)) in
        record {
          older = subst Rises (sym front) behind.0;
          newer = now.newer;
          room = omega (arith, now.room);
          within = omega (arith, now.within, length-swap a i j);
          whole = moves i es (swap a i j) x ends front (ap (λ (l : List Entry). union l es) (first_ends i z is) ∙ last_of_first x (take i a) es (above_all x above));
        }

    pub up : (b : List Entry) (i : ℕ) → b ≡ swap a i j → left ≡ i + 1 → order ≡ Greater → Joining all b es i j
    up b i is_b is greater = subst (λ l. Joining all l es i j) (sym is_b) (goes_up i is greater)

-- the last and a comparison as the code sees them
pub last_seen : (es seen : List Entry) (z : Entry) → seen ≡ es → Some z ≡ slice_get seen (length seen - 1) → slice_get es (length es - 1) ≡ Some z
last_seen es seen z same is = ap (λ (l : List Entry). slice_get l (length l - 1)) (sym same) ∙ sym is

pub compares_so : (a seen : List Entry) (left : ℕ) (order : Ordering) (key : Bytes) (z : Entry) → seen ≡ a → key ≡ z.0 →
    ((i : ℕ) (e : Entry) → left ≡ i + 1 → order ≡ by_bytes (get_or seen i e).0 key) →
    (i : ℕ) (e : Entry) → left ≡ i + 1 → order ≡ by_bytes (get_or a i e).0 z.0
compares_so a seen left order key z same is_key so i e is = so i e is ∙ (λ k. by_bytes (get_or (same k) i e).0 (is_key k))

-- what isn't below is there
pub is_left : (left : ℕ) (order : Ordering) → (left ≡ 0 → order ≡ Less) → (order ≡ Less → ⊥) → 1 ≤ left
is_left zero order none other = absurd (other (none refl))
is_left (suc n) order none other = omega arith

pub not_less : (order : Ordering) → (order ≡ Equal) ⊎ (order ≡ Greater) → order ≡ Less → ⊥
not_less order (inl e) less = absurd (cc)
not_less order (inr e) less = absurd (cc)

-- after the last step
pub says_all : (older newer a es b : List Entry) (left at : ℕ) → Rises older → Rises newer → Joining (union older newer) a es left at →
    slice_get es (length es - 1) ≡ None → b ≡ take left a ++ drop at a →
    Say (later_of older newer) b
says_all older newer a es b left at hx hy end none is =
    let same : union older newer ≡ b =
    sym end.whole ∙ ap (λ l. union (take left a) l ++ drop at a) (none_left es none) ∙ ap (λ l. l ++ drop at a) (union-nil (take left a)) ∙ sym is in
    subst (Say (later_of older newer)) same (record {
      rises = is_true _ (sorted_union older (subst T (sym hx) tt) newer (subst T (sym hy) tt));
      finds = λ q. find_union q older newer (subst T (sym hy) tt);
    })
