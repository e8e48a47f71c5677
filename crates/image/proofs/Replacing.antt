-- A list in the order of its keys, of which one entry gets another cell or goes.
use Rattle.std.proofs.Common.{◌≡◌, inl, inr, ℕ, zero, suc, ◌+◌, ◌<◌, ◌≤◌, false, cond, List, [], ◌∷◌, ◌++◌, length, get_or, slice_set, take, drop, append_assoc}
use Rattle.std.proofs.Common.{Some, None, T, refl, sym, ap, ◌∙◌, subst, arith}
use Rattle.std.specs.Option.{option_or}
use Rattle.std.specs.Ordering.{eq_by_cmp, is_eq, is_lt, ordering_reverse}
use Rattle.std.specs.Cmp.{tied_itself}
use Rattle.std.specs.Cmp.Lexicographic.{nat_list_cmp_total}
use Rattle.std.specs.FinMap.{find, is_sorted}
use Rattle.std.specs.FinMap.Entries.{below_all}
use Rattle.std.specs.List.{swap}
use Rattle.std.proofs.lemmas.List.{drop_more, drop-set-lt, length-set, take_more, take-set-le}
use Rattle.std.proofs.lemmas.List.Edits.{length-swap, swap_is, swapped_from_swap}
use Rattle.procedure.specs.Bytes.{Bytes, Cell}
use Rattle.image.specs.Images.{Entry, Rises}
use Rattle.image.specs.Joins.{later_of}
use Rattle.image.proofs.Rising.{by_bytes, both, parts, less_of}
use Rattle.image.proofs.Joins.{find_below, is_true, keys}

-- one goes
below_without : (k : Bytes) (xs : List Entry) (e : Entry) (ys : List Entry) → T (below_all by_bytes k (xs ++ e ∷ ys)) → T (below_all by_bytes k (xs ++ ys))
below_without k [] e ys h = (parts (is_lt (by_bytes k e.0)) (below_all by_bytes k ys) h).1
below_without k (x ∷ xs) e ys h =
    let (here, there) = parts (is_lt (by_bytes k x.0)) (below_all by_bytes k (xs ++ e ∷ ys)) h in
    both (is_lt (by_bytes k x.0)) (below_all by_bytes k (xs ++ ys)) here (below_without k xs e ys there)

pub sorted_without : (xs : List Entry) (e : Entry) (ys : List Entry) → T (is_sorted by_bytes (xs ++ e ∷ ys)) → T (is_sorted by_bytes (xs ++ ys))
sorted_without [] e ys h = (parts (below_all by_bytes e.0 ys) (is_sorted by_bytes ys) h).1
sorted_without (x ∷ xs) e ys h =
    let (first, rest) = parts (below_all by_bytes x.0 (xs ++ e ∷ ys)) (is_sorted by_bytes (xs ++ e ∷ ys)) h in
    both (below_all by_bytes x.0 (xs ++ ys)) (is_sorted by_bytes (xs ++ ys)) (below_without x.0 xs e ys first) (sorted_without xs e ys rest)

below_one : (k : Bytes) (xs : List Entry) (e : Entry) (ys : List Entry) → T (below_all by_bytes k (xs ++ e ∷ ys)) → T (is_lt (by_bytes k e.0))
below_one k [] e ys h = (parts (is_lt (by_bytes k e.0)) (below_all by_bytes k ys) h).0
below_one k (x ∷ xs) e ys h = below_one k xs e ys ((parts (is_lt (by_bytes k x.0)) (below_all by_bytes k (xs ++ e ∷ ys)) h).1)

-- a key above another isn't that
above : (k q : Bytes) → T (is_lt (by_bytes k q)) → eq_by_cmp by_bytes q k ≡ false
above k q lt = ap is_eq (nat_list_cmp_total.antisymm q k ∙ ap ordering_reverse (less_of _ lt))

-- its key isn't found any more
gone : (xs : List Entry) (e : Entry) (ys : List Entry) → T (is_sorted by_bytes (xs ++ e ∷ ys)) → find by_bytes e.0 (xs ++ ys) ≡ None
gone [] e ys h = find_below e.0 ys ((parts (below_all by_bytes e.0 ys) (is_sorted by_bytes ys) h).0)
gone (x ∷ xs) e ys h =
    let (first, rest) = parts (below_all by_bytes x.0 (xs ++ e ∷ ys)) (is_sorted by_bytes (xs ++ e ∷ ys)) h in
    ap (λ b. cond b (Some x.1) (find by_bytes e.0 (xs ++ ys))) (above x.0 e.0 (below_one x.0 xs e ys first)) ∙ gone xs e ys rest

-- and others are as before
untouched : (q : Bytes) (xs : List Entry) (e : Entry) (ys : List Entry) → eq_by_cmp by_bytes q e.0 ≡ false → find by_bytes q (xs ++ e ∷ ys) ≡ find by_bytes q (xs ++ ys)
untouched q [] e ys apart = ap (λ b. cond b (Some e.1) (find by_bytes q ys)) apart
untouched q (x ∷ xs) e ys apart = ap (cond (eq_by_cmp by_bytes q x.0) (Some x.1)) (untouched q xs e ys apart)

stands : (xs : List Entry) (e : Entry) (ys : List Entry) → T (is_sorted by_bytes (xs ++ e ∷ ys)) → find by_bytes e.0 (xs ++ e ∷ ys) ≡ Some e.1
stands [] e ys h = ap (λ r. cond (is_eq r) (Some e.1) (find by_bytes e.0 ys)) (tied_itself nat_list_cmp_total e.0)
stands (x ∷ xs) e ys h =
    let (first, rest) = parts (below_all by_bytes x.0 (xs ++ e ∷ ys)) (is_sorted by_bytes (xs ++ e ∷ ys)) h in
    ap (λ b. cond b (Some x.1) (find by_bytes e.0 (xs ++ e ∷ ys))) (above x.0 e.0 (below_one x.0 xs e ys first)) ∙ stands xs e ys rest

-- one gets another cell
below_set : (k : Bytes) (es : List Entry) (i : ℕ) (x : Cell) (d : Entry) → i < length es → T (below_all by_bytes k es) → T (below_all by_bytes k (slice_set es i ((get_or es i d).0, x)))
below_set k [] i x d lt h = absurd (omega arith)
below_set k (e ∷ es) zero x d lt h = h
below_set k (e ∷ es) (suc i) x d lt h =
    let (here, there) = parts (is_lt (by_bytes k e.0)) (below_all by_bytes k es) h in
    both (is_lt (by_bytes k e.0)) (below_all by_bytes k (slice_set es i ((get_or es i d).0, x))) here (below_set k es i x d (omega arith) there)

sorted_set : (es : List Entry) (i : ℕ) (x : Cell) (d : Entry) → i < length es → T (is_sorted by_bytes es) → T (is_sorted by_bytes (slice_set es i ((get_or es i d).0, x)))
sorted_set [] i x d lt h = absurd (omega arith)
sorted_set (e ∷ es) zero x d lt h = h
sorted_set (e ∷ es) (suc i) x d lt h =
    let (first, rest) = parts (below_all by_bytes e.0 es) (is_sorted by_bytes es) h in
    both (below_all by_bytes e.0 (slice_set es i ((get_or es i d).0, x))) (is_sorted by_bytes (slice_set es i ((get_or es i d).0, x))) (below_set e.0 es i x d (omega arith) first)
    (sorted_set es i x d (omega arith) rest)

set_untouched : (q : Bytes) (es : List Entry) (i : ℕ) (x : Cell) (d : Entry) → i < length es → eq_by_cmp by_bytes q (get_or es i d).0 ≡ false → find by_bytes q (slice_set es i ((get_or es i d).0, x)) ≡ find by_bytes q es
set_untouched q [] i x d lt apart = absurd (omega arith)
set_untouched q (e ∷ es) zero x d lt apart = ap (λ b. cond b (Some x) (find by_bytes q es)) apart ∙ sym (ap (λ b. cond b (Some e.1) (find by_bytes q es)) apart)
set_untouched q (e ∷ es) (suc i) x d lt apart = ap (cond (eq_by_cmp by_bytes q e.0) (Some e.1)) (set_untouched q es i x d (omega arith) apart)

at_is : (es : List Entry) (i : ℕ) (d : Entry) (k : Bytes) → T (below_all by_bytes k es) → i < length es → T (is_lt (by_bytes k (get_or es i d).0))
at_is [] i d k h lt = absurd (omega arith)
at_is (e ∷ es) zero d k h lt = (parts (is_lt (by_bytes k e.0)) (below_all by_bytes k es) h).0
at_is (e ∷ es) (suc i) d k h lt = at_is es i d k ((parts (is_lt (by_bytes k e.0)) (below_all by_bytes k es) h).1) (omega arith)

set_stands : (es : List Entry) (i : ℕ) (x : Cell) (d : Entry) → i < length es → T (is_sorted by_bytes es) → find by_bytes (get_or es i d).0 (slice_set es i ((get_or es i d).0, x)) ≡ Some x
set_stands [] i x d lt h = absurd (omega arith)
set_stands (e ∷ es) zero x d lt h = ap (λ r. cond (is_eq r) (Some x) (find by_bytes e.0 es)) (tied_itself nat_list_cmp_total e.0)
set_stands (e ∷ es) (suc i) x d lt h =
    let (first, rest) = parts (below_all by_bytes e.0 es) (is_sorted by_bytes es) h in
    let k = (get_or es i d).0 in
    ap (λ b. cond b (Some e.1) (find by_bytes k (slice_set es i (k, x)))) (above e.0 k (at_is es i d e.0 first (omega arith))) ∙ set_stands es i x d (omega arith) rest

-- an entry of the newer list goes, and its cell stands in the older one
module _ (older others rest : List Entry) (e new : Entry) (i : ℕ) (within : i < length older) (rises : Rises older) (newer : Rises (others ++ e ∷ rest)) (there : new.0 ≡ (get_or older i e).0)
    (key : new.0 ≡ e.0) (cell : new.1 ≡ e.1) where
  abbrev set : List Entry
  set = slice_set older i ((get_or older i e).0, e.1)

  abbrev pub replaced : List Entry
  replaced = slice_set older i new

  replaced_is : replaced ≡ set
  replaced_is = λ k. slice_set older i (there k, cell k)

  pub rises_replaced : Rises replaced
  rises_replaced = subst Rises (sym replaced_is) (is_true _ (sorted_set older i e.1 e within (subst T (sym rises) tt)))

  pub rises_without : Rises (others ++ rest)
  rises_without = is_true _ (sorted_without others e rest (subst T (sym newer) tt))

  abbrev place : (get_or older i e).0 ≡ e.0
  place = sym there ∙ key

  says_key : later_of set (others ++ rest) e.0 ≡ later_of older (others ++ e ∷ rest) e.0
  says_key =
      ap (λ o. option_or o (find by_bytes e.0 set)) (gone others e rest (subst T (sym newer) tt))
      ∙ subst (λ q. find by_bytes q set ≡ Some e.1) place (set_stands older i e.1 e within (subst T (sym rises) tt))
      ∙ sym (ap (λ o. option_or o (find by_bytes e.0 older)) (stands others e rest (subst T (sym newer) tt)))

  says_other : (q : Bytes) → eq_by_cmp by_bytes q e.0 ≡ false → later_of set (others ++ rest) q ≡ later_of older (others ++ e ∷ rest) q
  says_other q apart =
      λ k. option_or (sym (untouched q others e rest apart) k) (set_untouched q older i e.1 e within (ap (eq_by_cmp by_bytes q) place ∙ apart) k)

  pub says_replaced : (q : Bytes) → later_of replaced (others ++ rest) q ≡ later_of older (others ++ e ∷ rest) q
  says_replaced q =
      ap (λ (l : List Entry). later_of l (others ++ rest) q) replaced_is
      ∙ elim (keys q e.0) [
        | inl same ↦ subst (λ k. later_of set (others ++ rest) k ≡ later_of older (others ++ e ∷ rest) k) (sym same) says_key
        | inr apart ↦ says_other q apart
      ]

-- The newer list while it is gone through: of `now` the first `count` are to stay, and those from `index` on are to be looked at.
-- Over `set`, which the older list has become, these say what the two lists said.
pub record Sifting (older newer set now : List Entry) (count index : ℕ) : Type 0 where
  pub sets : Rises set
  pub stay : Rises (take count now ++ drop index now)
  pub front : count ≤ index
  pub as_many : length now ≡ length newer
  pub says : (q : Bytes) → later_of set (take count now ++ drop index now) q ≡ later_of older newer q

-- the same under other names
pub sifting_as : (older newer set now set' now' : List Entry) (count count' index : ℕ) → set' ≡ set → now' ≡ now → count' ≡ count →
    Sifting older newer set now count index → Sifting older newer set' now' count' index
sifting_as older newer set now set' now' count count' index is_set is_now is_count s =
    subst (λ (l : List Entry). Sifting older newer l now' count' index) (sym is_set)
    (subst (λ (l : List Entry). Sifting older newer set l count' index) (sym is_now) (subst (λ (n : ℕ). Sifting older newer set now n index) (sym is_count) s))

module _ (older newer set now : List Entry) (count index : ℕ) (within : index < length now) (s : Sifting older newer set now count index) where
  -- the next gives its cell
  pub gives : (place : ℕ) (e new left : Entry) → place < length set → e ≡ get_or now index e → new.0 ≡ (get_or set place e).0 → new.0 ≡ e.0 → new.1 ≡ e.1 →
      Sifting older newer (slice_set set place new) (slice_set now index left) count (index + 1)
  gives place e new left in_set is_e there key cell =
      let others = take count now in
      let rest = drop (index + 1) now in
      let next : drop index now ≡ e ∷ rest = drop_more now index e within ∙ ap (λ (x : Entry). x ∷ rest) (sym is_e) in
      let kept : take count (slice_set now index left) ++ drop (index + 1) (slice_set now index left) ≡ others ++ rest =
      λ k. take-set-le count now index left s.front k ++ drop-set-lt (index + 1) now index left (omega arith) k in
      let both_rise = subst (λ (l : List Entry). Rises (others ++ l)) next s.stay in
      record {
        sets = rises_replaced set others rest e new place in_set s.sets both_rise there key cell;
        stay = subst Rises (sym kept) (rises_without set others rest e new place in_set s.sets both_rise there key cell);
        front = omega (arith, s.front);
        as_many = length-set now index left ∙ s.as_many;
        says = λ q.
            ap (λ (l : List Entry). later_of (slice_set set place new) l q) kept
            ∙ says_replaced set others rest e new place in_set s.sets both_rise there key cell q
            ∙ ap (λ (l : List Entry). later_of set (others ++ l) q) (sym next)
            ∙ s.says q;
      }

  -- the next stays
  pub stays : (d : Entry) → Sifting older newer set (swap now count index) (count + 1) (index + 1)
  stays d =
      let low : count < length now = omega (arith, s.front) in
      let after = swap now count index in
      let x = get_or now index d in
      let swapped = swap_is now count index d low within in
      let front : take count after ≡ take count now =
      ap (take count) (sym swapped) ∙ take-set-le count (slice_set now count x) index (get_or now count d) s.front ∙ take-set-le count now count x (omega arith) in
      let behind : drop (index + 1) after ≡ drop (index + 1) now =
      ap (drop (index + 1)) (sym swapped)
      ∙ drop-set-lt (index + 1) (slice_set now count x) index (get_or now count d) (omega arith)
      ∙ drop-set-lt (index + 1) now count x (omega (arith, s.front)) in
      let more : take (count + 1) after ≡ take count now ++ x ∷ [] =
      take_more after count d (omega (arith, length-swap now count index))
      ∙ (λ k. front k ++ (swapped_from_swap now after count index d low within refl).0 k ∷ []) in
      let kept : take (count + 1) after ++ drop (index + 1) after ≡ take count now ++ drop index now =
      (λ k. more k ++ behind k)
      ∙ append_assoc (take count now) (x ∷ []) (drop (index + 1) now)
      ∙ ap (λ (l : List Entry). take count now ++ l) (sym (drop_more now index d within)) in
      record {
        sets = s.sets;
        stay = subst Rises (sym kept) s.stay;
        front = omega (arith, s.front);
        as_many = length-swap now count index ∙ s.as_many;
        says = λ q. ap (λ (l : List Entry). later_of set l q) kept ∙ s.says q;
      }
