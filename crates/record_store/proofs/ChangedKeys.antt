-- Sets of keys, and the lists of them.
use Rattle.std.proofs.Common.{◌≡◌, inl, inr, ℕ, suc, ◌+◌, ◌<◌, ◌≤◌, Bool, true, false, cond, ◌||◌, List, [], ◌∷◌, ◌++◌, length, get_or, ◌-◌, if◌then◌else◌, slice_get, Bor, Option, Some, None, is_some, refl, sym, ap, ◌∙◌, subst, T, true≢false, arith, nat_eq, is_eq, Ordering, Less, Equal, Greater, nat_cmp, map}
use Rattle.std.proofs.lemmas.Bool.{cases_lt}
use Rattle.std.proofs.lemmas.List.Folds.{list_any_at, list_any_none}
use Rattle.std.proofs.lemmas.List.Sorted.{list_any-IsPermutation, searchable_from_sorted}
use Rattle.std.proofs.lemmas.Option.{slice_get_past, slice_get_read}
use Rattle.std.proofs.lemmas.Map.Keys.{IsDistinct-head, IsDistinct-tail, IsDistinct-IsPermutation, Less-from_sorted, apart_from_distinct, sorted_from_all_adjacent, sorted_head, sorted_tail}
use Rattle.std.specs.Cmp.{Equal-is}
use Rattle.std.specs.Cmp.Lexicographic.{slice_cmp, nat_list_cmp_total, nat_list_eq_equiv, pointwise, texts_ties}
use Rattle.std.specs.FinMap as fin
use Rattle.std.specs.FinMap.Entries.{below_all, is_some-find}
use Rattle.std.specs.List.{AllByRecursion, IsDistinct, list_any}
use Rattle.std.specs.List.Sorted.{IsBinarySearchResult, IsPermutation, IsSearchInRange, IsSorted, IsStrictlySortedBy}
use Rattle.std.specs.Option.{option_copied}
use Rattle.std.specs.Ordering.{eq_by_cmp, is_lt, ordering_reverse}
use Rattle.std.specs.Prelude.{IfOk, Result, Ok, Err, is_err, is_ok, ◌&&◌}
use Rattle.indexmap.specs.IndexSet.{insert_key}
use Rattle.std.specs.Slice.{IsItemAt}
use Rattle.procedure.specs.Bytes.{Bytes}
use Rattle.record_store.specs.ChangedFields.{set_of}
use Rattle.record_store.specs.ChangedSets.{KeySet, count, has, keys_of, empty_set, union, with_member, with_members}

abbrev by_bytes : Bytes → Bytes → Ordering
by_bytes = slice_cmp nat_cmp

abbrev same : Bytes → Bytes → Bool
same = pointwise nat_eq

nothing_kept : (x y : Option (Unit {0})) → is_some x ≡ is_some y → x ≡ y
nothing_kept None None e = refl
nothing_kept None (Some u) e = absurd (true≢false (sym e))
nothing_kept (Some u) None e = absurd (true≢false e)
nothing_kept (Some u) (Some v) e = refl

-- sets with the same keys are one
pub same_sets : (s t : KeySet) → ((q : Bytes) → has s q ≡ has t q) → s ≡ t
same_sets s t h = fin.same_map nat_list_cmp_total (fin.slice_cmp-IsAntisymmetric fin.nat_cmp-IsAntisymmetric) s t (λ q. nothing_kept _ _ (h q))

put_or : (b : Bool) (x : Option (Unit {0})) → is_some (cond b (Some tt) x) ≡ (b || is_some x)
put_or true x = refl
put_or false x = refl

or_false : (a : Bool) → (a || false) ≡ a
or_false true = refl
or_false false = refl

or_regroup : (a b c : Bool) → (a || (b || c)) ≡ ((a || b) || c)
or_regroup true b c = refl
or_regroup false b c = refl

or_comm : (a b : Bool) → (a || b) ≡ (b || a)
or_comm true true = refl
or_comm true false = refl
or_comm false true = refl
or_comm false false = refl

pub has-with_key : (s : KeySet) (k q : Bytes) → has (with_member s k) q ≡ (same q k || has s q)
has-with_key s k q = ap is_some (fin.get-insert nat_list_cmp_total s k tt q) ∙ put_or _ _ ∙ ap (λ b. b || has s q) (sym (texts_ties q k))

pub has-with_keys : (s : KeySet) (ks : List Bytes) (q : Bytes) → has (with_members s ks) q ≡ (list_any (same q) ks || has s q)
has-with_keys s [] q = refl
has-with_keys s (k ∷ ks) q = has-with_key (with_members s ks) k q ∙ ap (λ b. same q k || b) (has-with_keys s ks q) ∙ or_regroup (same q k) (list_any (same q) ks) (has s q)

has-no_keys : (q : Bytes) → has empty_set q ≡ false
has-no_keys q = ap is_some (fin.get-empty by_bytes q)

-- the set of a list has the keys of the list
pub has-set_of : (ks : List Bytes) (q : Bytes) → has (set_of ks) q ≡ list_any (same q) ks
has-set_of ks q = has-with_keys empty_set ks q ∙ ap (λ b. list_any (same q) ks || b) (has-no_keys q) ∙ or_false _

any_ties : (q : Bytes) (ks : List Bytes) → list_any (same q) ks ≡ list_any (eq_by_cmp by_bytes q) ks
any_ties q ks = λ i. list_any (λ x. texts_ties q x i) ks

pub has-union : (s t : KeySet) (q : Bytes) → has (union s t) q ≡ (has t q || has s q)
has-union s t q = has-with_keys s (keys_of t) q ∙ ap (λ b. b || has s q) (any_ties q (keys_of t) ∙ sym (fin.contains_key-keys t q))

any_push : (p : Bytes → Bool) (ks : List Bytes) (k : Bytes) → list_any p (ks ++ k ∷ []) ≡ (p k || list_any p ks)
any_push p [] k = refl
any_push p (x ∷ ks) k = ap (λ b. p x || b) (any_push p ks k) ∙ or_regroup (p x) (p k) (list_any p ks) ∙ ap (λ b. b || list_any p ks) (or_comm (p x) (p k)) ∙
    sym (or_regroup (p k) (p x) (list_any p ks))

pub set_of-push : (ks : List Bytes) (k : Bytes) → set_of (ks ++ k ∷ []) ≡ with_member (set_of ks) k
set_of-push ks k =
    same_sets _ _ (λ q. has-set_of (ks ++ k ∷ []) q ∙ any_push (same q) ks k ∙ sym (has-with_key (set_of ks) k q ∙ ap (λ b. same q k || b) (has-set_of ks q)))

there_already : (s : KeySet) (k q : Bytes) → has s k ≡ true → (b : Bool) → same q k ≡ b → (b || has s q) ≡ has s q
there_already s k q h true e = sym (ap is_some (sym (fin.get_tied nat_list_cmp_total s q k ((Equal-is (by_bytes q k)).0 (sym (texts_ties q k) ∙ e)))) ∙ h)
there_already s k q h false e = refl

-- a key that is there adds nothing
pub with_key-present : (s : KeySet) (k : Bytes) → has s k ≡ true → with_member s k ≡ s
with_key-present s k h = same_sets _ _ (λ q. has-with_key s k q ∙ there_already s k q h (same q k) refl)

pub union-with_key : (s t : KeySet) (k : Bytes) → with_member (union s t) k ≡ union s (with_member t k)
union-with_key s t k =
    same_sets _ _ (λ q.
    has-with_key (union s t) k q ∙ ap (λ b. same q k || b) (has-union s t q) ∙ or_regroup (same q k) (has t q) (has s q)
    ∙ ap (λ b. b || has s q) (sym (has-with_key t k q))
    ∙ sym (has-union s (with_member t k) q))

pub union-no_keys : (s : KeySet) → union s empty_set ≡ s
union-no_keys s = same_sets _ _ (λ q. has-union s empty_set q ∙ ap (λ b. b || has s q) (has-no_keys q))

none_same : (k : Bytes) (ks : List Bytes) → AllByRecursion (λ y. same k y ≡ false) ks → list_any (same k) ks ≡ false
none_same k [] h = refl
none_same k (x ∷ ks) h = ap (λ b. b || list_any (same k) ks) h.0 ∙ none_same k ks h.1

one_more : (n m : ℕ) → n ≡ m → n + 1 ≡ suc m
one_more n m e = omega arith

-- of keys that are there once, the set has as many as the list
pub count-set_of : (ks : List Bytes) → IsDistinct same ks → count (set_of ks) ≡ length ks
count-set_of [] h = fin.len-empty by_bytes (Unit {0})
count-set_of (k ∷ ks) h =
    fin.len-insert nat_list_cmp_total (set_of ks) k tt
    ∙ ap (λ b. cond b (count (set_of ks)) (count (set_of ks) + 1)) (has-set_of ks k ∙ none_same k ks (IsDistinct-head same k ks h))
    ∙ one_more _ _ (count-set_of ks (IsDistinct-tail same k ks h))

-- keys with nothing kept for each
abbrev bare : List Bytes → List (Bytes × Unit {0})
bare [] = []
bare (k ∷ ks) = (k, tt) ∷ bare ks

keys_bare : (ks : List Bytes) → map (λ e. e.0) (bare ks) ≡ ks
keys_bare [] = refl
keys_bare (k ∷ ks) = ap (λ xs. k ∷ xs) (keys_bare ks)

both : (a b : Bool) → T a → T b → T (a && b)
both true b x y = y
both false b x y = x

below_those : (k : Bytes) (ks : List Bytes) → AllByRecursion (λ y. by_bytes k y ≡ Less) ks → T (below_all by_bytes k (bare ks))
below_those k [] h = tt
below_those k (x ∷ ks) h = both (is_lt (by_bytes k x)) (below_all by_bytes k (bare ks)) (subst (λ r. T (is_lt r)) (sym h.0) tt) (below_those k ks h.1)

is_sorted-bare : (ks : List Bytes) → IsStrictlySortedBy by_bytes ks → T (fin.is_sorted by_bytes (bare ks))
is_sorted-bare [] h = tt
is_sorted-bare (k ∷ ks) h = both (below_all by_bytes k (bare ks)) (fin.is_sorted by_bytes (bare ks)) (below_those k ks (sorted_head by_bytes k ks h)) (is_sorted-bare ks (sorted_tail by_bytes k ks h))

set_of-sorted : (ks : List Bytes) → IsStrictlySortedBy by_bytes ks → set_of ks ≡ fin.from_sorted (bare ks)
set_of-sorted ks h =
    same_sets _ _ (λ q.
    has-set_of ks q ∙ any_ties q ks
    ∙ sym (ap is_some (fin.get-from_sorted by_bytes (bare ks) q (is_sorted-bare ks h)) ∙ is_some-find by_bytes q (bare ks) ∙ ap (list_any (eq_by_cmp by_bytes q)) (keys_bare ks)))

-- keys in their order are the list of their set
pub keys_of-set_of : (ks : List Bytes) → IsStrictlySortedBy by_bytes ks → keys_of (set_of ks) ≡ ks
keys_of-set_of ks h =
    ap (map (λ e. e.0)) (ap fin.entries (set_of-sorted ks h) ∙ fin.entries-from_sorted by_bytes (bare ks) (is_sorted-bare ks h)) ∙ keys_bare ks

length-bare : (ks : List Bytes) → length (bare ks) ≡ length ks
length-bare [] = refl
length-bare (k ∷ ks) = ap suc (length-bare ks)

pub count-sorted : (ks : List Bytes) → IsStrictlySortedBy by_bytes ks → count (set_of ks) ≡ length ks
count-sorted ks h =
    fin.len-entries (set_of ks) ∙ ap length (ap fin.entries (set_of-sorted ks h) ∙ fin.entries-from_sorted by_bytes (bare ks) (is_sorted-bare ks h)) ∙ length-bare ks

pub set_of-permutation : (xs ys : List Bytes) → IsPermutation xs ys → set_of ys ≡ set_of xs
set_of-permutation xs ys h = same_sets _ _ (λ q. has-set_of ys q ∙ sym (list_any-IsPermutation (same q) xs ys h) ∙ sym (has-set_of xs q))

rises : (r : Ordering) → is_lt (ordering_reverse r) ≡ false → is_eq r ≡ false → r ≡ Less
rises Less a b = refl
rises Equal a b = absurd (true≢false b)
rises Greater a b = absurd (true≢false a)

-- distinct keys, once they are sorted, rise
pub rise_from_sort : (xs ys : List Bytes) → IsPermutation xs ys → IsSorted by_bytes ys → IsDistinct same xs → IsStrictlySortedBy by_bytes ys
rise_from_sort xs ys moved sorted distinct =
    let apart = IsDistinct-IsPermutation same nat_list_eq_equiv.symm xs ys moved distinct in
    sorted_from_all_adjacent nat_list_cmp_total ys [] (λ k h.
    rises (by_bytes (get_or ys k []) (get_or ys (k + 1) []))
    (ap is_lt (sym (nat_list_cmp_total.antisymm (get_or ys (k + 1) []) (get_or ys k []))) ∙ sorted k [] (omega arith) h)
    (sym (texts_ties (get_or ys k []) (get_or ys (k + 1) [])) ∙ apart_from_distinct same ys k (k + 1) [] apart (omega arith) h))

not_lower : (r s : Ordering) → r ≡ ordering_reverse s → s ≡ Less → is_lt r ≡ false
not_lower r s e h = ap is_lt (e ∙ ap ordering_reverse h)

searchable : (ks : List Bytes) → IsStrictlySortedBy by_bytes ks → IsSorted by_bytes ks
searchable ks h k d low high =
    not_lower _ _ (nat_list_cmp_total.antisymm (get_or ks (k + 1) d) (get_or ks k d)) (Less-from_sorted by_bytes ks k (k + 1) d h (omega arith) high)

not_same : (r : Ordering) (x q : Bytes) → by_bytes x q ≡ r → is_eq r ≡ false → same q x ≡ false
not_same r x q e h = nat_list_eq_equiv.symm q x ∙ texts_ties x q ∙ ap is_eq e ∙ h

-- a binary search finds a key exactly where the set has it
pub is_ok-search : (ks : List Bytes) (q : Bytes) (r : Result ℕ ℕ) → IsStrictlySortedBy by_bytes ks → IsSearchInRange r (length ks) → IsBinarySearchResult (λ y. by_bytes y q) ks r →
    is_ok r ≡ has (set_of ks) q
is_ok-search ks q (Ok i) sorted within at =
    sym (has-set_of ks q ∙ list_any_at (same q) ks i [] within (nat_list_eq_equiv.symm q (get_or ks i []) ∙ texts_ties (get_or ks i []) q ∙ ap is_eq (at [])))
is_ok-search ks q (Err i) sorted within at =
    let parts = at (searchable_from_sorted nat_list_cmp_total (λ x. x) ks q (searchable ks sorted)) in
    sym (has-set_of ks q ∙ list_any_none (same q) ks (λ k d h.
    elim (cases_lt k i) [
      | inl low ↦ not_same Less (get_or ks k d) q (parts.0 k d (omega arith) low) refl
      | inr high ↦ not_same Greater (get_or ks k d) q (parts.1 k d high h) refl
    ]))

pub no_keys_rise : (ks : List Bytes) → ks ≡ [] → IsStrictlySortedBy by_bytes ks
unfolding IsStrictlySortedBy
no_keys_rise ks e = subst (IsStrictlySortedBy by_bytes) (sym e) tt

pub no_keys_once : (ks : List Bytes) → ks ≡ [] → IsDistinct same ks
unfolding IsDistinct
no_keys_once ks e = subst (IsDistinct same) (sym e) tt

-- a new key goes last
pub set_of-insert_key : (ks : List Bytes) (k : Bytes) → list_any (same k) ks ≡ false → set_of (insert_key same ks k) ≡ with_member (set_of ks) k
set_of-insert_key ks k absent = ap (λ b. set_of (if b then ks else ks ++ k ∷ [])) absent ∙ set_of-push ks k

-- what holds of an Ok, where the result isn't an Err
pub not_err : {X E P : Type 0} (r : Result X E) → is_err r ≡ false → IfOk r (λ _. P) → P
not_err (Ok x) e p = p
not_err (Err y) e p = absurd (true≢false e)

pub filled : (ok : Bool) (xs ys zs : List Bytes) → xs ≡ (if ok then ys ++ zs else ys) → ok ≡ true → ys ≡ [] → xs ≡ zs
filled ok xs ys zs e full none = e ∙ ap (λ b. if b then ys ++ zs else ys) full ∙ ap (λ l. l ++ zs) none

pub joined_within : (b : Bool) (old new places n : ℕ) → new ≡ old + (if b then 0 else 1) → n ≡ old → old ≤ places → (b ≡ false → 0 < places - n) → new ≤ places
joined_within true old new places n grown is within room = omega arith
joined_within false old new places n grown is within room = let free = room refl in omega arith

-- what a slice's get lends
pub copied_item : {X : Type 0} (xs : List X) (i : ℕ) (r : Option (Bor X)) → IsItemAt xs i r → option_copied r ≡ slice_get xs i
copied_item xs i None h = sym (slice_get_past xs i h.3)
copied_item xs i (Some x) h = sym (slice_get_read xs (length xs) i x.now refl h.3.0 (h.3.1 x.now))
