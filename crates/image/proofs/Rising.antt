-- Entries in the order of their keys, and what is found among them.
use Rattle.std.proofs.Common.{◌≡◌, ℕ, zero, suc, ◌<◌, Bool, true, false, cond, List, [], ◌∷◌, length, get_or, Some, None, Result, Ok, Err, IsTrue, ◌↔◌, T, is_ge, slice_get, inl, inr, add-one, refl, sym, ap, ◌∙◌, subst, arith}
use Rattle.std.specs.Prelude.{◌&&◌}
use Rattle.std.specs.Ordering.{eq_by_cmp, is_eq, is_lt, ordering_reverse}
use Rattle.std.specs.declared.cmp.Ordering.{Ordering}
use Rattle.std.specs.declared.cmp.Ordering.TheVariants.{Less, Equal, Greater}
use Rattle.std.specs.Cmp.{tied_itself}
use Rattle.std.specs.Cmp.Lexicographic.{nat_list_cmp_total}
use Rattle.std.specs.FinMap.{find, is_sorted, get, from_entries, get-from_entries, slice_cmp-IsAntisymmetric, nat_cmp-IsAntisymmetric}
use Rattle.std.specs.FinMap.Entries.{below_all}
use Rattle.std.specs.List.Sorted.{IsSearchInRange, IsBinarySearchResult, IsSortedBy}
use Rattle.std.proofs.lemmas.List.Sorted.{searchable_from_sorted}
use Rattle.std.specs.Result.{MatchResult}
use Rattle.std.proofs.lemmas.Bool.{cases_lt}
use Rattle.procedure.specs.Bytes.{Bytes}
pub use Rattle.procedure.proofs.Maps.{by_bytes, parts}
pub use Rattle.procedure.proofs.Sorting.{below_through, both, is_less, less_of}

-- the next key is above this one
abbrev pub below_next : {X : Type 0} → Bytes → List (Bytes × X) → Bool
below_next k [] = true
below_next k (e ∷ es) = is_lt (by_bytes k e.0)

-- each key is below the next
abbrev pub steps_up : {X : Type 0} → List (Bytes × X) → Bool
steps_up [] = true
steps_up (e ∷ es) = below_next e.0 es && steps_up es

joined_tests : (a b c d : Bool) → (T a → T b → T c) → (a && (b && d)) ≡ ((a && c) && (b && d))
joined_tests true true true d f = refl
joined_tests true true false d f = absurd (f tt tt)
joined_tests true false true d f = refl
joined_tests true false false d f = refl
joined_tests false b c d f = refl

-- a list whose keys each are below the next rises
pub steps_up-is_sorted : {X : Type 0} (es : List (Bytes × X)) → steps_up es ≡ is_sorted by_bytes es
steps_up-is_sorted [] = refl
steps_up-is_sorted (e ∷ []) = refl
steps_up-is_sorted (e ∷ f ∷ es) =
    ap (λ b. is_lt (by_bytes e.0 f.0) && b) (steps_up-is_sorted (f ∷ es))
    ∙ joined_tests (is_lt (by_bytes e.0 f.0)) (below_all by_bytes f.0 es) (below_all by_bytes e.0 es) (is_sorted by_bytes es) (λ a b. below_through e.0 f.0 es (less_of _ a) b)

-- what the walk over the keys ends with
pub rises_from_walk : {X : Type 0} (rest all : List (Bytes × X)) → length rest ≡ 0 → steps_up rest ≡ steps_up all → IsTrue true ↔ IsTrue (is_sorted by_bytes all)
rises_from_walk [] all none same = (λ _. sym (steps_up-is_sorted all) ∙ sym same, λ _. refl)
rises_from_walk (e ∷ es) all none same = absurd (omega arith)

not_below : (r : Ordering) → is_ge r ≡ true → is_lt r ≡ false
not_below Less h = sym h
not_below Equal h = refl
not_below Greater h = refl

falls : {X : Type 0} (e f : Bytes × X) (tail : List (Bytes × X)) → slice_get tail 0 ≡ Some f → is_ge (by_bytes e.0 f.0) ≡ true → steps_up (e ∷ tail) ≡ false
falls e f [] at h = absurd (cc)
falls e f (x ∷ tail) at h =
    let same : x ≡ f = cc in
    ap (λ b. b && steps_up (x ∷ tail)) (ap (λ (y : _). is_lt (by_bytes e.0 y.0)) same ∙ not_below _ h)

pub no_rise_from_walk : {X : Type 0} (rest all : List (Bytes × X)) (e f : Bytes × X) (tail : List (Bytes × X)) → rest ≡ e ∷ tail → slice_get tail 0 ≡ Some f → is_ge (by_bytes e.0 f.0) ≡ true →
    steps_up rest ≡ steps_up all →
    IsTrue false ↔ IsTrue (is_sorted by_bytes all)
no_rise_from_walk rest all e f tail is at h same =
    let no : is_sorted by_bytes all ≡ false = sym (steps_up-is_sorted all) ∙ sym same ∙ ap steps_up is ∙ falls e f tail at h in
    (λ t. no ∙ t, λ t. sym no ∙ t)

-- a key is found where it stands
apart_above : (k q : Bytes) → by_bytes k q ≡ Less → eq_by_cmp by_bytes q k ≡ false
apart_above k q lt = ap is_eq (nat_list_cmp_total.antisymm q k ∙ ap ordering_reverse lt)

below_at : {X : Type 0} (k : Bytes) (es : List (Bytes × X)) (i : ℕ) (d : Bytes × X) → T (below_all by_bytes k es) → i < length es → by_bytes k (get_or es i d).0 ≡ Less
below_at k [] i d h lt = absurd (omega arith)
below_at k (e ∷ es) zero d h lt = less_of _ ((parts (is_lt (by_bytes k e.0)) (below_all by_bytes k es) h).0)
below_at k (e ∷ es) (suc i) d h lt = below_at k es i d ((parts (is_lt (by_bytes k e.0)) (below_all by_bytes k es) h).1) (omega arith)

pub find_at : {X : Type 0} (es : List (Bytes × X)) (i : ℕ) (d : Bytes × X) → T (is_sorted by_bytes es) → i < length es → find by_bytes (get_or es i d).0 es ≡ Some (get_or es i d).1
find_at [] i d h lt = absurd (omega arith)
find_at (e ∷ es) zero d h lt = ap (λ r. cond (is_eq r) (Some e.1) (find by_bytes e.0 es)) (tied_itself nat_list_cmp_total e.0)
find_at (e ∷ es) (suc i) d h lt =
    let (first, rest) = parts (below_all by_bytes e.0 es) (is_sorted by_bytes es) h in
    let q = (get_or es i d).0 in
    ap (λ b. cond b (Some e.1) (find by_bytes q es)) (apart_above e.0 q (below_at e.0 es i d first (omega arith)))
    ∙ find_at es i d rest (omega arith)

pub find_nowhere : {X : Type 0} (q : Bytes) (es : List (Bytes × X)) → ((i : ℕ) (d : Bytes × X) → i < length es → eq_by_cmp by_bytes q (get_or es i d).0 ≡ false) → find by_bytes q es ≡ None
find_nowhere q [] h = refl
find_nowhere q (e ∷ es) h =
    ap (λ b. cond b (Some e.1) (find by_bytes q es)) (h 0 e (omega arith))
    ∙ find_nowhere q es (λ i d lt. h (suc i) d (omega arith))

-- a list that rises is in the order that a binary search asks for
later_not_below : {X : Type 0} (es : List (Bytes × X)) → T (is_sorted by_bytes es) → (k : ℕ) (d : Bytes × X) → suc k < length es → is_lt (by_bytes (get_or es (suc k) d).0 (get_or es k d).0) ≡ false
later_not_below [] h k d high = absurd (omega arith)
later_not_below (e ∷ es) h zero d high =
    let (first, rest) = parts (below_all by_bytes e.0 es) (is_sorted by_bytes es) h in
    let q = (get_or es 0 d).0 in
    ap is_lt (nat_list_cmp_total.antisymm q e.0 ∙ ap ordering_reverse (below_at e.0 es 0 d first (omega arith)))
later_not_below (e ∷ es) h (suc k) d high =
    let (first, rest) = parts (below_all by_bytes e.0 es) (is_sorted by_bytes es) h in
    later_not_below es rest k d (omega arith)

in_search_order : {X : Type 0} (es : List (Bytes × X)) → T (is_sorted by_bytes es) → IsSortedBy (λ a b. is_lt (by_bytes a.0 b.0)) es
in_search_order es h k d low high = rw add-one (later_not_below es h k d (omega arith))

apart_below : (k q : Bytes) → by_bytes k q ≡ Greater → eq_by_cmp by_bytes q k ≡ false
apart_below k q gt = ap is_eq (nat_list_cmp_total.antisymm q k ∙ ap ordering_reverse gt)

-- what a binary search finds is what the map of the entries holds
pub searched : {X : Type 0} (es : List (Bytes × X)) → IsTrue (is_sorted by_bytes es) → (q : Bytes) (r : Result ℕ ℕ) → IsSearchInRange r (length es) → IsBinarySearchResult (λ e. by_bytes e.0 q) es r →
    MatchResult r (λ at. (d : Bytes × X) → get (from_entries {R = by_bytes} es) q ≡ Some (get_or es at d).1) (λ _. get (from_entries {R = by_bytes} es) q ≡ None)
searched es h q (Ok at) bound equal =
    λ d.
    let key : (get_or es at d).0 ≡ q = slice_cmp-IsAntisymmetric nat_cmp-IsAntisymmetric _ q (equal d) in
    get-from_entries nat_list_cmp_total es q
    ∙ subst (λ k. find by_bytes k es ≡ Some (get_or es at d).1) key (find_at es at d (subst T (sym h) tt) bound)
searched es h q (Err i) bound parted =
    let two = parted (searchable_from_sorted nat_list_cmp_total (λ e. e.0) es q (in_search_order es (subst T (sym h) tt))) in
    get-from_entries nat_list_cmp_total es q
    ∙ find_nowhere q es (λ j d lt. elim (cases_lt j i) [
      | inl before ↦ apart_above _ q (two.0 j d (omega arith) before)
      | inr after ↦ apart_below _ q (two.1 j d after lt)
    ])
