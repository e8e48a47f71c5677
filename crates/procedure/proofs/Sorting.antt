-- Entries of a hash map, once they are sorted by their keys.
use Rattle.std.proofs.Common.{◌≡◌, suc, ◌+◌, Bool, true, false, List, [], ◌∷◌, get_or, T, true≢false, refl, sym, ap, ◌∙◌, subst, nat_eq, arith}
use Rattle.std.specs.Prelude.{◌&&◌}
use Rattle.std.specs.Ordering.{is_eq, is_lt, ordering_reverse}
use Rattle.std.specs.declared.cmp.Ordering.{Ordering}
use Rattle.std.specs.declared.cmp.Ordering.TheVariants.{Less, Equal, Greater}
use Rattle.std.specs.Cmp.Lexicographic.{pointwise, texts_ties, nat_list_eq_equiv, nat_list_cmp_total}
use Rattle.std.specs.FinMap.{entries, is_sorted}
use Rattle.std.specs.FinMap.Entries.{below_all}
use Rattle.std.specs.List.Sorted.{IsPermutation, IsSortedByKey}
use Rattle.std.specs.Map.{keys_of}
use Rattle.std.proofs.lemmas.List.Sorted.{IsPermutation-map}
use Rattle.std.proofs.lemmas.Map.Keys.{IsDistinct-head, IsDistinct-tail, IsDistinct-IsPermutation}
use Rattle.indexmap.proofs.MapLemmas.{lookup_permutation}
use Rattle.procedure.specs.Bytes.{Bytes}
use Rattle.procedure.proofs.Maps.{IsOnce, by_bytes, entries-map_of, get-map_of, map_of, parts, same_key_map}

pub both : (a b : Bool) → T a → T b → T (a && b)
both true b x y = y
both false b x y = x

pub less_of : (r : Ordering) → T (is_lt r) → r ≡ Less
less_of Less h = refl
less_of Equal h = absurd h
less_of Greater h = absurd h

pub is_less : (r : Ordering) → r ≡ Less → T (is_lt r)
is_less r e = subst (λ r. T (is_lt r)) (sym e) tt

-- what is below a key is below all that it is below
pub below_through : {X : Type 0} (j k : Bytes) (es : List (Bytes × X)) → by_bytes j k ≡ Less → T (below_all by_bytes k es) → T (below_all by_bytes j es)
below_through j k [] lt h = tt
below_through j k (e ∷ es) lt h =
    let (here, there) = parts (is_lt (by_bytes k e.0)) (below_all by_bytes k es) h in
    both (is_lt (by_bytes j e.0)) (below_all by_bytes j es) (is_less _ (nat_list_cmp_total.trans j k e.0 lt (less_of _ here))) (below_through j k es lt there)

pub less : (r : Ordering) → is_lt (ordering_reverse r) ≡ false → is_eq r ≡ false → r ≡ Less
less Less a b = refl
less Equal a b = absurd (true≢false b)
less Greater a b = absurd (true≢false a)

pub shifted : (k : _) → suc k + 1 ≡ suc (k + 1)
shifted k = omega arith

-- sorted keys of which none stands twice rise
rising : {X : Type 0} (ys : List (Bytes × X)) → IsSortedByKey (λ (e : Bytes × X). e.0) by_bytes ys → IsOnce ys → T (is_sorted by_bytes ys)
rising [] sorted once = tt
rising (d ∷ []) sorted once = tt
rising (d ∷ e ∷ ys) sorted once =
    let apart = sym (texts_ties d.0 e.0) ∙ (IsDistinct-head (pointwise nat_eq) d.0 (keys_of (e ∷ ys)) once).0 in
    let lt : by_bytes d.0 e.0 ≡ Less = less (by_bytes d.0 e.0) (ap is_lt (sym (nat_list_cmp_total.antisymm e.0 d.0)) ∙ sorted 0 d (omega arith) (omega arith)) apart in
    let rest = rising (e ∷ ys)
    (λ k x low high. subst (λ j. is_lt (by_bytes (get_or (d ∷ e ∷ ys) j x).0 (get_or (e ∷ ys) k x).0) ≡ false) (shifted k) (sorted (suc k) x (omega arith) (omega arith)))
    (IsDistinct-tail (pointwise nat_eq) d.0 (keys_of (e ∷ ys)) once) in
    both (below_all by_bytes d.0 (e ∷ ys)) (is_sorted by_bytes (e ∷ ys))
    (both (is_lt (by_bytes d.0 e.0)) (below_all by_bytes d.0 ys) (is_less _ lt) (below_through d.0 e.0 ys lt (parts (below_all by_bytes e.0 ys) (is_sorted by_bytes ys) rest).0))
    rest

module _ {X : Type 0} (es ys : List (Bytes × X)) (moved : IsPermutation es ys) (once : IsOnce es) where
  still_once : IsOnce ys
  still_once = IsDistinct-IsPermutation (pointwise nat_eq) nat_list_eq_equiv.symm (keys_of es) (keys_of ys) (IsPermutation-map (λ (e : Bytes × X). e.0) es ys moved) once

  same_map_of : map_of ys ≡ map_of es
  same_map_of =
      same_key_map _ _ (λ q.
      get-map_of ys q ∙ lookup_permutation nat_list_eq_equiv es ys moved still_once (pointwise nat_eq q) (nat_list_eq_equiv.congr q) ∙ sym (get-map_of es q))

  -- the sorted entries are those of the map
  pub sorted_entries : IsSortedByKey (λ (e : Bytes × X). e.0) by_bytes ys → ys ≡ entries (map_of es)
  sorted_entries sorted = sym (entries-map_of ys (rising ys sorted still_once)) ∙ ap entries same_map_of
