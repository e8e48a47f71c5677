-- Keys decide, and what a table holds after a change.
use Rattle.std.proofs.Common.{◌≡◌, Bool, true, false, cond, List, [], ◌∷◌, ◌++◌, Option, Some, None, refl, sym, ap, ◌∙◌, ◌⊎◌, inl, inr, true≢false, is_eq, nat_eq, Ordering, Less, Equal, Greater, nat_cmp}
use Rattle.std.specs.Cmp.{tied_itself}
use Rattle.std.specs.Cmp.Lexicographic.{slice_cmp, nat_list_cmp_total, pointwise, texts_ties}
use Rattle.std.specs.FinMap as map
use Rattle.std.specs.Ordering.{eq_by_cmp}
use Rattle.procedure.specs.Bytes.{Bytes, Cell, same}
use Rattle.procedure.specs.Table.{Table, Changes, value_at, change_at, changed_or, no_changes, no_table, with_change, with_cell, with_cells, merged}

equal_of : (r : Ordering) → is_eq r ≡ true → r ≡ Equal
equal_of Less e = absurd (true≢false (sym e))
equal_of Equal e = refl
equal_of Greater e = absurd (true≢false (sym e))

pub same_keys : (x y : Bytes) → same x y ≡ true → x ≡ y
unfolding same
same_keys x y e = map.slice_cmp-IsAntisymmetric map.nat_cmp-IsAntisymmetric x y (equal_of (slice_cmp nat_cmp x y) e)

pub same_refl : (x : Bytes) → same x x ≡ true
unfolding same
same_refl x = ap is_eq (tied_itself nat_list_cmp_total x)

same_cases : (b : Bool) (x y : Bytes) → same x y ≡ b → (x ≡ y) ⊎ (same x y ≡ false)
same_cases true x y e = inl (same_keys x y e)
same_cases false x y e = inr e

-- two keys are one, or their test fails
pub keys : (x y : Bytes) → (x ≡ y) ⊎ (same x y ≡ false)
keys x y = same_cases (same x y) x y refl

-- the code's test of two byte strings
pub same_pointwise : (x y : Bytes) → pointwise nat_eq x y ≡ same x y
unfolding same
same_pointwise x y = texts_ties x y

pub change_at-none : (q : Bytes) → change_at no_changes q ≡ None
unfolding no_changes
change_at-none q = map.get-empty (slice_cmp nat_cmp) q

pub change_at-with : (c : Changes) (k : Bytes) (v : Cell) (q : Bytes) → change_at (with_change c k v) q ≡ cond (same q k) (Some v) (change_at c q)
unfolding with_change same
change_at-with c k v q = map.get-insert nat_list_cmp_total c k v q

pub value_at-with : (t : Table) (k : Bytes) (v : Cell) (q : Bytes) → value_at (with_cell t k v) q ≡ cond (eq_by_cmp (slice_cmp nat_cmp) q k) v (value_at t q)
value_at-with t k None q = map.get-remove nat_list_cmp_total t k q
value_at-with t k (Some v) q = map.get-insert nat_list_cmp_total t k v q

cond_changed_or : (b : Bool) (v : Cell) (o : Option Cell) (d : Cell) → cond b v (changed_or o d) ≡ changed_or (cond b (Some v) o) d
cond_changed_or true v o d = refl
cond_changed_or false v o d = refl

value_at-with_cells : (t : Table) (es : List (Bytes × Cell)) (q : Bytes) → value_at (with_cells t es) q ≡ changed_or (map.find (slice_cmp nat_cmp) q es) (value_at t q)
value_at-with_cells t [] q = refl
value_at-with_cells t (e ∷ es) q =
    value_at-with (with_cells t es) e.0 e.1 q
    ∙ ap (cond (eq_by_cmp (slice_cmp nat_cmp) q e.0) e.1) (value_at-with_cells t es q)
    ∙ cond_changed_or (eq_by_cmp (slice_cmp nat_cmp) q e.0) e.1 _ _

pub value_at-merged : (t : Table) (c : Changes) (q : Bytes) → value_at (merged t c) q ≡ changed_or (change_at c q) (value_at t q)
unfolding merged
value_at-merged t c q = value_at-with_cells t (map.entries c) q ∙ ap (λ o. changed_or o (value_at t q)) (sym (map.get-entries c q))

pub same_table : (t u : Table) → ((q : Bytes) → value_at t q ≡ value_at u q) → t ≡ u
same_table t u h = map.same_map nat_list_cmp_total (map.slice_cmp-IsAntisymmetric map.nat_cmp-IsAntisymmetric) t u h

-- to remove what isn't there changes nothing
pub remove_absent : (t : Table) (k : Bytes) → value_at t k ≡ None → with_cell t k None ≡ t
unfolding same
remove_absent t k absent = same_table _ _ (λ q. value_at-with t k None q ∙ stays q (same q k) (same_keys q k))
  where
    stays : (q : Bytes) (b : Bool) → (b ≡ true → q ≡ k) → cond b None (value_at t q) ≡ value_at t q
    stays q true h = sym (ap (value_at t) (h refl) ∙ absent)
    stays q false h = refl

pub value_at-no_table : (q : Bytes) → value_at no_table q ≡ None
unfolding no_table
value_at-no_table q = map.get-empty (slice_cmp nat_cmp) q

-- without changes the table stays
pub merged-no_changes : (t : Table) → merged t no_changes ≡ t
merged-no_changes t = same_table _ _ (λ q. value_at-merged t no_changes q ∙ ap (λ o. changed_or o (value_at t q)) (change_at-none q))

-- the last of some changes comes first
pub with_cells_push : (t : Table) (es : List (Bytes × Cell)) (k : Bytes) (x : Cell) → with_cells t (es ++ (k, x) ∷ []) ≡ with_cells (with_cell t k x) es
with_cells_push t [] k x = refl
with_cells_push t (e ∷ es) k x = ap (λ u. with_cell u e.0 e.1) (with_cells_push t es k x)

pub with_cells-entries : (t : Table) (c : Changes) → with_cells t (map.entries c) ≡ merged t c
unfolding merged
with_cells-entries t c = refl
