-- The entries of a table make a lawful full image, and those of a merged chain are a table's.
use Rattle.std.proofs.Common.{◌≡◌, ◌≤◌, ℕ, Bool, true, false, cond, List, [], ◌∷◌, map, Option, Some, None, T, IsSome, is_some, refl, sym, ap, ◌∙◌, subst}
use Rattle.std.specs.Ordering.{is_lt, eq_by_cmp}
use Rattle.std.specs.Option.{option_or, option_map}
use Rattle.std.specs.Cmp.Lexicographic.{nat_list_cmp_total}
use Rattle.std.specs.FinMap.{entries, entries_sorted, find, is_sorted, len, len-entries, get-empty, get-entries, get-from_entries, get-insert, get-remove, slice_cmp-IsAntisymmetric, nat_cmp-IsAntisymmetric}
use Rattle.std.specs.FinMap.Entries.{below_all, same_entries}
use Rattle.std.specs.List.{AllByRecursion}
use Rattle.std.proofs.lemmas.List.{length-map}
use Rattle.std.proofs.lemmas.List.Elements.{All-from_recursion}
use Rattle.procedure.specs.Bytes.{Bytes, Cell}
use Rattle.procedure.specs.Table.{Table, Changes, value_at, change_at, changed_or, no_table, with_cell, with_cells, merged}
use Rattle.image.specs.Images.{Entry, Image, IsLawfulImage, changes_of, entries_of, full_image}
use Rattle.image.specs.Merges.{table_of, table_with_images}
use Rattle.image.specs.Joins.{Say, present, said_by}
use Rattle.image.specs.declared.limits.TheConstants.{ENTRIES}
use Rattle.image.proofs.Rising.{by_bytes, both, parts}
use Rattle.image.proofs.Joins.{is_true, find_below, same_key}

-- pairs of keys and values as entries
abbrev pub shown : List (Bytes × Bytes) → List Entry
shown es = map (λ e. (e.0, Some e.1)) es

below_shown : (k : Bytes) (es : List (Bytes × Bytes)) → T (below_all by_bytes k es) → T (below_all by_bytes k (shown es))
below_shown k [] h = tt
below_shown k (e ∷ es) h =
    let (here, there) = parts (is_lt (by_bytes k e.0)) (below_all by_bytes k es) h in
    both (is_lt (by_bytes k e.0)) (below_all by_bytes k (shown es)) here (below_shown k es there)

pub sorted_shown : (es : List (Bytes × Bytes)) → T (is_sorted by_bytes es) → T (is_sorted by_bytes (shown es))
sorted_shown [] h = tt
sorted_shown (e ∷ es) h =
    let (first, rest) = parts (below_all by_bytes e.0 es) (is_sorted by_bytes es) h in
    both (below_all by_bytes e.0 (shown es)) (is_sorted by_bytes (shown es)) (below_shown e.0 es first) (sorted_shown es rest)

all_shown : (es : List (Bytes × Bytes)) → AllByRecursion (λ (e : Entry). IsSome e.1) (shown es)
all_shown [] = tt
all_shown (e ∷ es) = (refl, all_shown es)

pub lawful_full : (number place : ℕ) (t : Table) → len t ≤ ENTRIES → IsLawfulImage (full_image number place t)
lawful_full number place t few = record {
  few = subst (λ n. n ≤ ENTRIES) (len-entries t ∙ sym (length-map (entries t) (λ e. (e.0, Some e.1)))) few;
  rises = is_true _ (sorted_shown (entries t) (entries_sorted t));
  kind = (refl, All-from_recursion (λ (e : Entry). IsSome e.1) (entries_of t) (all_shown (entries t)));
}

-- what a table holds after changes
cond_changed_or : (b : Bool) (v : Cell) (o : Option Cell) (d : Cell) → cond b v (changed_or o d) ≡ changed_or (cond b (Some v) o) d
cond_changed_or true v o d = refl
cond_changed_or false v o d = refl

value_at-with_cell : (t : Table) (k : Bytes) (x : Cell) (q : Bytes) → value_at (with_cell t k x) q ≡ cond (eq_by_cmp by_bytes q k) x (value_at t q)
value_at-with_cell t k None q = get-remove nat_list_cmp_total t k q
value_at-with_cell t k (Some v) q = get-insert nat_list_cmp_total t k v q

pub value_at-with_cells : (t : Table) (es : List Entry) (q : Bytes) → value_at (with_cells t es) q ≡ changed_or (find by_bytes q es) (value_at t q)
value_at-with_cells t [] q = refl
value_at-with_cells t (e ∷ es) q =
    value_at-with_cell (with_cells t es) e.0 e.1 q
    ∙ ap (cond (eq_by_cmp by_bytes q e.0) e.1) (value_at-with_cells t es q)
    ∙ cond_changed_or (eq_by_cmp by_bytes q e.0) e.1 (find by_bytes q es) (value_at t q)

value_at-merged : (t : Table) (c : Changes) (q : Bytes) → value_at (merged t c) q ≡ changed_or (change_at c q) (value_at t q)
unfolding merged
value_at-merged t c q = value_at-with_cells t (entries c) q ∙ ap (λ o. changed_or o (value_at t q)) (sym (get-entries c q))

pub value_at-no_table : (q : Bytes) → value_at no_table q ≡ None
unfolding no_table
value_at-no_table q = get-empty by_bytes q

-- what it holds after the changes of an image, and of several
pub value_at-changed : (t : Table) (i : Image) (q : Bytes) → value_at (merged t (changes_of i)) q ≡ changed_or (find by_bytes q i.entries) (value_at t q)
value_at-changed t i q = value_at-merged t (changes_of i) q ∙ ap (λ o. changed_or o (value_at t q)) (get-from_entries nat_list_cmp_total i.entries q)

pub in_turn : (a b : Option Cell) (x : Cell) → changed_or a (changed_or b x) ≡ changed_or (option_or a b) x
in_turn None b x = refl
in_turn (Some y) b x = refl

value_at-table_after : (t : Table) (ps : List Image) (q : Bytes) → value_at (table_with_images t ps) q ≡ changed_or (said_by ps q) (value_at t q)
value_at-table_after t [] q = refl
value_at-table_after t (p ∷ ps) q =
    value_at-table_after (merged t (changes_of p)) ps q
    ∙ ap (changed_or (said_by ps q)) (value_at-changed t p q)
    ∙ in_turn (said_by ps q) (find by_bytes q p.entries) (value_at t q)

pub value_at-chain : (full : Image) (ps : List Image) (q : Bytes) → value_at (table_with_images (table_of full) ps) q ≡ changed_or (said_by (full ∷ ps) q) None
value_at-chain full ps q =
    value_at-table_after (table_of full) ps q
    ∙ ap (changed_or (said_by ps q)) (value_at-changed no_table full q ∙ ap (changed_or (find by_bytes q full.entries)) (value_at-no_table q))
    ∙ in_turn (said_by ps q) (find by_bytes q full.entries) None

-- what is present of a list in order
below_present : (k : Bytes) (es : List Entry) → T (below_all by_bytes k es) → T (below_all by_bytes k (present es))
below_present k [] h = tt
below_present k (e ∷ es) h =
    let (here, there) = parts (is_lt (by_bytes k e.0)) (below_all by_bytes k es) h in
    elim (is_some e.1) as (λ b. T (below_all by_bytes k (cond b (e ∷ present es) (present es)))) [
      | true ↦ both (is_lt (by_bytes k e.0)) (below_all by_bytes k (present es)) here (below_present k es there)
      | false ↦ below_present k es there
    ]

sorted_present : (es : List Entry) → T (is_sorted by_bytes es) → T (is_sorted by_bytes (present es))
sorted_present [] h = tt
sorted_present (e ∷ es) h =
    let (first, rest) = parts (below_all by_bytes e.0 es) (is_sorted by_bytes es) h in
    elim (is_some e.1) as (λ b. T (is_sorted by_bytes (cond b (e ∷ present es) (present es)))) [
      | true ↦ both (below_all by_bytes e.0 (present es)) (is_sorted by_bytes (present es)) (below_present e.0 es first) (sorted_present es rest)
      | false ↦ sorted_present es rest
    ]

-- a cell that is present
abbrev kept : Option Cell → Option Cell
kept None = None
kept (Some None) = None
kept (Some (Some v)) = Some (Some v)

kept_first : (b : Bool) (v : Bytes) (o : Option Cell) → cond b (Some (Some v)) (kept o) ≡ kept (cond b (Some (Some v)) o)
kept_first true v o = refl
kept_first false v o = refl

kept_gone : (b : Bool) (o : Option Cell) → (T b → o ≡ None) → kept o ≡ kept (cond b (Some None) o)
kept_gone true o h = ap kept (h tt)
kept_gone false o h = refl

find_present_cell : (q k : Bytes) (x : Cell) (es : List Entry) → T (below_all by_bytes k es) → find by_bytes q (present es) ≡ kept (find by_bytes q es) →
    find by_bytes q (cond (is_some x) ((k, x) ∷ present es) (present es)) ≡ kept (cond (eq_by_cmp by_bytes q k) (Some x) (find by_bytes q es))
find_present_cell q k (Some v) es below h = ap (cond (eq_by_cmp by_bytes q k) (Some (Some v))) h ∙ kept_first (eq_by_cmp by_bytes q k) v (find by_bytes q es)
find_present_cell q k None es below h = h ∙ kept_gone (eq_by_cmp by_bytes q k) (find by_bytes q es) (λ t. subst (λ k. find by_bytes k es ≡ None) (sym (same_key q k t)) (find_below k es below))

find_present : (q : Bytes) (es : List Entry) → T (is_sorted by_bytes es) → find by_bytes q (present es) ≡ kept (find by_bytes q es)
find_present q [] h = refl
find_present q (e ∷ es) h =
    let (first, rest) = parts (below_all by_bytes e.0 es) (is_sorted by_bytes es) h in
    find_present_cell q e.0 e.1 es first (find_present q es rest)

find_shown : (q : Bytes) (es : List (Bytes × Bytes)) → find by_bytes q (shown es) ≡ option_map (λ v. Some v) (find by_bytes q es)
find_shown q [] = refl
find_shown q (e ∷ es) = ap (cond (eq_by_cmp by_bytes q e.0) (Some (Some e.1))) (find_shown q es) ∙ cond_map (eq_by_cmp by_bytes q e.0) e.1 (find by_bytes q es)
  where
    cond_map : (b : Bool) (v : Bytes) (o : Cell) → cond b (Some (Some v)) (option_map (λ v. Some v) o) ≡ option_map (λ v. Some v) (cond b (Some v) o)
    cond_map true v o = refl
    cond_map false v o = refl

kept_is : (o : Option Cell) → kept o ≡ option_map (λ v. Some v) (changed_or o None)
kept_is None = refl
kept_is (Some None) = refl
kept_is (Some (Some v)) = refl

-- the entries that are present are those of the table that holds what the list says
pub present_is_table : (said : Bytes → Option Cell) (es : List Entry) (t : Table) → Say said es → ((q : Bytes) → value_at t q ≡ changed_or (said q) None) → present es ≡ entries_of t
present_is_table said es t h holds =
    let rises = subst T (sym h.rises) tt in
    same_entries by_bytes nat_list_cmp_total (slice_cmp-IsAntisymmetric nat_cmp-IsAntisymmetric) (present es) (entries_of t) (sorted_present es rises) (sorted_shown (entries t) (entries_sorted t))
    (λ q.
    find_present q es rises ∙ ap kept (h.finds q) ∙ kept_is (said q)
    ∙ ap (option_map (λ v. Some v)) (sym (holds q) ∙ get-entries t q)
    ∙ sym (find_shown q (entries t)))
