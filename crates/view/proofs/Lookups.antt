-- A hash map by key as a table.
use Rattle.std.proofs.Common.{◌≡◌, false, cond, OnOk, Ok, Err, true≢false, List, [], ◌∷◌, Some, None, refl, sym, ap, ◌∙◌, nat_eq}
use Rattle.std.specs.Ordering.{nat_cmp, eq_by_cmp}
use Rattle.std.specs.Cmp.{eq_by_cmp_equiv}
use Rattle.std.specs.Cmp.Lexicographic.{pointwise, slice_cmp, texts_ties, nat_list_cmp_total}
use Rattle.std.specs.FinMap.{find, get-from_entries, get-insert, get-remove}
use Rattle.std.specs.declared.result.Result.{Result}
use Rattle.std.specs.Result.{is_err}
use Rattle.std.specs.Map.{lookup}
use Rattle.procedure.specs.Bytes.{Bytes, Cell}
use Rattle.procedure.specs.Table.{Table, value_at, with_cell}
use Rattle.procedure.proofs.Maps.{map_of, same_key_map}

-- what a hash map has at a key
abbrev pub at_key : List (Bytes × Bytes) → Bytes → Cell
at_key es q = lookup (pointwise nat_eq q) es

find_lookup : (q : Bytes) (es : List (Bytes × Bytes)) → find (slice_cmp nat_cmp) q es ≡ at_key es q
find_lookup q [] = refl
find_lookup q (e ∷ es) =
    ap (cond (eq_by_cmp (slice_cmp nat_cmp) q e.0) (Some e.1)) (find_lookup q es)
    ∙ ap (λ b. cond b (Some e.1) (at_key es q)) (sym (texts_ties q e.0))

pub value_at-map_of : (es : List (Bytes × Bytes)) (q : Bytes) → value_at (map_of es) q ≡ at_key es q
value_at-map_of es q = get-from_entries nat_list_cmp_total es q ∙ find_lookup q es

turned : (k q : Bytes) → pointwise nat_eq k q ≡ eq_by_cmp (slice_cmp nat_cmp) q k
turned k q = texts_ties k q ∙ (eq_by_cmp_equiv nat_list_cmp_total).symm k q

value_at-with_cell : (t : Table) (k : Bytes) (x : Cell) (q : Bytes) → value_at (with_cell t k x) q ≡ cond (eq_by_cmp (slice_cmp nat_cmp) q k) x (value_at t q)
value_at-with_cell t k None q = get-remove nat_list_cmp_total t k q
value_at-with_cell t k (Some v) q = get-insert nat_list_cmp_total t k v q

-- a change of the one is that of the other
pub map_of-changed : (es fs : List (Bytes × Bytes)) (k : Bytes) (x : Cell) → ((q : Bytes) → at_key fs q ≡ cond (pointwise nat_eq k q) x (at_key es q)) →
    map_of fs ≡ with_cell (map_of es) k x
map_of-changed es fs k x h =
    same_key_map _ _ (λ q.
    value_at-map_of fs q ∙ h q
    ∙ ap (λ b. cond b x (at_key es q)) (turned k q)
    ∙ ap (cond (eq_by_cmp (slice_cmp nat_cmp) q k) x) (sym (value_at-map_of es q))
    ∙ sym (value_at-with_cell (map_of es) k x q))

pub when_ok : {X E P : Type 0} (r : Result X E) → is_err r ≡ false → OnOk r P → P
when_ok (Ok x) e p = p
when_ok (Err y) e p = absurd (true≢false e)
