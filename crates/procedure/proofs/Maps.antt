-- A hash map by key as a finite map.
use Rattle.std.proofs.Common.{◌≡◌, ◌+◌, Bool, true, false, cond, List, [], ◌∷◌, length, Option, Some, None, is_some, refl, sym, ap, ◌∙◌, subst, T, IsTrue, ◌↔◌, Contains, inl, inr, nat_eq, arith}
use Rattle.std.proofs.lemmas.Map.{lookup-none}
use Rattle.std.proofs.lemmas.Map.Keys.{IsDistinct-head, IsDistinct-tail}
use Rattle.std.proofs.lemmas.Map.Views.{Contains-from_any, list_any-from_Contains}
use Rattle.std.specs.Prelude.{map, ◌&&◌}
use Rattle.std.specs.Ordering.{nat_cmp, eq_by_cmp, is_eq, is_lt}
use Rattle.std.specs.declared.cmp.Ordering.{Ordering}
use Rattle.std.specs.declared.cmp.Ordering.TheVariants.{Less, Equal, Greater}
use Rattle.std.specs.Cmp.{eq_by_cmp_equiv}
use Rattle.std.specs.Cmp.Lexicographic.{pointwise, slice_cmp, texts_ties, nat_list_cmp_total}
use Rattle.std.specs.FinMap.{empty, insert, remove, get, len, entries, from_entries, from_sorted, find, is_sorted, same_map, get-from_entries, get-insert, get-remove, get-empty, get-from_sorted, entries-from_sorted, contains_key-keys, len-empty, len-insert, slice_cmp-IsAntisymmetric, nat_cmp-IsAntisymmetric}
use Rattle.std.specs.FinMap.Entries.{below_all}
use Rattle.std.specs.List.{AllByRecursion, IsDistinct}
use Rattle.std.specs.Map.{lookup, keys_of}
use Rattle.procedure.specs.Bytes.{Bytes, same}
use Rattle.procedure.specs.Table.{KeyMap, with_pairs}
use Rattle.procedure.proofs.Base.{keys, same_keys, same_refl}

abbrev pub by_bytes : Bytes → Bytes → Ordering
by_bytes = slice_cmp nat_cmp

-- the map of these entries
abbrev pub map_of : {X : Type 0} → List (Bytes × X) → KeyMap X
map_of es = from_entries {R = by_bytes} es

pub same_key_map : {X : Type 0} (m n : KeyMap X) → ((q : Bytes) → get m q ≡ get n q) → m ≡ n
same_key_map m n h = same_map nat_list_cmp_total (slice_cmp-IsAntisymmetric nat_cmp-IsAntisymmetric) m n h

-- what a hash map has at a key
abbrev pub at_key : {X : Type 0} → List (Bytes × X) → Bytes → Option X
at_key es q = lookup (pointwise nat_eq q) es

find_lookup : {X : Type 0} (q : Bytes) (es : List (Bytes × X)) → find by_bytes q es ≡ at_key es q
find_lookup q [] = refl
find_lookup q (e ∷ es) =
    ap (cond (eq_by_cmp by_bytes q e.0) (Some e.1)) (find_lookup q es)
    ∙ ap (λ b. cond b (Some e.1) (at_key es q)) (sym (texts_ties q e.0))

-- a look-up in the one is a look-up in the other
pub get-map_of : {X : Type 0} (es : List (Bytes × X)) (q : Bytes) → get (map_of es) q ≡ at_key es q
get-map_of es q = get-from_entries nat_list_cmp_total es q ∙ find_lookup q es

-- the same of the finite map that contracts see
pub get-view : {X : Type 0} (es : List (Bytes × X)) (m : KeyMap X) → map_of es ≡ m → (q : Bytes) → get m q ≡ at_key es q
get-view {X} es m shown q = ap (λ (n : KeyMap X). get n q) (sym shown) ∙ get-map_of es q

-- as many keys as entries, where no key stands twice
abbrev pub IsOnce : {X : Type 0} → List (Bytes × X) → Type 0
IsOnce es = IsDistinct (pointwise nat_eq) (keys_of es)

others : {X : Type 0} (k : Bytes) (es : List (Bytes × X)) → AllByRecursion (λ y. pointwise nat_eq k y ≡ false) (keys_of es) → AllByRecursion (λ (e : Bytes × X). pointwise nat_eq k e.0 ≡ false) es
others k [] h = tt
others k (e ∷ es) h = (h.0, others k es h.1)

pub len-map_of : {X : Type 0} (es : List (Bytes × X)) → IsOnce es → len (map_of es) ≡ length es
len-map_of {X} [] once = len-empty by_bytes X
len-map_of {X} (e ∷ es) once =
    let none = get-map_of es e.0 ∙ lookup-none (pointwise nat_eq e.0) es (others e.0 es (IsDistinct-head (pointwise nat_eq) e.0 (keys_of es) once)) in
    let rest = len-map_of es (IsDistinct-tail (pointwise nat_eq) e.0 (keys_of es) once) in
    len-insert nat_list_cmp_total (map_of es) e.0 e.1
    ∙ ap (λ (o : Option X). cond (is_some o) (len (map_of es)) (len (map_of es) + 1)) none
    ∙ (omega arith)

pub map_of-sorted : {X : Type 0} (es : List (Bytes × X)) → T (is_sorted by_bytes es) → map_of es ≡ from_sorted es
map_of-sorted es h = same_key_map _ _ (λ q. get-from_entries nat_list_cmp_total es q ∙ sym (get-from_sorted by_bytes es q h))

pub entries-map_of : {X : Type 0} (es : List (Bytes × X)) → T (is_sorted by_bytes es) → entries (map_of es) ≡ es
entries-map_of es h = ap entries (map_of-sorted es h) ∙ entries-from_sorted by_bytes es h

turned : (k q : Bytes) → pointwise nat_eq k q ≡ eq_by_cmp by_bytes q k
turned k q = texts_ties k q ∙ (eq_by_cmp_equiv nat_list_cmp_total).symm k q

-- an insert and a removal in the one are those in the other
pub map_of-insert : {X : Type 0} (es fs : List (Bytes × X)) (k : Bytes) (v : X) → ((q : Bytes) → at_key fs q ≡ cond (pointwise nat_eq k q) (Some v) (at_key es q)) →
    map_of fs ≡ insert (map_of es) k v
map_of-insert es fs k v h =
    same_key_map _ _ (λ q.
    get-map_of fs q ∙ h q
    ∙ ap (λ b. cond b (Some v) (at_key es q)) (turned k q)
    ∙ ap (cond (eq_by_cmp by_bytes q k) (Some v)) (sym (get-map_of es q))
    ∙ sym (get-insert nat_list_cmp_total (map_of es) k v q))

pub map_of-remove : {X : Type 0} (es fs : List (Bytes × X)) (k : Bytes) → ((q : Bytes) → at_key fs q ≡ cond (pointwise nat_eq k q) None (at_key es q)) → map_of fs ≡ remove (map_of es) k
map_of-remove es fs k h =
    same_key_map _ _ (λ q.
    get-map_of fs q ∙ h q
    ∙ ap (λ b. cond b None (at_key es q)) (turned k q)
    ∙ ap (cond (eq_by_cmp by_bytes q k) None) (sym (get-map_of es q))
    ∙ sym (get-remove nat_list_cmp_total (map_of es) k q))

-- pairs whose keys strictly rise, inserted in turn
lower : (r : Ordering) → T (is_lt r) → is_eq r ≡ false
lower Less h = refl
lower Equal h = absurd h
lower Greater h = absurd h

pub parts : (a b : Bool) → T (a && b) → T a × T b
parts true b h = (tt, h)
parts false b h = absurd h

absent_below : {X : Type 0} (k : Bytes) (es : List (Bytes × X)) → T (below_all by_bytes k es) → find by_bytes k es ≡ None
absent_below k [] h = refl
absent_below k (e ∷ es) h =
    let (here, there) = parts (is_lt (by_bytes k e.0)) (below_all by_bytes k es) h in
    ap (λ b. cond b (Some e.1) (find by_bytes k es)) (lower (by_bytes k e.0) here) ∙ absent_below k es there

abbrev first_of_two : {X : Type 0} → Option X → Option X → Option X
first_of_two None o = o
first_of_two (Some x) o = Some x

-- a key that comes before all others may as well come after them
either_order : {X : Type 0} (q k : Bytes) (v : X) (es : List (Bytes × X)) (o : Option X) → find by_bytes k es ≡ None →
    first_of_two (find by_bytes q es) (cond (eq_by_cmp by_bytes q k) (Some v) o) ≡ first_of_two (cond (eq_by_cmp by_bytes q k) (Some v) (find by_bytes q es)) o
unfolding same
either_order q k v es o none =
    elim (keys q k) [
      | inl e ↦
          subst (λ x. first_of_two (find by_bytes x es) (cond (same x k) (Some v) o) ≡ first_of_two (cond (same x k) (Some v) (find by_bytes x es)) o) (sym e)
          ((λ i. first_of_two (none i) (cond (same_refl k i) (Some v) o)) ∙ sym (ap (λ b. first_of_two (cond b (Some v) (find by_bytes k es)) o) (same_refl k)))
      | inr f ↦ ap (λ b. first_of_two (find by_bytes q es) (cond b (Some v) o)) f ∙ sym (ap (λ b. first_of_two (cond b (Some v) (find by_bytes q es)) o) f)
    ]

get-with_pairs : {X : Type 0} (m : KeyMap X) (es : List (Bytes × X)) → T (is_sorted by_bytes es) → (q : Bytes) → get (with_pairs m es) q ≡ first_of_two (find by_bytes q es) (get m q)
get-with_pairs m [] h q = refl
get-with_pairs m (e ∷ es) h q =
    let (below, rest) = parts (below_all by_bytes e.0 es) (is_sorted by_bytes es) h in
    get-with_pairs (insert m e.0 e.1) es rest q
    ∙ ap (first_of_two (find by_bytes q es)) (get-insert nat_list_cmp_total m e.0 e.1 q)
    ∙ either_order q e.0 e.1 es (get m q) (absent_below e.0 es below)

first_or_none : {X : Type 0} (o : Option X) → first_of_two o None ≡ o
first_or_none None = refl
first_or_none (Some x) = refl

pub entries-with_pairs : {X : Type 0} (es : List (Bytes × X)) → T (is_sorted by_bytes es) → entries (with_pairs empty es) ≡ es
entries-with_pairs es h =
    ap entries (same_key_map (with_pairs empty es) (from_sorted es) (λ q.
    get-with_pairs empty es h q
    ∙ ap (first_of_two (find by_bytes q es)) (get-empty by_bytes q)
    ∙ first_or_none (find by_bytes q es)
    ∙ sym (get-from_sorted by_bytes es q h)))
    ∙ entries-from_sorted by_bytes es h

tells_apart : (x y : Bytes) → eq_by_cmp by_bytes x y ≡ true → x ≡ y
unfolding same
tells_apart x y e = same_keys x y e

-- the keys of a map are those at which it holds something
pub Contains-keys : {X : Type 0} (m : KeyMap X) (q : Bytes) → Contains (map (λ e. e.0) (entries m)) q ↔ IsTrue (is_some (get m q))
Contains-keys m q = (
  λ c. contains_key-keys m q ∙ list_any-from_Contains (eq_by_cmp_equiv nat_list_cmp_total) q _ c,
  λ h. Contains-from_any tells_apart q _ (sym (contains_key-keys m q) ∙ h),
)
