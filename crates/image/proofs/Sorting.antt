-- Entries that came in any order, once they are sorted by their keys.
use Rattle.std.proofs.Common.{◌≡◌, ℕ, suc, ◌+◌, ◌≤◌, Bool, true, false, cond, ◌||◌, List, [], ◌∷◌, ◌++◌, length, map, get_or, Option, Some, None, is_some, ◌↔◌, T, inl, inr, ◌⊎◌, true≢false, refl, sym, ap, ◌∙◌, subst, arith}
use Rattle.std.specs.Prelude.{IfSome, IsSome}
use Rattle.std.specs.Ordering.{eq_by_cmp, is_lt}
use Rattle.std.specs.Cmp.{eq_by_cmp_equiv}
use Rattle.std.specs.Cmp.Lexicographic.{nat_list_cmp_total}
use Rattle.std.specs.FinMap as finite
use Rattle.std.specs.FinMap.{contains_key, find, get-empty, get-entries, get-insert, insert, entries, entries_sorted, is_sorted, len, len-empty, len-entries, len-insert, get-from_entries, same_map, slice_cmp-IsAntisymmetric, nat_cmp-IsAntisymmetric}
use Rattle.std.specs.FinMap.Entries.{is_some-find, same_entries}
use Rattle.std.specs.List.{AllByRecursion, Contains, IsDistinct, list_any}
use Rattle.std.specs.List.Sorted.{IsPermutation, IsSortedByKey}
use Rattle.std.proofs.lemmas.List.{length-append}
use Rattle.std.proofs.lemmas.List.Elements.{All-contains, Contains-append_right}
use Rattle.std.proofs.lemmas.List.Sorted.{Contains-permutation, IsPermutation-map, IsPermutation-refl, length_permutation, list_any-IsPermutation}
use Rattle.std.proofs.lemmas.Map.Keys.{IsDistinct-cons, IsDistinct-head, IsDistinct-tail, IsDistinct-IsPermutation}
use Rattle.procedure.specs.Bytes.{Bytes, Cell}
use Rattle.procedure.specs.Table.{Changes, change_at, with_pairs}
use Rattle.image.specs.Images.{AllPresent, Entry, Image, IsLawfulImage, Rises, SuitsKind, changes_of}
use Rattle.image.specs.Headers.{EachKeyOnce, map_of, of_captured}
use Rattle.image.specs.declared.images.Kind.{Kind}
use Rattle.image.specs.declared.images.Kind.TheVariants.{Full, Partial}
use Rattle.image.specs.declared.limits.TheConstants.{ENTRIES}
use Rattle.procedure.proofs.Sorting.{less, shifted}
use Rattle.image.proofs.Rising.{by_bytes, both, find_at, is_less, steps_up, steps_up-is_sorted}
use Rattle.image.proofs.Joins.{is_true, same_key}

abbrev same : Bytes → Bytes → Bool
same = eq_by_cmp by_bytes

abbrev keys_of : List Entry → List Bytes
keys_of es = map (λ e. e.0) es

same_some : {X : Type 0} {x y : X} → Some x ≡ Some y → x ≡ y
same_some e = cc

not_some : {X : Type 0} (o : Option X) → is_some o ≡ false → o ≡ None
not_some None e = refl
not_some (Some x) e = absurd (true≢false e)

-- ---- what the map holds stands among the entries

-- an entry of the list, or of the map before
from_pairs : (m : Changes) (es : List Entry) (q : Bytes) (x : Cell) → change_at (with_pairs m es) q ≡ Some x → (change_at m q ≡ Some x) ⊎ Contains es (q, x)
from_pairs m [] q x e = inl e
from_pairs m (d ∷ es) q x e = later (from_pairs (insert m d.0 d.1) es q x e)
  where
    here : (b : Bool) → same q d.0 ≡ b → cond b (Some d.1) (change_at m q) ≡ Some x → (change_at m q ≡ Some x) ⊎ Contains (d ∷ es) (q, x)
    here true t f = inr (0, omega arith, (λ i. (sym (same_key q d.0 (subst T (sym t) tt)) i, same_some f i)))
    here false t f = inl f

    later : (change_at (insert m d.0 d.1) q ≡ Some x) ⊎ Contains es (q, x) → (change_at m q ≡ Some x) ⊎ Contains (d ∷ es) (q, x)
    later (inl f) = here (same q d.0) refl (sym (get-insert nat_list_cmp_total m d.0 d.1 q) ∙ f)
    later (inr c) = inr (Contains-append_right (d ∷ []) es (q, x) c)

held_stands : (es : List Entry) (q : Bytes) (x : Cell) → change_at (map_of es) q ≡ Some x → Contains es (q, x)
held_stands es q x e = only (from_pairs finite.empty es q x e)
  where
    no : None ≡ Some x → ⊥
    no f = cc

    only : (change_at finite.empty q ≡ Some x) ⊎ Contains es (q, x) → Contains es (q, x)
    only (inl f) = absurd (no (sym (get-empty by_bytes q) ∙ f))
    only (inr c) = c

put_or : (b c : Bool) (v : Cell) (o : Option Cell) → (c || is_some (cond b (Some v) o)) ≡ ((b || c) || is_some o)
put_or true true v o = refl
put_or true false v o = refl
put_or false c v o = refl

-- the map has the keys of the list, and those that it had before
keys_of-pairs : (m : Changes) (es : List Entry) (q : Bytes) → is_some (change_at (with_pairs m es) q) ≡ (list_any (same q) (keys_of es) || is_some (change_at m q))
keys_of-pairs m [] q = refl
keys_of-pairs m (d ∷ es) q =
    keys_of-pairs (insert m d.0 d.1) es q
    ∙ ap (λ (o : Option Cell). list_any (same q) (keys_of es) || is_some o) (get-insert nat_list_cmp_total m d.0 d.1 q)
    ∙ put_or (same q d.0) (list_any (same q) (keys_of es)) d.1 (change_at m q)

or_left : (a b : Bool) → (a || b) ≡ false → a ≡ false
or_left true b e = e
or_left false b e = refl

absent : (es : List Entry) (q : Bytes) → change_at (map_of es) q ≡ None → list_any (same q) (keys_of es) ≡ false
absent es q e = or_left _ _ (sym (keys_of-pairs finite.empty es q) ∙ ap (λ (o : Option Cell). is_some o) e)

-- ---- entries in order, of which some list is another order

stands_found : (q : Bytes) (x : Cell) (es : List Entry) → T (is_sorted by_bytes es) → Contains es (q, x) → find by_bytes q es ≡ Some x
stands_found q x es rises c = subst (λ (e : Entry). find by_bytes e.0 es ≡ Some e.1) c.2 (find_at es c.0 (q, x) rises c.1)

module _ (es ys : List Entry) (moved : IsPermutation es ys) where
  same_found : T (is_sorted by_bytes ys) → (q : Bytes) → find by_bytes q ys ≡ change_at (map_of es) q
  same_found rises q = held (change_at (map_of es) q) refl
    where
      held : (o : Option Cell) → change_at (map_of es) q ≡ o → find by_bytes q ys ≡ o
      held (Some x) e = stands_found q x ys rises (Contains-permutation es ys (q, x) moved (held_stands es q x e))
      held None e =
          not_some (find by_bytes q ys)
          (is_some-find by_bytes q ys ∙ sym (list_any-IsPermutation (same q) (keys_of es) (keys_of ys) (IsPermutation-map (λ (e : Entry). e.0) es ys moved)) ∙ absent es q e)

  pub are_entries : T (is_sorted by_bytes ys) → ys ≡ entries (map_of es)
  are_entries rises =
      same_entries by_bytes nat_list_cmp_total (slice_cmp-IsAntisymmetric nat_cmp-IsAntisymmetric) ys (entries (map_of es)) rises (entries_sorted (map_of es))
      (λ q. same_found rises q ∙ get-entries (map_of es) q)

  pub once_from_order : T (is_sorted by_bytes ys) → EachKeyOnce es
  once_from_order rises = len-entries (map_of es) ∙ ap length (sym (are_entries rises)) ∙ length_permutation es ys moved

-- ---- where no key comes twice, the sorted keys rise

at_most_one : (b : Bool) (old new : ℕ) → new ≡ cond b old (old + 1) → new ≤ old + 1
at_most_one true old new e = omega arith
at_most_one false old new e = omega arith

one_more : (b : Bool) (old new : ℕ) → new ≡ cond b old (old + 1) → old + 1 ≤ new → b ≡ false
one_more true old new e l = absurd (omega arith)
one_more false old new e l = refl

at_most : (m : Changes) (es : List Entry) → len (with_pairs m es) ≤ len m + length es
at_most m [] = omega arith
at_most m (d ∷ es) =
    let rest = at_most (insert m d.0 d.1) es in
    let one = at_most_one (contains_key m d.0) (len m) (len (insert m d.0 d.1)) (len-insert nat_list_cmp_total m d.0 d.1) in
    omega arith

new_key : (b : Bool) (v : Cell) (o : Option Cell) → is_some (cond b (Some v) o) ≡ false → (b ≡ false) × (is_some o ≡ false)
new_key true v o e = absurd (true≢false e)
new_key false v o e = (refl, e)

abbrev AreNew : Changes → List Bytes → Type 0
AreNew m ks = AllByRecursion (λ k. is_some (change_at m k) ≡ false) ks

still_new : (m : Changes) (d : Entry) (ks : List Bytes) → AreNew (insert m d.0 d.1) ks → AllByRecursion (λ k. same d.0 k ≡ false) ks × AreNew m ks
still_new m d [] h = (tt, tt)
still_new m d (k ∷ ks) h =
    let this = new_key (same k d.0) d.1 (change_at m k) (ap (λ (o : Option Cell). is_some o) (sym (get-insert nat_list_cmp_total m d.0 d.1 k)) ∙ h.0) in
    let rest = still_new m d ks h.1 in
    (((eq_by_cmp_equiv nat_list_cmp_total).symm d.0 k ∙ this.0, rest.0), (this.1, rest.1))

all_new : (m : Changes) (es : List Entry) → len (with_pairs m es) ≡ len m + length es → IsDistinct same (keys_of es) × AreNew m (keys_of es)
unfolding IsDistinct
all_new m [] e = (tt, tt)
all_new m (d ∷ es) e =
    let n = insert m d.0 d.1 in
    let grown = len-insert nat_list_cmp_total m d.0 d.1 in
    let most = at_most n es in
    let here : contains_key m d.0 ≡ false = one_more (contains_key m d.0) (len m) (len n) grown (omega arith) in
    let more : len n ≡ len m + 1 = grown ∙ ap (λ b. cond b (len m) (len m + 1)) here in
    let rest = all_new n es (omega arith) in
    let apart = still_new m d (keys_of es) rest.1 in
    (IsDistinct-cons same d.0 (keys_of es) apart.0 rest.0, (here, apart.1))

distinct : (es : List Entry) → EachKeyOnce es → IsDistinct same (keys_of es)
distinct es once = let none = len-empty by_bytes Cell in (all_new finite.empty es (omega arith)).0

rising : (ys : List Entry) → IsSortedByKey (λ (e : Entry). e.0) by_bytes ys → IsDistinct same (keys_of ys) → T (steps_up ys)
rising [] sorted apart = tt
rising (d ∷ []) sorted apart = tt
rising (d ∷ e ∷ ys) sorted apart =
    both (is_lt (by_bytes d.0 e.0)) (steps_up (e ∷ ys))
    (is_less _ (less (by_bytes d.0 e.0) (ap is_lt (sym (nat_list_cmp_total.antisymm e.0 d.0)) ∙ sorted 0 d (omega arith) (omega arith)) ((IsDistinct-head same d.0 (keys_of (e ∷ ys)) apart).0)))
    (rising (e ∷ ys)
    (λ k x low high. subst (λ j. is_lt (by_bytes (get_or (d ∷ e ∷ ys) j x).0 (get_or (e ∷ ys) k x).0) ≡ false) (shifted k) (sorted (suc k) x (omega arith) (omega arith)))
    (IsDistinct-tail same d.0 (keys_of (e ∷ ys)) apart))

module _ (kind : Kind) (number base place : ℕ) (es ys : List Entry) (moved : IsPermutation es ys) (sorted : IsSortedByKey (λ (e : Entry). e.0) by_bytes ys) where
  in_order : EachKeyOnce es → T (is_sorted by_bytes ys)
  in_order once =
      subst T (steps_up-is_sorted ys)
      (rising ys sorted (IsDistinct-IsPermutation same (eq_by_cmp_equiv nat_list_cmp_total).symm (keys_of es) (keys_of ys) (IsPermutation-map (λ (e : Entry). e.0) es ys moved) (distinct es once)))

  abbrev of : List Entry → Image
  of l = record { kind = kind; number = number; base = base; place = place; entries = l }

  rises : IsLawfulImage (of ys) → T (is_sorted by_bytes ys)
  rises lawful = subst T (sym lawful.rises) tt

  -- what the image of the sorted entries is, and where it is lawful
  pub is_of_captured : (r : Option Image) → IfSome r (λ i. i ≡ of ys) → (IsSome r ↔ IsLawfulImage (of ys)) → IfSome r (λ i. i ≡ of_captured kind number base place es)
  is_of_captured None is lawful = tt
  is_of_captured (Some i) is lawful = is ∙ ap of (are_entries es ys moved (rises (lawful.0 refl)))

  pub is_captured : (r : Option Image) → (IsSome r ↔ IsLawfulImage (of ys)) → IsSome r ↔ (EachKeyOnce es × IsLawfulImage (of_captured kind number base place es))
  is_captured r lawful = (
    λ s. let here = lawful.0 s in (once_from_order es ys moved (rises here), subst (λ l. IsLawfulImage (of l)) (are_entries es ys moved (rises here)) here),
    λ x. lawful.1 (subst (λ l. IsLawfulImage (of l)) (sym (are_entries es ys moved (in_order x.0))) x.1),
  )

-- entries that are in order already
module _ (kind : Kind) (number base place : ℕ) (es : List Entry) (ordered : Rises es) where
  abbrev unmoved : Image
  unmoved = record { kind = kind; number = number; base = base; place = place; entries = es }

  are_sorted : T (is_sorted by_bytes es)
  are_sorted = subst T (sym ordered) tt

  same_image : unmoved ≡ of_captured kind number base place es
  same_image = ap (λ (l : List Entry). record { kind = kind; number = number; base = base; place = place; entries = l }) (are_entries es es (IsPermutation-refl es) are_sorted)

  pub is_of_ordered : (r : Option Image) → IfSome r (λ i. i ≡ unmoved) → IfSome r (λ i. i ≡ of_captured kind number base place es)
  is_of_ordered None is = tt
  is_of_ordered (Some i) is = is ∙ same_image

  pub is_ordered : (r : Option Image) → (IsSome r ↔ IsLawfulImage unmoved) → IsSome r ↔ (EachKeyOnce es × IsLawfulImage (of_captured kind number base place es))
  is_ordered r lawful = (
    λ s. (once_from_order es es (IsPermutation-refl es) are_sorted, subst IsLawfulImage same_image (lawful.0 s)),
    λ x. lawful.1 (subst IsLawfulImage (sym same_image) x.1),
  )

-- ---- for the crates above: entries as they are captured one after another

pub changes_of-captured : (kind : Kind) (number base place : ℕ) (es : List Entry) → changes_of (of_captured kind number base place es) ≡ map_of es
changes_of-captured kind number base place es =
    same_map nat_list_cmp_total (slice_cmp-IsAntisymmetric nat_cmp-IsAntisymmetric) _ _
    (λ q. get-from_entries nat_list_cmp_total (entries (map_of es)) q ∙ sym (get-entries (map_of es) q))

with_pairs-push : (m : Changes) (es : List Entry) (e : Entry) → with_pairs m (es ++ e ∷ []) ≡ insert (with_pairs m es) e.0 e.1
with_pairs-push m [] e = refl
with_pairs-push m (d ∷ es) e = with_pairs-push (insert m d.0 d.1) es e

pub map_of-push : (es : List Entry) (k : Bytes) (x : Cell) → map_of (es ++ (k, x) ∷ []) ≡ insert (map_of es) k x
map_of-push es k x = with_pairs-push finite.empty es (k, x)

-- a key that wasn't captured
pub once-push : (es : List Entry) (k : Bytes) (x : Cell) → EachKeyOnce es → change_at (map_of es) k ≡ None → EachKeyOnce (es ++ (k, x) ∷ [])
once-push es k x once new =
    ap (λ (m : Changes). len m) (map_of-push es k x)
    ∙ len-insert nat_list_cmp_total (map_of es) k x
    ∙ ap (λ (o : Option Cell). cond (is_some o) (len (map_of es)) (len (map_of es) + 1)) new
    ∙ (let both = length-append es ((k, x) ∷ []) in omega arith)

-- entries that suit the kind make a lawful image
suits_sorted : (kind : Kind) (number base : ℕ) (es : List Entry) → SuitsKind kind number base es → SuitsKind kind number base (entries (map_of es))
suits_sorted Partial number base es below = below
suits_sorted Full number base es suits = (suits.0, present)
  where
    present : AllPresent (entries (map_of es))
    present k d within =
        let e = get_or (entries (map_of es)) k d in
        let held : change_at (map_of es) e.0 ≡ Some e.1 = get-entries (map_of es) e.0 ∙ find_at (entries (map_of es)) k d (entries_sorted (map_of es)) within in
        All-contains (λ (f : Entry). IsSome f.1) es (e.0, e.1) suits.1 (held_stands es e.0 e.1 held)

pub lawful_captured : (kind : Kind) (number base place : ℕ) (es : List Entry) → length es ≤ ENTRIES → EachKeyOnce es → SuitsKind kind number base es →
    IsLawfulImage (of_captured kind number base place es)
lawful_captured kind number base place es few once suits =
    record {
      few = subst (λ n. n ≤ ENTRIES) (sym once ∙ len-entries (map_of es)) few;
      rises = is_true _ (entries_sorted (map_of es));
      kind = suits_sorted kind number base es suits;
    }
