-- A few keys in a list, beside the map of the others.
use Rattle.std.proofs.Common.{◌≡◌, ℕ, zero, suc, ◌<◌, arith, inl, inr, Bool, true, false, cond, List, [], ◌∷◌, ◌++◌, length, drop, Option, Some, None, is_some, IsSome, refl, sym, ap, ◌∙◌, subst, nat_eq, get_or, slice_set, slice_get, Ok, Err, OnErr, OnOk}
use Rattle.std.proofs.lemmas.List.{map-append}
use Rattle.std.proofs.lemmas.List.Sorted.{Contains-permutation, IsPermutation-map, IsPermutation-swap_remove, IsPermutation-sym}
use Rattle.std.proofs.lemmas.Map.{lookup-none}
use Rattle.std.proofs.lemmas.Map.Entries.{lookup_from_place, lookup_head, lookup_tail, none_past_head}
use Rattle.std.proofs.lemmas.Map.Keys.{IsDistinct-IsPermutation, IsDistinct-push, IsDistinct-tail}
use Rattle.std.proofs.lemmas.Map.Made.{is_some-lookup}
use Rattle.std.proofs.lemmas.Map.Views.{Contains-from_lookup, lookup-from_Contains}
use Rattle.std.proofs.lemmas.Option.{get_or_from_slice_get, slice_get_read, slice_get_within}
use Rattle.std.specs.Cmp.{IsEquivalence}
use Rattle.std.specs.Cmp.Lexicographic.{nat_list_cmp_total, nat_list_eq_equiv, pointwise}
use Rattle.std.specs.FinMap.{empty, entries, get, get-empty, get-entries, get-from_entries}
use Rattle.std.specs.List.{IsDistinct, swap_remove}
use Rattle.std.specs.List.Sorted.{IsPermutation}
use Rattle.std.specs.Map.{keys_of}
use Rattle.std.specs.Option.{option_or}
use Rattle.std.specs.declared.result.Result.{Result}
use Rattle.procedure.specs.Bytes.{Bytes, same}
use Rattle.procedure.specs.Table.{KeyMap}
use Rattle.procedure.proofs.Base.{keys, same_keys, same_pointwise, same_refl}
use Rattle.procedure.proofs.Maps.{IsOnce, at_key, by_bytes, get-map_of, map_of, same_key_map}
use Rattle.locktable.specs.declared.holders.Holders.{Holders}
use Rattle.locktable.specs.Holders.{ChangesTo}
use Rattle.locktable.specs.Locks.{with_entry}
use Rattle.locktable.specs.Modes.{Mode}
use Rattle.locktable.specs.Tables.{IsApart, SetsMode}
use Rattle.locktable.proofs.Listing.{drop_next}
use Rattle.locktable.proofs.Lookups.{get-with_entry}

abbrev pub Pairs : Type 0
Pairs = List (Bytes × Holders)

laws : IsEquivalence (pointwise nat_eq)
laws = nat_list_eq_equiv

one_key : (x y : Bytes) → pointwise nat_eq x y ≡ true → x ≡ y
one_key x y e = same_keys x y (sym (same_pointwise x y) ∙ e)

or_none : (o : Option Holders) → option_or o None ≡ o
or_none None = refl
or_none (Some h) = refl

-- what two lists hold at a key
at_key-append : (es fs : Pairs) (q : Bytes) → at_key (es ++ fs) q ≡ option_or (at_key es q) (at_key fs q)
at_key-append [] fs q = refl
at_key-append (e ∷ es) fs q = ap (cond (pointwise nat_eq q e.0) (Some e.1)) (at_key-append es fs q) ∙ first (pointwise nat_eq q e.0)
  where
    first : (b : Bool) → cond b (Some e.1) (option_or (at_key es q) (at_key fs q)) ≡ option_or (cond b (Some e.1) (at_key es q)) (at_key fs q)
    first true = refl
    first false = refl

-- keys that stand once are found in any order of the list
module _ (es fs : Pairs) (moved : IsPermutation es fs) (once : IsOnce es) where
  once-moved : IsOnce fs
  once-moved = IsDistinct-IsPermutation (pointwise nat_eq) laws.symm (keys_of es) (keys_of fs) (IsPermutation-map (λ (e : Bytes × Holders). e.0) es fs moved) once

  found-moved : (q : Bytes) (v : Holders) → at_key es q ≡ Some v → at_key fs q ≡ Some v
  found-moved q v e = lookup-from_Contains laws q v fs once-moved (Contains-permutation es fs (q, v) moved (Contains-from_lookup one_key q v es e))

at_key-moved : (es fs : Pairs) → IsPermutation es fs → IsOnce es → (q : Bytes) → at_key es q ≡ at_key fs q
at_key-moved es fs moved once q = by (at_key es q) (at_key fs q) refl refl
  where
    by : (o p : Option Holders) → at_key es q ≡ o → at_key fs q ≡ p → o ≡ p
    by None None a b = refl
    by (Some v) p a b = sym (found-moved es fs moved once q v a) ∙ b
    by None (Some v) a b = sym a ∙ found-moved fs es (IsPermutation-sym es fs moved) (once-moved es fs moved once) q v b

-- a list of few keys becomes another, where one key has these holders, or none
pub record Changes (few after : Pairs) (k : Bytes) (those : Option Holders) : Type 0 where
  pub once : IsOnce after
  pub lookups : (q : Bytes) → at_key after q ≡ cond (same q k) those (at_key few q)

-- a key of the list goes
pub removes : (few : Pairs) (i : ℕ) (gone : Bytes × Holders) → i < length few → gone ≡ get_or few i gone → IsOnce few → Changes few (swap_remove few i gone) gone.0 None
removes few i gone within there once = record {
  once = IsDistinct-tail (pointwise nat_eq) gone.0 (keys_of rest) apart;
  lookups = λ q. elim (keys q gone.0) [
    | inl e ↦ ap (at_key rest) e ∙ lookup-none (pointwise nat_eq gone.0) rest (none_past_head laws gone.0 gone rest apart (same_pointwise gone.0 gone.0 ∙ same_refl gone.0))
        ∙ ap (λ b. cond b None (at_key few q)) (sym (ap (λ x. same x gone.0) e ∙ same_refl gone.0))
    | inr f ↦ sym (lookup_tail (pointwise nat_eq q) gone rest (same_pointwise q gone.0 ∙ f)) ∙ sym (at_key-moved few (gone ∷ rest) moved once q) ∙ ap (λ b. cond b None (at_key few q)) (sym f)
  ];
}
  where
    rest : Pairs
    rest = swap_remove few i gone

    moved : IsPermutation few (gone ∷ rest)
    moved = IsPermutation-swap_remove few i gone within there

    apart : IsOnce (gone ∷ rest)
    apart = once-moved few (gone ∷ rest) moved once

-- a key of the list gets other holders
written_at : (few : Pairs) (i : ℕ) (k : Bytes) (v w : Holders) → slice_get few i ≡ Some (k, v) → slice_get (slice_set few i (k, w)) i ≡ Some (k, w)
written_at [] i k v w e = absurd cc
written_at (e ∷ few) zero k v w there = refl
written_at (e ∷ few) (suc i) k v w there = written_at few i k v w there

written_keys : (few : Pairs) (i : ℕ) (k : Bytes) (v w : Holders) → slice_get few i ≡ Some (k, v) → keys_of (slice_set few i (k, w)) ≡ keys_of few
written_keys [] i k v w e = refl
written_keys (e ∷ few) zero k v w there = let one : e ≡ (k, v) = cc in ap (λ x. x ∷ keys_of few) (sym (ap (λ p. p.0) one))
written_keys (e ∷ few) (suc i) k v w there = ap (λ ks. e.0 ∷ ks) (written_keys few i k v w there)

written_others : (few : Pairs) (i : ℕ) (k : Bytes) (v w : Holders) → slice_get few i ≡ Some (k, v) → (q : Bytes) → pointwise nat_eq q k ≡ false → at_key (slice_set few i (k, w)) q ≡ at_key few q
written_others [] i k v w there q f = refl
written_others (e ∷ few) zero k v w there q f =
    let one : e ≡ (k, v) = cc in
    ap (λ b. cond b (Some w) (at_key few q)) f ∙ sym (ap (λ (p : Bytes × Holders). at_key (p ∷ few) q) one ∙ ap (λ b. cond b (Some v) (at_key few q)) f)
written_others (e ∷ few) (suc i) k v w there q f = ap (cond (pointwise nat_eq q e.0) (Some e.1)) (written_others few i k v w there q f)

pub writes : (few : Pairs) (i : ℕ) (k : Bytes) (v w : Holders) → slice_get few i ≡ Some (k, v) → IsOnce few → Changes few (slice_set few i (k, w)) k (Some w)
writes few i k v w there once = record {
  once = once_after;
  lookups = λ q. elim (keys q k) [
    | inl e ↦ ap (at_key (slice_set few i (k, w))) e ∙ lookup_from_place laws (slice_set few i (k, w)) i k w once_after (written_at few i k v w there)
        ∙ ap (λ b. cond b (Some w) (at_key few q)) (sym (ap (λ x. same x k) e ∙ same_refl k))
    | inr f ↦ written_others few i k v w there q (same_pointwise q k ∙ f) ∙ ap (λ b. cond b (Some w) (at_key few q)) (sym f)
  ];
}
  where
    once_after : IsOnce (slice_set few i (k, w))
    once_after = subst (IsDistinct (pointwise nat_eq)) (sym (written_keys few i k v w there)) once

-- a key comes to the list
pub pushes : (few : Pairs) (k : Bytes) (w : Holders) → at_key few k ≡ None → IsOnce few → Changes few (few ++ (k, w) ∷ []) k (Some w)
pushes few k w none once = record {
  once = subst (IsDistinct (pointwise nat_eq)) (sym (map-append (λ (e : Bytes × Holders). e.0) few ((k, w) ∷ [])))
      (IsDistinct-push laws (keys_of few) k once (sym (is_some-lookup (pointwise nat_eq k) few) ∙ ap is_some none));
  lookups = λ q. at_key-append few ((k, w) ∷ []) q ∙ ap (λ b. option_or (at_key few q) (cond b (Some w) None)) (same_pointwise q k) ∙ elim (keys q k) [
    | inl e ↦ subst (λ x. option_or (at_key few x) (cond (same x k) (Some w) None) ≡ cond (same x k) (Some w) (at_key few x)) (sym e)
        (ap (λ o. option_or o (cond (same k k) (Some w) None)) none ∙ ap (λ b. cond b (Some w) None) (same_refl k) ∙ ap (λ b. cond b (Some w) (at_key few k)) (sym (same_refl k)))
    | inr f ↦ ap (λ b. option_or (at_key few q) (cond b (Some w) None)) f ∙ or_none (at_key few q) ∙ ap (λ b. cond b (Some w) (at_key few q)) (sym f)
  ];
}

-- the holders of the few keys and of the others
abbrev pub joined : Pairs → KeyMap Holders → KeyMap Holders
joined few many = map_of (few ++ entries many)

pub get-joined : (few : Pairs) (many : KeyMap Holders) (q : Bytes) → get (joined few many) q ≡ option_or (at_key few q) (get many q)
get-joined few many q =
    get-map_of (few ++ entries many) q
    ∙ at_key-append few (entries many) q
    ∙ ap (option_or (at_key few q)) (sym (get-entries many q ∙ sym (get-from_entries nat_list_cmp_total (entries many) q) ∙ get-map_of (entries many) q))

module _ (few : Pairs) (many : KeyMap Holders) (sound : IsApart few many) (k : Bytes) where
  -- a key of the list stands nowhere else
  pub only_listed : (v : Holders) → at_key few k ≡ Some v → get many k ≡ None
  only_listed v e = sound.apart k (ap is_some e)

  pub get-listed : (v : Holders) → at_key few k ≡ Some v → get (joined few many) k ≡ Some v
  get-listed v e = get-joined few many k ∙ ap (λ o. option_or o (get many k)) e

  pub get-others : at_key few k ≡ None → get (joined few many) k ≡ get many k
  get-others none = get-joined few many k ∙ ap (λ o. option_or o (get many k)) none

  -- the list changes at a key that the map lacks
  module _ (after : Pairs) (those : Option Holders) (changes : Changes few after k those) (lacks : get many k ≡ None) where
    pub joined-changed : joined after many ≡ with_entry (joined few many) k those
    joined-changed =
        same_key_map _ _ (λ q.
        get-joined after many q
        ∙ ap (λ o. option_or o (get many q)) (changes.lookups q)
        ∙ elim (keys q k) [
          | inl e ↦ subst (λ x. option_or (cond (same x k) those (at_key few x)) (get many x) ≡ cond (same x k) those (get (joined few many) x)) (sym e)
              (ap (option_or (cond (same k k) those (at_key few k))) lacks ∙ or_none (cond (same k k) those (at_key few k)) ∙ ap (λ b. cond b those (at_key few k)) (same_refl k)
              ∙ ap (λ b. cond b those (get (joined few many) k)) (sym (same_refl k)))
          | inr f ↦ ap (λ b. option_or (cond b those (at_key few q)) (get many q)) f ∙ sym (get-joined few many q) ∙ ap (λ b. cond b those (get (joined few many) q)) (sym f)
        ]
        ∙ sym (get-with_entry (joined few many) k those q))

    pub apart-changed : IsApart after many
    apart-changed = record {
      once = changes.once;
      apart = λ q some. elim (keys q k) [
        | inl e ↦ ap (get many) e ∙ lacks
        | inr f ↦ sound.apart q (subst IsSome (changes.lookups q ∙ ap (λ b. cond b those (at_key few q)) f) some)
      ];
    }

  -- the map changes at a key that the list lacks
  module _ (after : KeyMap Holders) (s : ℕ) (mode : Option Mode) (sets : SetsMode many after s k mode) (lacks : at_key few k ≡ None) where
    here : (m : KeyMap Holders) → get (joined few m) k ≡ get m k
    here m = get-joined few m k ∙ ap (λ o. option_or o (get m k)) lacks

    pub sets-joined : SetsMode (joined few many) (joined few after) s k mode
    sets-joined = record {
      at_key = subst (λ o. ChangesTo o (get (joined few after) k) s mode) (sym (here many)) (subst (λ o. ChangesTo (get many k) o s mode) (sym (here after)) sets.at_key);
      others = λ q f. get-joined few after q ∙ ap (option_or (at_key few q)) (sets.others q f) ∙ sym (get-joined few many q);
      held_by_one = λ those e. sets.held_by_one those (sym (here after) ∙ e);
    }

    pub apart-set : IsApart few after
    apart-set = record {
      once = sound.once;
      apart = λ q some. elim (keys q k) [
        | inl e ↦ absurd (none_is_some (sym (ap is_some (ap (at_key few) e ∙ lacks)) ∙ some))
        | inr f ↦ sets.others q f ∙ sound.apart q some
      ];
    }
      where
        none_is_some : false ≡ true → ⊥
        none_is_some e = cc

-- nothing is held
pub apart-none : (few : Pairs) (many : KeyMap Holders) → few ≡ [] → many ≡ empty → IsApart few many
unfolding IsDistinct
apart-none few many e f = subst (λ (es : Pairs). IsApart es many) (sym e) (record {
  once = tt;
  apart = λ q some. ap (λ (m : KeyMap Holders). get m q) f ∙ get-empty by_bytes q;
})

pub joined-none : (few : Pairs) (many : KeyMap Holders) → few ≡ [] → many ≡ empty → joined few many ≡ empty
joined-none few many e f =
    same_key_map _ _ (λ q.
    get-joined few many q
    ∙ ap (λ (es : Pairs). option_or (at_key es q) (get many q)) e
    ∙ ap (λ (m : KeyMap Holders). get m q) f)

-- a list without entries, and no other, makes the empty map
pub empty_if_none : (es : Pairs) → length es ≡ 0 → map_of es ≡ empty
empty_if_none [] e = refl
empty_if_none (x ∷ es) e = absurd (omega (arith, e))

pub none_if_empty : (es : Pairs) → map_of es ≡ empty → length es ≡ 0
none_if_empty [] e = refl
none_if_empty (x ∷ es) e =
    let there : get (map_of (x ∷ es)) x.0 ≡ Some x.1 = get-map_of (x ∷ es) x.0 ∙ lookup_head (pointwise nat_eq x.0) x es (same_pointwise x.0 x.0 ∙ same_refl x.0) in
    let none : get (map_of (x ∷ es)) x.0 ≡ None = ap (λ (m : KeyMap Holders). get m x.0) e ∙ get-empty by_bytes x.0 in
    absurd (some_is_none (sym there ∙ none))
  where
    some_is_none : {those : Holders} → Some those ≡ None → ⊥
    some_is_none e = cc

-- a key is looked for from the end
module _ (few : Pairs) (k : Bytes) (i : ℕ) (within : i < length few) (e : Bytes × Holders) (at : e ≡ get_or few i e) where
  pub not_from : at_key (drop (suc i) few) k ≡ None → pointwise nat_eq e.0 k ≡ false → at_key (drop i few) k ≡ None
  not_from rest other =
      ap (λ es. at_key es k) (drop_next few i e within at)
      ∙ lookup_tail (pointwise nat_eq k) e (drop (suc i) few) (laws.symm k e.0 ∙ other)
      ∙ rest

  pub found_at : pointwise nat_eq e.0 k ≡ true → slice_get few i ≡ Some (k, e.1)
  found_at same = slice_get_read few (length few) i e refl within at ∙ ap (λ x. Some (x, e.1)) (one_key e.0 k same)

-- the table that contracts see, and a key that was looked for in the list
module _ (few : Pairs) (many : KeyMap Holders) (sound : IsApart few many) (now : KeyMap Holders) (shown : joined few many ≡ now) (k : Bytes) where
  pub has-others : at_key few k ≡ None → get now k ≡ get many k
  has-others none = ap (λ (m : KeyMap Holders). get m k) (sym shown) ∙ get-others few many sound k none

  -- another key comes to the list, where neither has it
  pub pushed : (w : Holders) → at_key few k ≡ None → get many k ≡ None → joined (few ++ (k, w) ∷ []) many ≡ with_entry now k (Some w)
  pushed w none lacks =
      joined-changed few many sound k (few ++ (k, w) ∷ []) (Some w) (pushes few k w none sound.once) lacks ∙ ap (λ (m : KeyMap Holders). with_entry m k (Some w)) shown

  pub pushed-apart : (w : Holders) → at_key few k ≡ None → get many k ≡ None → IsApart (few ++ (k, w) ∷ []) many
  pushed-apart w none lacks = apart-changed few many sound k (few ++ (k, w) ∷ []) (Some w) (pushes few k w none sound.once) lacks

  -- the map changes, where the list lacks the key
  pub set-others : (after : KeyMap Holders) (s : ℕ) (mode : Option Mode) → SetsMode many after s k mode → at_key few k ≡ None → SetsMode now (joined few after) s k mode
  set-others after s mode sets none = subst (λ m. SetsMode m (joined few after) s k mode) shown (sets-joined few many sound k after s mode sets none)

  module _ (i : ℕ) (v : Holders) (there : slice_get few i ≡ Some (k, v)) where
    found : at_key few k ≡ Some v
    found = lookup_from_place laws few i k v sound.once there

    pub has-listed : get now k ≡ Some v
    has-listed = ap (λ (m : KeyMap Holders). get m k) (sym shown) ∙ get-listed few many sound k v found

    module _ (e : Bytes × Holders) (at : e ≡ get_or few i e) where
      pair_is : e ≡ (k, v)
      pair_is = at ∙ get_or_from_slice_get few i (k, v) e there

      pub holders_are : e.1 ≡ v
      holders_are = ap (λ p. p.1) pair_is

      -- it gets other holders
      writes_here : (w : Holders) → Changes few (slice_set few i (e.0, w)) k (Some w)
      writes_here w = subst (λ x. Changes few (slice_set few i (x, w)) k (Some w)) (sym (ap (λ p. p.0) pair_is)) (writes few i k v w there sound.once)

      pub written : (w : Holders) → joined (slice_set few i (e.0, w)) many ≡ with_entry now k (Some w)
      written w =
          joined-changed few many sound k (slice_set few i (e.0, w)) (Some w) (writes_here w) (only_listed few many sound k v found) ∙ ap (λ (m : KeyMap Holders). with_entry m k (Some w)) shown

      pub written-apart : (w : Holders) → IsApart (slice_set few i (e.0, w)) many
      written-apart w = apart-changed few many sound k (slice_set few i (e.0, w)) (Some w) (writes_here w) (only_listed few many sound k v found)

      -- it goes
      removes_here : Changes few (swap_remove few i e) k None
      removes_here = subst (λ x. Changes few (swap_remove few i e) x None) (ap (λ p. p.0) pair_is) (removes few i e (slice_get_within few i (k, v) there) at sound.once)

      pub removed : joined (swap_remove few i e) many ≡ with_entry now k None
      removed =
          joined-changed few many sound k (swap_remove few i e) None removes_here (only_listed few many sound k v found) ∙ ap (λ (m : KeyMap Holders). with_entry m k None) shown

      pub removed-apart : IsApart (swap_remove few i e) many
      removed-apart = apart-changed few many sound k (swap_remove few i e) None removes_here (only_listed few many sound k v found)

-- an empty map has no key
pub lacks : (many : KeyMap Holders) (k : Bytes) → many ≡ empty → get many k ≡ None
lacks many k e = ap (λ (m : KeyMap Holders). get m k) e ∙ get-empty by_bytes k

-- the map is asked for a key that the list lacks
pub asked_apart :
    (few : Pairs) (many : KeyMap Holders) (sound : IsApart few many) (k : Bytes) (after : KeyMap Holders) (s : ℕ) (mode : Option Mode) → at_key few k ≡ None →
    {T E : Type 0} (r : Result T E) → OnOk r (SetsMode many after s k mode) → OnErr r (after ≡ many) → IsApart few after
asked_apart few many sound k after s mode none (Ok x) sets same_map = apart-set few many sound k after s mode sets none
asked_apart few many sound k after s mode none (Err y) sets same_map = subst (IsApart few) (sym same_map) sound
