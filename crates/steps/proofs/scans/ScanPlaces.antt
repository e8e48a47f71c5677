-- The places of a scan, and the scan as it begins and goes on.
use Rattle.std.proofs.Common.{◌≡◌, ℕ, ◌+◌, ◌<◌, ◌⊎◌, inl, inr, arith, Bool, true, false, cond, ◌||◌, List, [], ◌∷◌, ◌++◌, append-nil, length, map, get_or, slice_get, Option, Some, None, is_some, option_map, T, Vec, Ordering, Less, Equal, Greater, is_eq, refl, sym, ap, ◌∙◌, subst, true≢false}
use Rattle.std.proofs.lemmas.Bool.{cases_lt}
use Rattle.std.proofs.lemmas.List.{get_or_past, length-map}
use Rattle.std.proofs.lemmas.List.Folds.{Any-from_list_any, list_any_at}
use Rattle.std.proofs.lemmas.Map.Keys.{IsDistinct-cons, apart_from_distinct}
use Rattle.std.proofs.lemmas.Option.{get_or_from_slice_get, slice_get-get_or, slice_get_within}
use Rattle.std.proofs.lemmas.Cmp.{eq_by_cmp_equiv}
use Rattle.std.specs.Cmp.Lexicographic.{nat_list_cmp_total}
use Rattle.std.specs.FinMap as fin
use Rattle.std.specs.FinMap.Entries.{below_all}
use Rattle.std.specs.List.{AllByRecursion, IsDistinct}
use Rattle.std.specs.Ordering.{eq_by_cmp, is_lt}
use Rattle.std.specs.Prelude.{IsSome}
use Rattle.procedure.specs.Bytes.{Bytes, Cell, same}
use Rattle.procedure.proofs.Base.{keys, same_refl}
use Rattle.procedure.specs.Runs.{no_keys}
use Rattle.procedure.specs.Table.{Changes, change_at, with_change}
use Rattle.image.proofs.Joins.{same_key}
use Rattle.image.proofs.Rising.{by_bytes, parts}
use Rattle.image.proofs.Sorting.{map_of-push, once-push}
use Rattle.image.specs.Headers.{EachKeyOnce as Once, chain_digest, map_of}
use Rattle.image.specs.Images.{Entry}
use Rattle.image.specs.Merges.{is_full}
use Rattle.image.specs.declared.images.Kind.{Kind}
use Rattle.image.specs.declared.images.Kind.TheVariants.{Full, Partial}
use Rattle.record_store.proofs.Versions.{finds_none, record_found, version_some}
use Rattle.record_store.specs.ChangedSets.{KeySet, count, has, keys_of}
use Rattle.record_store.specs.Stores.{Finds, HasKeysOnce, StoreRecord, Slots, changed, key_at, record_at}
use Rattle.record_store.specs.Versions as stored
use Rattle.steps.specs.Checkpointing.{visited}
use Rattle.steps.specs.inside.RecordEdits.{captured, edited, given_by}
use Rattle.steps.specs.Versions.{given_at, given_of, kept_of, key_versions, versions_in, KeyVersions, VersionsByKey, captured_at, gives}
use Rattle.steps.specs.inside.CheckpointFields.{IsScan, places, spots}
use Rattle.steps.specs.machine.Machine.{give, keeps, to_visit}
use Rattle.steps.specs.declared.checkpoints.Checkpoint.{Checkpoint}
use Rattle.steps.specs.declared.checkpoints.Tally.{Tally}
use Rattle.steps.specs.declared.checkpoints.Way.TheVariants.{Streamed, Whole}
use Rattle.steps.specs.declared.given.Given.{Given}
use Rattle.steps.proofs.store.RecordEdits.{found_in, none_in, versions_edited}
use Rattle.steps.proofs.machine.OpenCalls.{same_Some}

-- THE KEYS OF A SET, BY THEIR PLACES

abbrev tied : Bytes → Bytes → Bool
tied = eq_by_cmp by_bytes

tied_self : (k : Bytes) → tied k k ≡ true
tied_self k = (eq_by_cmp_equiv nat_list_cmp_total).refl k

as_many : (s : KeySet) → length (keys_of s) ≡ count s
as_many s = length-map (fin.entries s) (λ e. e.0) ∙ sym (fin.len-entries s)

-- each key has a place
pub key_place : (s : KeySet) (q : Bytes) → has s q ≡ true → (i : ℕ) × (i < count s) × (slice_get (keys_of s) i ≡ Some q)
key_place s q e =
    let (i, k, below, at, same) = Any-from_list_any (tied q) (keys_of s) (sym (fin.contains_key-keys s q) ∙ e) in (
      i,
      subst (λ n. i < n) (as_many s) below,
      slice_get-get_or (keys_of s) i k below ∙ ap (λ (x : Bytes). Some x) (at ∙ sym (same_key q k (subst T (sym same) tt))),
    )

-- and what stands at a place is a key
pub placed_key : (s : KeySet) (i : ℕ) (q : Bytes) → slice_get (keys_of s) i ≡ Some q → has s q ≡ true
placed_key s i q e =
    fin.contains_key-keys s q
    ∙ list_any_at (tied q) (keys_of s) i q (slice_get_within (keys_of s) i q e) (ap (tied q) (get_or_from_slice_get (keys_of s) i q q e) ∙ tied_self q)

lower_differs : (r : Ordering) → T (is_lt r) → is_eq r ≡ false
lower_differs Less h = refl
lower_differs Equal h = absurd h
lower_differs Greater h = absurd h

abbrev bare : List (Bytes × Unit {0}) → List Bytes
bare es = map (λ e. e.0) es

apart : (k : Bytes) (es : List (Bytes × Unit {0})) → T (below_all by_bytes k es) → AllByRecursion (λ y. tied k y ≡ false) (bare es)
apart k [] h = tt
apart k (e ∷ es) h = let (first, rest) = parts (is_lt (by_bytes k e.0)) (below_all by_bytes k es) h in (lower_differs (by_bytes k e.0) first, apart k es rest)

distinct : (es : List (Bytes × Unit {0})) → T (fin.is_sorted by_bytes es) → IsDistinct tied (bare es)
unfolding IsDistinct
distinct [] h = tt
distinct (e ∷ es) h = let (first, rest) = parts (below_all by_bytes e.0 es) (fin.is_sorted by_bytes es) h in IsDistinct-cons tied e.0 (bare es) (apart e.0 es first) (distinct es rest)

not_lower : (s : KeySet) (i j : ℕ) (q : Bytes) → slice_get (keys_of s) i ≡ Some q → slice_get (keys_of s) j ≡ Some q → i < j → ⊥
not_lower s i j q e f lt =
    true≢false
    (sym (ap (λ (k : Bytes). tied k (get_or (keys_of s) j q)) (get_or_from_slice_get (keys_of s) i q q e) ∙ ap (tied q) (get_or_from_slice_get (keys_of s) j q q f) ∙ tied_self q)
    ∙ apart_from_distinct tied (keys_of s) i j q (distinct (fin.entries s) (fin.entries_sorted s)) lt (slice_get_within (keys_of s) j q f))

-- no key stands at two places
pub one_place : (s : KeySet) (i j : ℕ) (q : Bytes) → slice_get (keys_of s) i ≡ Some q → slice_get (keys_of s) j ≡ Some q → i ≡ j
one_place s i j q e f =
    elim (cases_lt i j) [
      | inl lt ↦ absurd (not_lower s i j q e f lt)
      | inr ge ↦ elim (cases_lt j i) [
        | inl lt ↦ absurd (not_lower s j i q f e lt)
        | inr le ↦ omega (arith, ge, le)
      ]
    ]

-- THE SLOTS

within : (slots : Slots) (i : ℕ) (r : StoreRecord) → record_at slots i ≡ Some r → i < length slots
within slots i r is =
    elim (cases_lt i (length slots)) [
      | inl lt ↦ lt
      | inr past ↦ absurd (let none : None ≡ Some r = sym (get_or_past slots i None past) ∙ is in cc)
    ]

-- a key with a record has a slot
pub slot_of : (slots : Slots) (q : Bytes) → is_some (versions_in slots q) ≡ true → (i : ℕ) × (i < length slots) × (key_at slots i ≡ Some q)
unfolding versions_in
slot_of slots q e = by (stored.version_of slots q) refl e
  where
    by : (o : Option stored.Version) → stored.version_of slots q ≡ o → is_some (option_map key_versions o) ≡ true → (i : ℕ) × (i < length slots) × (key_at slots i ≡ Some q)
    by None is e = absurd (true≢false (sym e))
    by (Some v) is e =
        let held = version_some slots q v is in
        (held.slot, within slots held.slot held.kept held.there, ap (option_map (λ (r : StoreRecord). r.key)) held.there ∙ ap (λ (k : Bytes). Some k) held.key_is)

slot_has : (slots : Slots) (i : ℕ) (q : Bytes) → key_at slots i ≡ Some q → is_some (versions_in slots q) ≡ true
unfolding versions_in
slot_has slots i q e = by (stored.version_of slots q) refl
  where
    by : (o : Option stored.Version) → stored.version_of slots q ≡ o → is_some (option_map key_versions o) ≡ true
    by None is = absurd (let no : None ≡ Some i = ((finds_none slots q is).only i).1 e in cc)
    by (Some v) is = refl

-- THE PLACES OF A SCAN

-- the key at a place has a record
pub recorded_at :
    (kind : Kind) (slots : Slots) (frozen : KeySet) (i : ℕ) (q : Bytes) → ((k : Bytes) → has frozen k ≡ true → is_some (versions_in slots k) ≡ true) → spots kind slots frozen i ≡ Some q →
    is_some (versions_in slots q) ≡ true
recorded_at Full slots frozen i q recorded e = slot_has slots i q e
recorded_at Partial slots frozen i q recorded e = recorded q (placed_key frozen i q e)

-- no key stands at two
pub one_spot : (kind : Kind) (slots : Slots) (frozen : KeySet) (i j : ℕ) (q : Bytes) → HasKeysOnce slots → spots kind slots frozen i ≡ Some q → spots kind slots frozen j ≡ Some q → i ≡ j
one_spot Full slots frozen i j q once e f = once.once i j q e f
one_spot Partial slots frozen i j q once e f = one_place frozen i j q e f

-- each key that a scan has to visit stands at one
pub wanted_at :
    (kind : Kind) (slots : Slots) (frozen : KeySet) (vs : VersionsByKey) (fro : Bytes → Bool) → ((q : Bytes) → vs q ≡ versions_in slots q) → ((q : Bytes) → fro q ≡ has frozen q) → (q : Bytes) →
    to_visit (is_full kind) vs fro q ≡ true → (i : ℕ) × (i < places kind slots frozen) × (spots kind slots frozen i ≡ Some q)
wanted_at Full slots frozen vs fro versions keys q e = slot_of slots q (sym (ap is_some (versions q)) ∙ e)
wanted_at Partial slots frozen vs fro versions keys q e = key_place frozen q (sym (keys q) ∙ e)

-- WHAT ONE PLACE GIVES

not_full : Partial ≡ Full → ⊥
not_full e = cc

pub given_more :
    (kind : Kind) (k : Bytes) (fro : Bool) (x : Option Cell) (g : Changes) (es : List Entry) → (kind ≡ Partial → fro ≡ true) → g ≡ map_of es →
    give g k (keeps kind fro x) ≡ map_of (es ++ kept_of kind (option_map (λ y. (k, y)) x))
unfolding with_change
given_more Full k fro (Some (Some v)) g es frozen e = ap (λ (m : Changes). fin.insert m k (Some v)) e ∙ sym (map_of-push es k (Some v))
given_more Partial k true (Some y) g es frozen e = ap (λ (m : Changes). fin.insert m k y) e ∙ sym (map_of-push es k y)
given_more Partial k false x g es frozen e = absurd (true≢false (sym (frozen refl)))
given_more _ k _ _ g es frozen e = e ∙ ap map_of (sym (append-nil es))

pub once_more : (kind : Kind) (k : Bytes) (x : Option Cell) (es : List Entry) → change_at (map_of es) k ≡ None → Once es → Once (es ++ kept_of kind (option_map (λ y. (k, y)) x))
once_more Full k (Some (Some v)) es new once = once-push es k (Some v) once new
once_more Partial k (Some y) es new once = once-push es k y once new
once_more _ k _ es new once = subst Once (sym (append-nil es)) once

pub frozen_at : (kind : Kind) (slots : Slots) (frozen : KeySet) (i : ℕ) (k : Bytes) → spots kind slots frozen i ≡ Some k → kind ≡ Partial → has frozen k ≡ true
frozen_at Full slots frozen i k at e = absurd (not_full (sym e))
frozen_at Partial slots frozen i k at e = placed_key frozen i k at

pub the_version : (o : Option KeyVersions) → is_some o ≡ true → (v : KeyVersions) × (o ≡ Some v)
the_version None e = absurd (true≢false (sym e))
the_version (Some v) e = (v, refl)

-- the versions after a key's record was visited
pub visited_as :
    (vs ws : VersionsByKey) (k : Bytes) (v : KeyVersions) (q : Bytes) → ((q : Bytes) → ws q ≡ vs q) → vs k ≡ Some v →
    cond (same q k) (Some (captured_at v.available v)) (ws q) ≡ visited (Some k) q (vs q)
visited_as vs ws k v q versions is =
    elim (keys q k) [
      | inl e ↦
          let yes : same q k ≡ true = ap (λ z. same z k) e ∙ same_refl k in
          ap (λ b. cond b (Some (captured_at v.available v)) (ws q)) yes
          ∙ sym (ap (λ b. cond b (option_map captured (vs q)) (vs q)) yes ∙ ap (option_map captured) (ap vs e ∙ is))
      | inr differs ↦ ap (λ b. cond b (Some (captured_at v.available v)) (ws q)) differs ∙ versions q ∙ sym (ap (λ b. cond b (option_map captured (vs q)) (vs q)) differs)
    ]

pub some_key : (o : Option Bytes) (k : Bytes) → o ≡ Some k → IsSome o
some_key None k e = absurd (cc)
some_key (Some q) k e = refl

pub or_right : (a b : Bool) → b ≡ true → (a || b) ≡ true
or_right true b e = refl
or_right false b e = e

-- the record of a key in its slot, visited
pub visited_found : (slots : Slots) (i : ℕ) (key q : Bytes) → HasKeysOnce slots → Finds slots key (Some i) → versions_in
    (changed (edited captured) slots i) q ≡ visited (Some key) q (versions_in slots q)
visited_found slots i key q once finds =
    versions_edited captured slots i key q once finds
    ∙ elim (keys q key) [
      | inl e ↦ ap (λ k. cond (same q key) (option_map captured (versions_in slots k)) (versions_in slots q)) (sym e)
      | inr differs ↦
          ap (λ b. cond b (option_map captured (versions_in slots key)) (versions_in slots q)) differs
          ∙ sym (ap (λ b. cond b (option_map captured (versions_in slots q)) (versions_in slots q)) differs)
    ]

pub visited_none : (slots : Slots) (key q : Bytes) → Finds slots key None → versions_in slots q ≡ visited (Some key) q (versions_in slots q)
visited_none slots key q finds =
    elim (keys q key) [
      | inl e ↦
          let none : versions_in slots q ≡ None = ap (versions_in slots) e ∙ none_in slots key finds in
          none ∙ sym (ap (λ o. visited (Some key) q o) none ∙ both (same q key))
      | inr differs ↦ sym (ap (λ b. cond b (option_map captured (versions_in slots q)) (versions_in slots q)) differs)
    ]
  where
    both : (b : Bool) → cond b (option_map captured None) None ≡ None
    both true = refl
    both false = refl

-- what it gives
pub given_found : (slots : Slots) (i : ℕ) (key : Bytes) → HasKeysOnce slots → Finds slots key (Some i) → given_by (record_at slots i) ≡ given_of (versions_in slots) (Some key)
given_found slots i key once finds =
    let found = found_in slots i key once finds in
    let held = record_found slots key i finds in
    let one : Some found.0 ≡ Some held.0 = sym found.1 ∙ held.1 in
    let named : found.0.key ≡ key = ap (λ (r : StoreRecord). r.key) (same_Some one) ∙ held.2 in
    ap given_by found.1
    ∙ ap (λ k. option_map (λ x. (k, x)) (gives (key_versions (stored.version found.0)))) named
    ∙ sym (ap (given_at key) found.2)

pub given_none : (slots : Slots) (key : Bytes) → Finds slots key None → None ≡ given_of (versions_in slots) (Some key)
given_none slots key finds = sym (ap (given_at key) (none_in slots key finds))

-- THE SCAN

module _ {A : Type 0} where
  pub scan_begun :
      (k : Checkpoint A) (spot : ℕ → Option Bytes) (wanted : Bytes → Bool) (given : Changes) → k.given.entries ≡ [] → k.captured.items ≡ [] → k.tally.count ≡ 0 → k.tally.chain ≡ chain_digest [] → k.cursor ≡ 0 → given ≡ map_of [] →
      ((q : Bytes) → wanted q ≡ true → (i : ℕ) × (i < k.bound) × (spot i ≡ Some q)) → IsScan k spot no_keys wanted given
  scan_begun k spot wanted given none_given none count chain start empty all = record {
    visited = λ q seen. absurd (true≢false (sym seen));
    to_visit = λ q is. let (i, below, at) = all q is in (i, below, at, λ before. absurd (omega (arith, start, before)));
    within = omega (arith, start);
    gave = empty ∙ ap map_of (sym none_given);
    once = ap (λ l. fin.len (map_of l)) none_given ∙ fin.len-empty by_bytes Cell ∙ ap length (sym none_given);
    captured = λ way. none ∙ sym none_given;
    count = λ way. count ∙ ap length (sym none_given);
    chain = λ way. chain ∙ ap chain_digest (sym none_given);
  }

  -- one place more
  module _ (k : Checkpoint A) (v : Vec (Bytes × Cell) A) (g : Given (Bytes × Cell)) (t : Tally) (spot : ℕ → Option Bytes) (seen next wanted : Bytes → Bool) (given more : Changes) (key : Option Bytes) where
    pub scan_on :
        IsScan k spot seen wanted given → spot k.cursor ≡ key → k.cursor < k.bound → ((q : Bytes) → next q ≡ true → (seen q ≡ true) ⊎ (key ≡ Some q)) → ((q : Bytes) → seen q ≡ true → next q ≡ true) →
        ((q : Bytes) → key ≡ Some q → next q ≡ true) → more ≡ map_of g.entries → Once g.entries → (k.way ≡ Whole → v.items ≡ g.entries) →
        (k.way ≡ Streamed → t.count ≡ length g.entries) → (k.way ≡ Streamed → t.chain ≡ chain_digest g.entries) →
        IsScan (record k { captured = v; given = g; tally = t; cursor = k.cursor + 1 }) spot next wanted more
    scan_on scan at below grown stays here gave once captured count chain = record {
      visited = λ q is. elim (grown q is) [
        | inl was ↦ let (i, before, there) = scan.visited q was in (i, omega (arith, before), there)
        | inr now ↦ (k.cursor, omega arith, at ∙ now)
      ];
      to_visit = λ q is. let (i, within, there, then) = scan.to_visit q is in (
        i,
        within,
        there,
        λ before. elim (cases_lt i k.cursor) [
          | inl lt ↦ stays q (then lt)
          | inr ge ↦ let this : k.cursor ≡ i = omega (arith, before, ge) in here q (sym at ∙ ap spot this ∙ there)
        ],
      );
      within = omega (arith, below);
      gave = gave;
      once = once;
      captured = captured;
      count = count;
      chain = chain;
    }
