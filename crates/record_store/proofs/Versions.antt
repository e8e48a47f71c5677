-- A store as a map from keys to versions: what each key has, and what each change makes of it.
use Rattle.std.proofs.Common.{◌≡◌, ◌≢◌, ℕ, zero, suc, ◌⊎◌, inl, inr, Bool, true, false, cond, [], ◌∷◌, map, Option, Some, None, is_none, option_map, refl, sym, ap, ◌∙◌, arith, slice_set, get_or-set_other, true≢false}
use Rattle.std.proofs.Math.ListN.{get_or-map}
use Rattle.std.proofs.lemmas.Bool.{cases_eq}
use Rattle.std.proofs.lemmas.List.{get_or_past, set-get_or}
use Rattle.std.specs.Option.{option_and_then}
use Rattle.procedure.specs.Bytes.{Bytes, same}
use Rattle.procedure.proofs.Base.{keys, same_refl}
use Rattle.record_store.specs.Stores.{StoreRecord, Slots, Finds, HasKeysOnce, record_at_rest, changed, key_at, new_record, reclaimed, record_at, unless_dead, with_aside, with_record}
use Rattle.record_store.specs.Versions.{Holds, KeepsKey, Version, new_version, rested, version, version_of}
use Rattle.record_store.proofs.Fields.{edited_here, not_found}
use Rattle.record_store.proofs.Making.{at_with_here, at_with_other}

-- WHAT A KEY HAS

key_of_record : (slots : Slots) (i : ℕ) (r : StoreRecord) → record_at slots i ≡ Some r → key_at slots i ≡ Some r.key
key_of_record slots i r is = ap (option_map (λ r. r.key)) is

record_of : (o : Option StoreRecord) (key : Bytes) → option_map (λ r. r.key) o ≡ Some key → (r : StoreRecord) × (o ≡ Some r) × (r.key ≡ key)
record_of None key is = absurd (cc)
record_of (Some r) key is = (r, refl, cc)

-- the record of a slot with a key
pub record_with : (slots : Slots) (i : ℕ) (key : Bytes) → key_at slots i ≡ Some key → (r : StoreRecord) × (record_at slots i ≡ Some r) × (r.key ≡ key)
record_with slots i key is = record_of (record_at slots i) key is

-- one slot, and the slots after it
first_has : (r : StoreRecord) (slots : Slots) (key : Bytes) → key ≡ r.key → version_of (Some r ∷ slots) key ≡ Some (version r)
unfolding version_of
first_has r slots key is = ap (λ b. cond b (Some (version r)) (version_of slots key)) (ap (λ (k : Bytes). same k r.key) is ∙ same_refl r.key)

first_lacks : (r : StoreRecord) (slots : Slots) (key : Bytes) → same key r.key ≡ false → version_of (Some r ∷ slots) key ≡ version_of slots key
unfolding version_of
first_lacks r slots key is = ap (λ b. cond b (Some (version r)) (version_of slots key)) is

vacant_first : (slots : Slots) (key : Bytes) → version_of (None ∷ slots) key ≡ version_of slots key
unfolding version_of
vacant_first slots key = refl

pub version_of-new : (key : Bytes) → version_of [] key ≡ None
unfolding version_of
version_of-new key = refl

not_same : (x y : Bytes) → x ≢ y → same x y ≡ false
not_same x y differs = elim (keys x y) [ inl e ↦ absurd (differs e) | inr f ↦ f ]

later : (s : Option StoreRecord) (slots : Slots) (key : Bytes) (v : Version) → Holds slots key v → Holds (s ∷ slots) key v
later s slots key v h = record { slot = suc h.slot; kept = h.kept; there = h.there; key_is = h.key_is; version_is = h.version_is }

-- a version is that of a record
pub version_some : (slots : Slots) (key : Bytes) (v : Version) → version_of slots key ≡ Some v → Holds slots key v
version_some [] key v is = absurd (let none = version_of-new key in cc)
version_some (None ∷ slots) key v is = later None slots key v (version_some slots key v (sym (vacant_first slots key) ∙ is))
version_some (Some r ∷ slots) key v is =
    elim (keys key r.key) [
      | inl e ↦
          let here : Some (version r) ≡ Some v = sym (first_has r slots key e) ∙ is in
          record { slot = 0; kept = r; there = refl; key_is = sym e; version_is = cc }
      | inr f ↦ later (Some r) slots key v (version_some slots key v (sym (first_lacks r slots key f) ∙ is))
    ]

-- a key that no slot has
none_has : (slots : Slots) (key : Bytes) → ((i : ℕ) → key_at slots i ≢ Some key) → version_of slots key ≡ None
none_has [] key none = version_of-new key
none_has (None ∷ slots) key none = vacant_first slots key ∙ none_has slots key (λ i. none (suc i))
none_has (Some r ∷ slots) key none =
    elim (keys key r.key) [
      | inl e ↦ absurd (none 0 (ap (λ (k : Bytes). Some k) (sym e)))
      | inr f ↦ first_lacks r slots key f ∙ none_has slots key (λ i. none (suc i))
    ]

-- no slot has a key without a version
pub no_key : (slots : Slots) (key : Bytes) → version_of slots key ≡ None → (i : ℕ) → key_at slots i ≢ Some key
no_key [] key none i is =
    let vacant : key_at [] i ≡ None = ap (option_map (λ (r : StoreRecord). r.key)) (get_or_past [] i None (omega arith)) in
    absurd (cc)
no_key (None ∷ slots) key none zero is = absurd (cc)
no_key (None ∷ slots) key none (suc i) is = no_key slots key (sym (vacant_first slots key) ∙ none) i is
no_key (Some r ∷ slots) key none zero is =
    let has : version_of (Some r ∷ slots) key ≡ Some (version r) = first_has r slots key (cc) in
    absurd (cc)
no_key (Some r ∷ slots) key none (suc i) is =
    elim (keys key r.key) [
      | inl e ↦
          let has : version_of (Some r ∷ slots) key ≡ Some (version r) = first_has r slots key e in
          absurd (cc)
      | inr f ↦ no_key slots key (sym (first_lacks r slots key f) ∙ none) i is
    ]

holds_of : (slots : Slots) (key : Bytes) (v : Version) → HasKeysOnce slots → Holds slots key v → (o : Option Version) → version_of slots key ≡ o → o ≡ Some v
holds_of slots key v once h None is = absurd (no_key slots key is h.slot (key_of_record slots h.slot h.kept h.there ∙ ap (λ (k : Bytes). Some k) h.key_is))
holds_of slots key v once h (Some w) is =
    let other = version_some slots key w is in
    let i : other.slot ≡ h.slot = once.once other.slot h.slot key (key_of_record slots other.slot other.kept other.there ∙ ap (λ (k : Bytes). Some k) other.key_is)
    (key_of_record slots h.slot h.kept h.there ∙ ap (λ (k : Bytes). Some k) h.key_is) in
    let one : Some other.kept ≡ Some h.kept = sym other.there ∙ ap (record_at slots) i ∙ h.there in
    let r : other.kept ≡ h.kept = cc in
    ap (λ (v : Version). Some v) (sym other.version_is ∙ ap version r ∙ h.version_is)

-- the version of a record
pub version_held : (slots : Slots) (key : Bytes) (v : Version) → HasKeysOnce slots → Holds slots key v → version_of slots key ≡ Some v
version_held slots key v once h = holds_of slots key v once h (version_of slots key) refl

pub version_found : (slots : Slots) (i : ℕ) (r : StoreRecord) → HasKeysOnce slots → record_at slots i ≡ Some r → version_of slots r.key ≡ Some (version r)
version_found slots i r once is = version_held slots r.key (version r) once record { slot = i; kept = r; there = is; key_is = refl; version_is = refl }

-- WHAT A SEARCH FINDS

pub version_none : (slots : Slots) (key : Bytes) → Finds slots key None → version_of slots key ≡ None
version_none slots key finds = none_has slots key (λ i. not_found slots key i finds)

pub finds_none : (slots : Slots) (key : Bytes) → version_of slots key ≡ None → Finds slots key None
finds_none slots key none = record { only = λ i. (λ e. absurd (cc), λ e. absurd (no_key slots key none i e)) }

-- the record that is found has the key and its version
pub record_found : (slots : Slots) (key : Bytes) (i : ℕ) → Finds slots key (Some i) → (r : StoreRecord) × (record_at slots i ≡ Some r) × (r.key ≡ key)
record_found slots key i finds = record_with slots i key ((finds.only i).0 refl)

pub finds_record : (slots : Slots) (i : ℕ) (r : StoreRecord) → HasKeysOnce slots → record_at slots i ≡ Some r → Finds slots r.key (Some i)
finds_record slots i r once is = record {
  only = λ j. (
    λ e. let same : i ≡ j = cc in ap (key_at slots) (sym same) ∙ key_of_record slots i r is,
    λ e. ap (λ (n : ℕ). Some n) (once.once i j r.key (key_of_record slots i r is) e),
  );
}

-- WHAT A CHANGE MAKES OF THEM

-- a vacant slot, and one that has another key
pub changed_vacant : (f : StoreRecord → StoreRecord) (slots : Slots) (i : ℕ) → record_at slots i ≡ None → changed f slots i ≡ slots
changed_vacant f slots i none = ap (slice_set slots i) (ap (option_map f) none ∙ sym none) ∙ set-get_or slots i None

-- a slot that lacks the key before and after
set_other : (slots : Slots) (i : ℕ) (x : Option StoreRecord) (key : Bytes) → key_at slots i ≢ Some key → option_map (λ r. r.key) x ≢ Some key →
    version_of (slice_set slots i x) key ≡ version_of slots key
set_other [] i x key before after = refl
set_other (None ∷ slots) zero None key before after = refl
set_other (None ∷ slots) zero (Some r) key before after = first_lacks r slots key (not_same key r.key (λ e. after (ap (λ (k : Bytes). Some k) (sym e)))) ∙ sym (vacant_first slots key)
set_other (Some s ∷ slots) zero None key before after = vacant_first slots key ∙ sym (first_lacks s slots key (not_same key s.key (λ e. before (ap (λ (k : Bytes). Some k) (sym e)))))
set_other (Some s ∷ slots) zero (Some r) key before after =
    first_lacks r slots key (not_same key r.key (λ e. after (ap (λ (k : Bytes). Some k) (sym e))))
    ∙ sym (first_lacks s slots key (not_same key s.key (λ e. before (ap (λ (k : Bytes). Some k) (sym e)))))
set_other (None ∷ slots) (suc i) x key before after = vacant_first (slice_set slots i x) key ∙ set_other slots i x key before after ∙ sym (vacant_first slots key)
set_other (Some s ∷ slots) (suc i) x key before after =
    elim (keys key s.key) [
      | inl e ↦ first_has s (slice_set slots i x) key e ∙ sym (first_has s slots key e)
      | inr f ↦ first_lacks s (slice_set slots i x) key f ∙ set_other slots i x key before after ∙ sym (first_lacks s slots key f)
    ]

-- no key is new
keys_fewer : (slots after : Slots) → ((i : ℕ) (key : Bytes) → key_at after i ≡ Some key → key_at slots i ≡ Some key) → HasKeysOnce slots → HasKeysOnce after
keys_fewer slots after fewer once = record { once = λ i j key one two. once.once i j key (fewer i key one) (fewer j key two) }

edit_keys : (g : Option StoreRecord → Option StoreRecord) → g None ≡ None → ((o : Option StoreRecord) (key : Bytes) → option_map (λ r. r.key) (g o) ≡ Some key → option_map (λ r. r.key) o ≡ Some key) →
    (slots : Slots) (i j : ℕ) (key : Bytes) → key_at (slice_set slots i (g (record_at slots i))) j ≡ Some key → key_at slots j ≡ Some key
edit_keys g none keeps slots i j key is =
    elim (cases_eq j i) [
      | inl same ↦
          let there : option_map (λ (r : StoreRecord). r.key) (g (record_at slots i)) ≡ Some key = ap (option_map (λ (r : StoreRecord). r.key)) (sym (edited_here g none slots i)) ∙
          ap (key_at (slice_set slots i (g (record_at slots i)))) (sym same) ∙ is in
          ap (key_at slots) same ∙ keeps (record_at slots i) key there
      | inr differs ↦ ap (option_map (λ (r : StoreRecord). r.key)) (sym (get_or-set_other slots i j (g (record_at slots i)) None differs)) ∙ is
    ]

mapped_key : (f : StoreRecord → StoreRecord) → KeepsKey f → (o : Option StoreRecord) → option_map (λ r. r.key) (option_map f o) ≡ option_map (λ r. r.key) o
mapped_key f keeps None = refl
mapped_key f keeps (Some r) = ap (λ (k : Bytes). Some k) (keeps r)

pub once_changed : (f : StoreRecord → StoreRecord) (slots : Slots) (i : ℕ) → KeepsKey f → HasKeysOnce slots → HasKeysOnce (changed f slots i)
once_changed f slots i keeps once = keys_fewer slots (changed f slots i) (edit_keys (option_map f) refl (λ o key is. sym (mapped_key f keeps o) ∙ is) slots i) once

pub changed_here : (f : StoreRecord → StoreRecord) (slots : Slots) (i : ℕ) (r : StoreRecord) → KeepsKey f → HasKeysOnce slots → record_at slots i ≡ Some r →
    version_of (changed f slots i) r.key ≡ Some (version (f r))
changed_here f slots i r keeps once is =
    ap (version_of (changed f slots i)) (sym (keeps r))
    ∙ version_found (changed f slots i) i (f r) (once_changed f slots i keeps once) (edited_here (option_map f) refl slots i ∙ ap (option_map f) is)

pub changed_other : (f : StoreRecord → StoreRecord) (slots : Slots) (i : ℕ) (r : StoreRecord) (key : Bytes) → KeepsKey f → record_at slots i ≡ Some r → key ≢ r.key →
    version_of (changed f slots i) key ≡ version_of slots key
changed_other f slots i r key keeps is differs =
    let lacks : (key_at slots i ≢ Some key) = (λ e. let one : Some r.key ≡ Some key = sym (key_of_record slots i r is) ∙ e in differs (cc)) in
    set_other slots i (option_map f (record_at slots i)) key lacks (λ e. lacks (sym (mapped_key f keeps (record_at slots i)) ∙ e))

-- the key has a new version, and the others have theirs
by_key : (slots after : Slots) (k key : Bytes) (o : Option Version) → version_of after k ≡ o → (key ≢ k → version_of after key ≡ version_of slots key) →
    version_of after key ≡ cond (same key k) o (version_of slots key)
by_key slots after k key o here others =
    elim (keys key k) [
      | inl e ↦ ap (version_of after) e ∙ here ∙ sym (ap (λ b. cond b o (version_of slots key)) (ap (λ (q : Bytes). same q k) e ∙ same_refl k))
      | inr f ↦
          others (λ e. let yes : same key k ≡ true = ap (λ (q : Bytes). same q k) e ∙ same_refl k in true≢false (sym yes ∙ f))
          ∙ sym (ap (λ b. cond b o (version_of slots key)) f)
    ]

pub version_of-changed : (f : StoreRecord → StoreRecord) (slots : Slots) (i : ℕ) (r : StoreRecord) (key : Bytes) → KeepsKey f → HasKeysOnce slots → record_at slots i ≡ Some r →
    version_of (changed f slots i) key ≡ cond (same key r.key) (Some (version (f r))) (version_of slots key)
version_of-changed f slots i r key keeps once is = by_key slots (changed f slots i) r.key key _ (changed_here f slots i r keeps once is) (changed_other f slots i r key keeps is)

-- a change of each record, and one that no version shows
pub version_of-map : (f : StoreRecord → StoreRecord) (g : Version → Version) → KeepsKey f → ((r : StoreRecord) → version (f r) ≡ g (version r)) → (slots : Slots) (key : Bytes) →
    version_of (map (option_map f) slots) key ≡ option_map g (version_of slots key)
version_of-map f g keeps shows [] key = version_of-new key ∙ sym (ap (option_map g) (version_of-new key))
version_of-map f g keeps shows (None ∷ slots) key = vacant_first (map (option_map f) slots) key ∙ version_of-map f g keeps shows slots key ∙ sym (ap (option_map g) (vacant_first slots key))
version_of-map f g keeps shows (Some r ∷ slots) key =
    elim (keys key r.key) [
      | inl e ↦
          first_has (f r) (map (option_map f) slots) key (e ∙ sym (keeps r)) ∙ ap (λ (v : Version). Some v) (shows r) ∙ sym (ap (option_map g) (first_has r slots key e))
      | inr n ↦
          first_lacks (f r) (map (option_map f) slots) key (ap (same key) (keeps r) ∙ n) ∙ version_of-map f g keeps shows slots key ∙ sym (ap (option_map g) (first_lacks r slots key n))
    ]

pub version_of-rested : (slots : Slots) (key : Bytes) → version_of (map (option_map record_at_rest) slots) key ≡ option_map rested (version_of slots key)
version_of-rested slots key = version_of-map record_at_rest rested (λ r. refl) (λ r. refl) slots key

pub once_map : (f : StoreRecord → StoreRecord) (slots : Slots) → KeepsKey f → HasKeysOnce slots → HasKeysOnce (map (option_map f) slots)
once_map f slots keeps once =
    keys_fewer slots (map (option_map f) slots) (λ i key is. sym (mapped_key f keeps (record_at slots i)) ∙
    ap (option_map (λ (r : StoreRecord). r.key)) (sym (get_or-map (option_map f) slots i None)) ∙ is)
    once

pub once_rested : (slots : Slots) → HasKeysOnce slots → HasKeysOnce (map (option_map record_at_rest) slots)
once_rested slots once = once_map record_at_rest slots (λ r. refl) once

-- a change that no version shows
pub version_of-unseen : (f : StoreRecord → StoreRecord) → KeepsKey f → ((r : StoreRecord) → version (f r) ≡ version r) → (slots : Slots) (i : ℕ) (key : Bytes) →
    version_of (changed f slots i) key ≡ version_of slots key
version_of-unseen f keeps same_version [] i key = refl
version_of-unseen f keeps same_version (None ∷ slots) zero key = refl
version_of-unseen f keeps same_version (Some r ∷ slots) zero key =
    elim (keys key r.key) [
      | inl e ↦ first_has (f r) slots key (e ∙ sym (keeps r)) ∙ ap (λ (v : Version). Some v) (same_version r) ∙ sym (first_has r slots key e)
      | inr n ↦ first_lacks (f r) slots key (ap (same key) (keeps r) ∙ n) ∙ sym (first_lacks r slots key n)
    ]
version_of-unseen f keeps same_version (None ∷ slots) (suc i) key = vacant_first (changed f slots i) key ∙ version_of-unseen f keeps same_version slots i key ∙ sym (vacant_first slots key)
version_of-unseen f keeps same_version (Some s ∷ slots) (suc i) key =
    elim (keys key s.key) [
      | inl e ↦ first_has s (changed f slots i) key e ∙ sym (first_has s slots key e)
      | inr n ↦ first_lacks s (changed f slots i) key n ∙ version_of-unseen f keeps same_version slots i key ∙ sym (first_lacks s slots key n)
    ]

pub version_of-aside : (aside : Bool) (slots : Slots) (i : ℕ) (key : Bytes) → version_of (changed (with_aside aside) slots i) key ≡ version_of slots key
version_of-aside aside slots i key = version_of-unseen (with_aside aside) (λ r. refl) (λ r. refl) slots i key

-- A RECORD MORE

with_here : (slots : Slots) (i : ℕ) (r : StoreRecord) → ((j : ℕ) → key_at slots j ≢ Some r.key) → version_of (with_record slots i r) r.key ≡ Some (version r)
with_here [] zero r none = first_has r [] r.key refl
with_here [] (suc i) r none = vacant_first (with_record [] i r) r.key ∙ with_here [] i r none
with_here (s ∷ slots) zero r none = first_has r slots r.key refl
with_here (None ∷ slots) (suc i) r none = vacant_first (with_record slots i r) r.key ∙ with_here slots i r (λ j. none (suc j))
with_here (Some s ∷ slots) (suc i) r none =
    first_lacks s (with_record slots i r) r.key (not_same r.key s.key (λ e. none 0 (ap (λ (k : Bytes). Some k) (sym e)))) ∙ with_here slots i r (λ j. none (suc j))

with_other : (slots : Slots) (i : ℕ) (r : StoreRecord) (key : Bytes) → record_at slots i ≡ None → key ≢ r.key → version_of (with_record slots i r) key ≡ version_of slots key
with_other [] zero r key vacant differs = first_lacks r [] key (not_same key r.key differs)
with_other [] (suc i) r key vacant differs = vacant_first (with_record [] i r) key ∙ with_other [] i r key vacant differs
with_other (None ∷ slots) zero r key vacant differs = first_lacks r slots key (not_same key r.key differs) ∙ sym (vacant_first slots key)
with_other (Some s ∷ slots) zero r key vacant differs = absurd (cc)
with_other (None ∷ slots) (suc i) r key vacant differs = vacant_first (with_record slots i r) key ∙ with_other slots i r key vacant differs ∙ sym (vacant_first slots key)
with_other (Some s ∷ slots) (suc i) r key vacant differs =
    elim (keys key s.key) [
      | inl e ↦ first_has s (with_record slots i r) key e ∙ sym (first_has s slots key e)
      | inr n ↦ first_lacks s (with_record slots i r) key n ∙ with_other slots i r key vacant differs ∙ sym (first_lacks s slots key n)
    ]

pub created_here : (slots : Slots) (i : ℕ) (key : Bytes) (available : Bool) → Finds slots key None → version_of (with_record slots i (new_record key available)) key ≡ Some (new_version available)
created_here slots i key available finds = with_here slots i (new_record key available) (λ j. not_found slots key j finds)

pub created_other : (slots : Slots) (i : ℕ) (k : Bytes) (available : Bool) (key : Bytes) → record_at slots i ≡ None → key ≢ k →
    version_of (with_record slots i (new_record k available)) key ≡ version_of slots key
created_other slots i k available key vacant differs = with_other slots i (new_record k available) key vacant differs

pub version_of-created : (slots : Slots) (i : ℕ) (k : Bytes) (available : Bool) (key : Bytes) → record_at slots i ≡ None → Finds slots k None →
    version_of (with_record slots i (new_record k available)) key ≡ cond (same key k) (Some (new_version available)) (version_of slots key)
version_of-created slots i k available key vacant finds = by_key slots (with_record slots i (new_record k available)) k key _ (created_here slots i k available finds)
    (created_other slots i k available key vacant)

with_keys : (slots : Slots) (i : ℕ) (r : StoreRecord) (j : ℕ) (key : Bytes) → key_at (with_record slots i r) j ≡ Some key → ((j ≡ i) × (r.key ≡ key)) ⊎ (key_at slots j ≡ Some key)
with_keys slots i r j key is =
    elim (cases_eq j i) [
      | inl e ↦
          let one : Some r.key ≡ Some key = sym (ap (key_at (with_record slots i r)) e ∙ ap (option_map (λ (r : StoreRecord). r.key)) (at_with_here slots i r)) ∙ is in
          inl (e, cc)
      | inr differs ↦ inr (ap (option_map (λ (r : StoreRecord). r.key)) (sym (at_with_other slots i r j differs)) ∙ is)
    ]

once_with : (slots : Slots) (i : ℕ) (r : StoreRecord) → ((j : ℕ) → key_at slots j ≢ Some r.key) → HasKeysOnce slots → HasKeysOnce (with_record slots i r)
once_with slots i r none once = record {
  once = λ m n key one two. elim (with_keys slots i r m key one) [
    | inl a ↦ elim (with_keys slots i r n key two) [
      | inl b ↦ a.0 ∙ sym b.0
      | inr b ↦ absurd (none n (b ∙ ap (λ (k : Bytes). Some k) (sym a.1)))
    ]
    | inr a ↦ elim (with_keys slots i r n key two) [
      | inl b ↦ absurd (none m (a ∙ ap (λ (k : Bytes). Some k) (sym b.1)))
      | inr b ↦ once.once m n key a b
    ]
  ];
}

pub once_created : (slots : Slots) (i : ℕ) (key : Bytes) (available : Bool) → Finds slots key None → HasKeysOnce slots → HasKeysOnce (with_record slots i (new_record key available))
once_created slots i key available finds once = once_with slots i (new_record key available) (λ j. not_found slots key j finds) once

-- A RECORD LESS

unless_key_by : (r : StoreRecord) (key : Bytes) (b : Bool) → option_map (λ r. r.key) (cond b None (Some r)) ≡ Some key → Some r.key ≡ Some key
unless_key_by r key true is = absurd (cc)
unless_key_by r key false is = is

unless_key : (o : Option StoreRecord) (key : Bytes) → option_map (λ r. r.key) (option_and_then unless_dead o) ≡ Some key → option_map (λ r. r.key) o ≡ Some key
unless_key None key is = is
unless_key (Some r) key is = unless_key_by r key (is_none r.live) is

pub once_reclaimed : (slots : Slots) (i : ℕ) → HasKeysOnce slots → HasKeysOnce (reclaimed slots i)
once_reclaimed slots i once = keys_fewer slots (reclaimed slots i) (edit_keys (option_and_then unless_dead) refl unless_key slots i) once

dead_goes : (r : StoreRecord) → r.live ≡ None → unless_dead r ≡ None
dead_goes r dead = ap (λ b. cond b None (Some r)) (ap is_none dead)

pub reclaimed_here : (slots : Slots) (i : ℕ) (r : StoreRecord) → HasKeysOnce slots → record_at slots i ≡ Some r → r.live ≡ None → version_of (reclaimed slots i) r.key ≡ None
reclaimed_here slots i r once is dead =
    none_has (reclaimed slots i) r.key (λ j there.
    let was : key_at slots j ≡ Some r.key = edit_keys (option_and_then unless_dead) refl unless_key slots i j r.key there in
    let j_is : j ≡ i = once.once j i r.key was (key_of_record slots i r is) in
    let gone : record_at (reclaimed slots i) i ≡ None = edited_here (option_and_then unless_dead) refl slots i ∙ ap (option_and_then unless_dead) is ∙ dead_goes r dead in
    let none : key_at (reclaimed slots i) j ≡ None = ap (key_at (reclaimed slots i)) j_is ∙ ap (option_map (λ (r : StoreRecord). r.key)) gone in
    absurd (cc))

pub reclaimed_other : (slots : Slots) (i : ℕ) (r : StoreRecord) (key : Bytes) → record_at slots i ≡ Some r → key ≢ r.key → version_of (reclaimed slots i) key ≡ version_of slots key
reclaimed_other slots i r key is differs =
    let lacks : (key_at slots i ≢ Some key) = (λ e. let one : Some r.key ≡ Some key = sym (key_of_record slots i r is) ∙ e in differs (cc)) in
    set_other slots i (option_and_then unless_dead (record_at slots i)) key lacks (λ e. lacks (unless_key (record_at slots i) key e))

pub version_of-reclaimed : (slots : Slots) (i : ℕ) (r : StoreRecord) (key : Bytes) → HasKeysOnce slots → record_at slots i ≡ Some r → r.live ≡ None →
    version_of (reclaimed slots i) key ≡ cond (same key r.key) None (version_of slots key)
version_of-reclaimed slots i r key once is dead = by_key slots (reclaimed slots i) r.key key None (reclaimed_here slots i r once is dead) (reclaimed_other slots i r key is)

-- a slot without a dead record stays
pub reclaimed_live : (slots : Slots) (i : ℕ) (r : StoreRecord) (v : Bytes) → record_at slots i ≡ Some r → r.live ≡ Some v → reclaimed slots i ≡ slots
reclaimed_live slots i r v is live = ap (slice_set slots i) (ap (option_and_then unless_dead) is ∙ ap (λ b. cond b None (Some r)) (ap is_none live) ∙ sym is) ∙ set-get_or slots i None

pub reclaimed_vacant : (slots : Slots) (i : ℕ) → record_at slots i ≡ None → reclaimed slots i ≡ slots
reclaimed_vacant slots i none = ap (slice_set slots i) (ap (option_and_then unless_dead) none ∙ sym none) ∙ set-get_or slots i None
