-- Edits of a store's records, as changes of the versions by key.
use Rattle.std.proofs.Common.{◌≡◌, ℕ, zero, suc, ◌+◌, ◌≤◌, arith, Bool, true, false, cond, List, [], ◌∷◌, ◌++◌, Option, Some, None, is_some, option_and_then, ◌||◌, true≢false, refl, sym, ap, ◌∙◌, inl, inr, slice_set}
use Rattle.std.specs.Option.{option_map, option_or}
use Rattle.std.specs.FinMap as fin
use Rattle.std.specs.Cmp.Lexicographic.{nat_list_cmp_total}
use Rattle.record_store.specs.ChangedSets.{KeySet, has, count, with_member}
use Rattle.record_store.proofs.ChangedKeys.{has-with_key}
use Rattle.procedure.specs.Bytes.{Bytes, Cell, same}
use Rattle.procedure.proofs.Base.{keys, same_pointwise, same_refl}
use Rattle.phase.specs.declared.phases.Phase.{Phase}
use Rattle.phase.specs.declared.phases.Phase.TheVariants.{Prepare}
use Rattle.record_store.specs.Stores.{StoreRecord, Slots, HasKeysOnce, Finds, changed, record_at, live_at, new_record, with_record, with_live, with_stable, with_copy, with_available, with_aside}
use Rattle.record_store.specs.Versions as stored
use Rattle.record_store.proofs.Versions.{no_key, version_of-aside, version_of-changed, version_of-created, version_none, version_found, record_found, finds_record, once_created}
use Rattle.record_store.proofs.Making.{at_with_here}
use Rattle.record_store.specs.declared.records.Stable.TheVariants.{Empty}
use Rattle.steps.specs.Versions.{KeyVersions, VersionsByKey, copied, copied_late, undone, undone_key, kept, kept_key, wrote, live_version, is_late, cell_of, key_versions, versions_in, Noted}
use Rattle.steps.specs.inside.RecordEdits.{IsFound, stored_stable, with_version, edited, written_versions, first_noted, all_undone, all_kept, undone_version, is_available, available_at}

pub changed_twice : (f g : StoreRecord → StoreRecord) (slots : Slots) (i : ℕ) → changed g (changed f slots i) i ≡ changed (λ r. g (f r)) slots i
changed_twice f g [] i = refl
changed_twice f g (None ∷ slots) zero = refl
changed_twice f g (Some r ∷ slots) zero = refl
changed_twice f g (x ∷ slots) (suc i) = ap (λ (l : Slots). x ∷ l) (changed_twice f g slots i)

-- two changes that do the same to the record in the slot
pub changed_as : (f g : StoreRecord → StoreRecord) (slots : Slots) (i : ℕ) → option_map f (record_at slots i) ≡ option_map g (record_at slots i) → changed f slots i ≡ changed g slots i
changed_as f g slots i e = ap (slice_set slots i) e

cell_stable : (s : Option Cell) → cell_of (stored_stable s) ≡ s
cell_stable None = refl
cell_stable (Some x) = refl

shown_edited : (f : KeyVersions → KeyVersions) (r : StoreRecord) → key_versions (stored.version (edited f r)) ≡ f (key_versions (stored.version r))
shown_edited f r =
    let v = f (key_versions (stored.version r)) in
    ap (λ (s : Option Cell). record { live = v.live; stable = s; available = v.available }) (cell_stable v.stable)

push : (b : Bool) (x y : Option stored.Version) → option_map key_versions (cond b x y) ≡ cond b (option_map key_versions x) (option_map key_versions y)
push true x y = refl
push false x y = refl

cond_same : {X : Type 0} (b : Bool) (x y z : X) → cond b x (cond b y z) ≡ cond b x z
cond_same true x y z = refl
cond_same false x y z = refl

-- a key that has this has it
pub cond_self : {X : Type 0} (f : Bytes → X) (k q : Bytes) (x : X) → f k ≡ x → cond (same q k) x (f q) ≡ f q
cond_self {X} f k q x is =
    elim (keys q k) [
      | inl e ↦ ap (λ b. cond b x (f q)) (ap (λ z. same z k) e ∙ same_refl k) ∙ sym is ∙ sym (ap f e)
      | inr n ↦ ap (λ b. cond b x (f q)) n
    ]

-- the record in the slot of a key
pub found_in :
    (slots : Slots) (i : ℕ) (key : Bytes) → HasKeysOnce slots → Finds slots key (Some i) →
    (r : StoreRecord) × (record_at slots i ≡ Some r) × (versions_in slots key ≡ Some (key_versions (stored.version r)))
unfolding versions_in
found_in slots i key once finds =
    let found = record_found slots key i finds in
    (found.0, found.1, ap (option_map key_versions) (ap (stored.version_of slots) (sym found.2) ∙ version_found slots i found.0 once found.1))

pub none_in : (slots : Slots) (key : Bytes) → Finds slots key None → versions_in slots key ≡ None
unfolding versions_in
none_in slots key finds = ap (option_map key_versions) (version_none slots key finds)

-- a key without a version has no record
pub none_found : (slots : Slots) (key : Bytes) → HasKeysOnce slots → versions_in slots key ≡ None → IsFound slots key None
unfolding versions_in
none_found slots key once none = record {
  finds = record { only = λ slot. (λ e. absurd (cc), λ at. absurd (no_key slots key (unmapped (stored.version_of slots key) none) slot at)) };
  once = once;
}
  where
    unmapped : (o : Option stored.Version) → option_map key_versions o ≡ None → o ≡ None
    unmapped None e = refl
    unmapped (Some v) e = absurd (cc)

pub live_in : (slots : Slots) (i : ℕ) (key : Bytes) → HasKeysOnce slots → Finds slots key (Some i) → live_at slots i ≡ live_version (versions_in slots key)
live_in slots i key once finds =
    let found = found_in slots i key once finds in
    ap (λ (o : Option StoreRecord). option_and_then (λ r. r.live) o) found.1 ∙ sym (ap live_version found.2)

-- an edit of the record of a key
pub versions_edited :
    (f : KeyVersions → KeyVersions) (slots : Slots) (i : ℕ) (key q : Bytes) → HasKeysOnce slots → Finds slots key (Some i) →
    versions_in (changed (edited f) slots i) q ≡ cond (same q key) (option_map f (versions_in slots key)) (versions_in slots q)
unfolding versions_in
versions_edited f slots i key q once finds =
    let found = record_found slots key i finds in
    let r = found.0 in
    let here : option_map key_versions (stored.version_of slots key) ≡ Some (key_versions (stored.version r)) =
    ap (option_map key_versions) (ap (stored.version_of slots) (sym found.2) ∙ version_found slots i r once found.1) in
    ap (option_map key_versions) (version_of-changed (edited f) slots i r q (λ x. refl) once found.1)
    ∙ push (same q r.key) (Some (stored.version (edited f r))) (stored.version_of slots q)
    ∙ ap (λ (k : Bytes). cond (same q k) (Some (key_versions (stored.version (edited f r)))) (option_map key_versions (stored.version_of slots q))) found.2
    ∙ ap (λ (o : Option KeyVersions). cond (same q key) o (option_map key_versions (stored.version_of slots q))) (ap (λ (v : KeyVersions). Some v) (shown_edited f r) ∙ sym (ap (option_map f) here))

-- a write to a key that has a record
pub versions_written :
    (phase start : Phase) (x : Cell) (slots : Slots) (i : ℕ) (key q : Bytes) → HasKeysOnce slots → Finds slots key (Some i) →
    versions_in (changed (edited (written_versions start x)) slots i) q ≡ cond (same q key) (Some (wrote phase start (versions_in slots key) x)) (versions_in slots q)
versions_written phase start x slots i key q once finds =
    let found = found_in slots i key once finds in
    versions_edited (written_versions start x) slots i key q once finds
    ∙ ap (λ (o : Option KeyVersions). cond (same q key) o (versions_in slots q))
    (ap (option_map (written_versions start x)) found.2 ∙ sym (ap (λ (o : Option KeyVersions). Some (wrote phase start o x)) found.2))

-- who is set aside changes no version
pub versions_aside : (aside : Bool) (slots : Slots) (i : ℕ) (q : Bytes) → versions_in (changed (with_aside aside) slots i) q ≡ versions_in slots q
unfolding versions_in
versions_aside aside slots i q = ap (option_map key_versions) (version_of-aside aside slots i q)

-- a write to a key that has none
versions_created :
    (slots : Slots) (i : ℕ) (key q : Bytes) (available : Bool) → record_at slots i ≡ None → Finds slots key None →
    versions_in (with_record slots i (new_record key available)) q ≡ cond (same q key) (Some (key_versions (stored.new_version available))) (versions_in slots q)
unfolding versions_in
versions_created slots i key q available vacant finds =
    ap (option_map key_versions) (version_of-created slots i key available q vacant finds) ∙ push (same q key) (Some (stored.new_version available)) (stored.version_of slots q)

pub finds_created : (slots : Slots) (i : ℕ) (key : Bytes) (available : Bool) → HasKeysOnce slots → Finds slots key None → Finds (with_record slots i (new_record key available)) key (Some i)
finds_created slots i key available once finds =
    finds_record (with_record slots i (new_record key available)) i (new_record key available) (once_created slots i key available finds once) (at_with_here slots i (new_record key available))

pub live_created : (slots : Slots) (i : ℕ) (key : Bytes) (available : Bool) → live_at (with_record slots i (new_record key available)) i ≡ None
live_created slots i key available = ap (λ (o : Option StoreRecord). option_and_then (λ r. r.live) o) (at_with_here slots i (new_record key available))

pub versions_made : (phase start : Phase) (x : Cell) (slots : Slots) (i : ℕ) (key q : Bytes) → HasKeysOnce slots → record_at slots i ≡ None → Finds slots key None → versions_in
    (changed (edited (written_versions start x)) (with_record slots i (new_record key (is_late phase))) i) q ≡ cond (same q key) (Some (wrote phase start (versions_in slots key) x))
    (versions_in slots q)
versions_made phase start x slots i key q once vacant finds =
    let new = with_record slots i (new_record key (is_late phase)) in
    let fresh : Option KeyVersions = Some (key_versions (stored.new_version (is_late phase))) in
    let here : versions_in new key ≡ fresh = versions_created slots i key key (is_late phase) vacant finds ∙ ap (λ b. cond b fresh (versions_in slots key)) (same_refl key) in
    versions_edited (written_versions start x) new i key q (once_created slots i key (is_late phase) finds once) (finds_created slots i key (is_late phase) once finds)
    ∙ ap (λ (o : Option KeyVersions). cond (same q key) (option_map (written_versions start x) o) (versions_in new q)) here
    ∙ ap (λ (o : Option KeyVersions). cond (same q key) (option_map (written_versions start x) fresh) o) (versions_created slots i key q (is_late phase) vacant finds)
    ∙ cond_same (same q key) (option_map (written_versions start x) fresh) fresh (versions_in slots q)
    ∙ sym (ap (λ (o : Option KeyVersions). cond (same q key) (Some (wrote phase start o x)) (versions_in slots q)) (none_in slots key finds))

-- undoing one write
unmapped : (x : Cell) (o : Option KeyVersions) → option_map (undone_version x) o ≡ undone_key (Some x) o
unmapped x None = refl
unmapped x (Some v) = refl

pub versions_undone :
    (x : Cell) (slots : Slots) (i : ℕ) (key q : Bytes) → HasKeysOnce slots → Finds slots key (Some i) →
    versions_in (changed (edited (undone_version x)) slots i) q ≡ cond (same q key) (undone_key (Some x) (versions_in slots key)) (versions_in slots q)
versions_undone x slots i key q once finds =
    versions_edited (undone_version x) slots i key q once finds
    ∙ ap (λ (o : Option KeyVersions). cond (same q key) o (versions_in slots q)) (unmapped x (versions_in slots key))

pub none_undone : (x : Cell) (slots : Slots) (key q : Bytes) → Finds slots key None → versions_in slots q ≡ cond (same q key) (undone_key (Some x) (versions_in slots key)) (versions_in slots q)
none_undone x slots key q finds =
    let none = none_in slots key finds in
    sym (cond_self (versions_in slots) key q (undone_key (Some x) (versions_in slots key)) (none ∙ sym (ap (undone_key (Some x)) none)))

erased_by : (x : Cell) (r : StoreRecord) (a : Bool) → r.available ≡ a → a ≡ false → with_stable Empty (with_live x r) ≡ with_version r (undone a x (key_versions (stored.version r)))
erased_by x r true is e = absurd (true≢false e)
erased_by x r false is e = ap (λ b. record { key = r.key; live = x; stable = Empty; available = b; aside = r.aside }) is

erased : (x : Cell) (o : Option StoreRecord) → is_available o ≡ false → option_map (λ r. with_stable Empty (with_live x r)) o ≡ option_map (edited (undone_version x)) o
erased x None e = refl
erased x (Some r) e = ap (λ (r : StoreRecord). Some r) (erased_by x r r.available refl e)

pub record_undone : (x : Cell) (slots : Slots) (i : ℕ) → available_at slots i ≡ false → changed (with_stable Empty) (changed (with_live x) slots i) i ≡ changed (edited (undone_version x)) slots i
record_undone x slots i e =
    changed_twice (with_live x) (with_stable Empty) slots i ∙ changed_as (λ r. with_stable Empty (with_live x r)) (edited (undone_version x)) slots i (erased x (record_at slots i) e)

-- a copy made late
late_by : (r : StoreRecord) (a : Bool) → r.available ≡ a → a ≡ false → with_available true (with_copy r) ≡ with_version r (copied_late a (key_versions (stored.version r)))
late_by r true is e = absurd (true≢false e)
late_by r false is e = refl

late : (o : Option StoreRecord) → is_available o ≡ false → option_map (λ r. with_available true (with_copy r)) o ≡ option_map (edited (λ v. copied_late v.available v)) o
late None e = refl
late (Some r) e = ap (λ (r : StoreRecord). Some r) (late_by r r.available refl e)

pub record_copied : (slots : Slots) (i : ℕ) → available_at slots i ≡ false → changed (with_available true) (changed with_copy slots i) i ≡ changed (edited (λ v. copied_late v.available v)) slots i
record_copied slots i e =
    changed_twice with_copy (with_available true) slots i ∙ changed_as (λ r. with_available true (with_copy r)) (edited (λ v. copied_late v.available v)) slots i (late (record_at slots i) e)

-- a write after its copy
pub record_written : (start : Phase) (x : Cell) (slots : Slots) (i : ℕ) → changed (with_live x) (changed (edited (copied start)) slots i) i ≡ changed (edited (written_versions start x)) slots i
record_written start x slots i = changed_twice (edited (copied start)) (with_live x) slots i

-- keeping one write
not_prepared : (start phase : Phase) (v : KeyVersions) → (start ≡ Prepare → ⊥) → kept start phase v ≡ v
not_prepared Prepare phase v other = absurd (other refl)
not_prepared _ phase v other = refl

not_prepared_key : (start phase : Phase) (o : Option Cell) (v : Option KeyVersions) → (start ≡ Prepare → ⊥) → kept_key start phase o v ≡ v
not_prepared_key start phase None v other = refl
not_prepared_key start phase (Some x) None other = refl
not_prepared_key start phase (Some x) (Some v) other = ap (λ (v : KeyVersions). Some v) (not_prepared start phase v other)

-- a call that began in another phase than prepare keeps its writes as they are
pub kept_as_is : (start phase : Phase) (ns : List Noted) (vs : VersionsByKey) (q : Bytes) → (start ≡ Prepare → ⊥) → vs q ≡ all_kept start phase ns vs q
kept_as_is start phase ns vs q other = sym (not_prepared_key start phase (first_noted ns q) (vs q) other)

kept_mapped : (start phase : Phase) (o : Option KeyVersions) → option_map (kept start phase) o ≡ kept_key start phase (Some None) o
kept_mapped start phase None = refl
kept_mapped start phase (Some v) = refl

pub versions_kept :
    (start phase : Phase) (slots : Slots) (i : ℕ) (key q : Bytes) → HasKeysOnce slots → Finds slots key (Some i) →
    versions_in (changed (edited (kept start phase)) slots i) q ≡ cond (same q key) (kept_key start phase (Some None) (versions_in slots key)) (versions_in slots q)
versions_kept start phase slots i key q once finds =
    versions_edited (kept start phase) slots i key q once finds
    ∙ ap (λ (o : Option KeyVersions). cond (same q key) o (versions_in slots q)) (kept_mapped start phase (versions_in slots key))

pub none_kept :
    (start phase : Phase) (slots : Slots) (key q : Bytes) → Finds slots key None →
    versions_in slots q ≡ cond (same q key) (kept_key start phase (Some None) (versions_in slots key)) (versions_in slots q)
none_kept start phase slots key q finds =
    let none = none_in slots key finds in
    sym (cond_self (versions_in slots) key q (kept_key start phase (Some None) (versions_in slots key)) (none ∙ sym (ap (kept_key start phase (Some None)) none)))

-- ONE AFTER ANOTHER

kept_twice_by : (start phase : Phase) (v : KeyVersions) → kept start phase (kept start phase v) ≡ kept start phase v
kept_twice_by Prepare Prepare v = refl
kept_twice_by _ _ v = refl

kept_twice : (start phase : Phase) (x : Cell) (o : Option Cell) (v : Option KeyVersions) → kept_key start phase o (kept_key start phase (Some None) v) ≡ kept_key start phase (Some x) v
kept_twice start phase x (Some y) (Some v) = ap (λ (v : KeyVersions). Some v) (kept_twice_by start phase v)
kept_twice start phase x _ _ = refl

pub kept_more :
    (start phase : Phase) (n : Noted) (ns : List Noted) (before after : VersionsByKey) (q : Bytes) →
    ((k : Bytes) → after k ≡ cond (same k n.0) (kept_key start phase (Some None) (before n.0)) (before k)) → all_kept start phase ns after q ≡ all_kept start phase (n ∷ ns) before q
kept_more start phase n ns before after q step =
    elim (keys q n.0) [
      | inl e ↦
          let yes : same q n.0 ≡ true = ap (λ z. same z n.0) e ∙ same_refl n.0 in
          ap (kept_key start phase (first_noted ns q))
          (step q ∙ ap (λ b. cond b (kept_key start phase (Some None) (before n.0)) (before q)) yes ∙ ap (λ z. kept_key start phase (Some None) (before z)) (sym e))
          ∙ kept_twice start phase n.1 (first_noted ns q) (before q)
          ∙ sym (ap (λ b. kept_key start phase (cond b (Some n.1) (first_noted ns q)) (before q)) yes)
      | inr differs ↦
          ap (kept_key start phase (first_noted ns q)) (step q ∙ ap (λ b. cond b (kept_key start phase (Some None) (before n.0)) (before q)) differs)
          ∙ sym (ap (λ b. kept_key start phase (cond b (Some n.1) (first_noted ns q)) (before q)) differs)
    ]

undone_twice : (y x : Cell) (v : Option KeyVersions) → undone_key (Some y) (undone_key (Some x) v) ≡ undone_key (Some y) v
undone_twice y x None = refl
undone_twice y x (Some v) = ap (λ (v : KeyVersions). Some v) (by v.available refl)
  where
    by : (a : Bool) → v.available ≡ a → undone (undone a x v).available y (undone a x v) ≡ undone a y v
    by true e = ap (λ b. undone b y (undone true x v)) e
    by false e = refl

-- what was noted first, with one note more at the end
pub first_push : (ns : List Noted) (n : Noted) (q : Bytes) → first_noted (ns ++ n ∷ []) q ≡ option_or (first_noted ns q) (cond (same q n.0) (Some n.1) None)
first_push [] n q = refl
first_push (m ∷ ns) n q = by (same q m.0) (first_push ns n q)
  where
    by :
        (b : Bool) → first_noted (ns ++ n ∷ []) q ≡ option_or (first_noted ns q) (cond (same q n.0) (Some n.1) None) →
        cond b (Some m.1) (first_noted (ns ++ n ∷ []) q) ≡ option_or (cond b (Some m.1) (first_noted ns q)) (cond (same q n.0) (Some n.1) None)
    by true rest = refl
    by false rest = rest

pub undone_last :
    (n : Noted) (ns : List Noted) (before after : VersionsByKey) (q : Bytes) → ((k : Bytes) → after k ≡ cond (same k n.0) (undone_key (Some n.1) (before n.0)) (before k)) →
    all_undone ns after q ≡ all_undone (ns ++ n ∷ []) before q
undone_last n ns before after q step =
    elim (keys q n.0) [
      | inl e ↦
          let yes : same q n.0 ≡ true = ap (λ z. same z n.0) e ∙ same_refl n.0 in
          ap (undone_key (first_noted ns q)) (step q ∙ ap (λ b. cond b (undone_key (Some n.1) (before n.0)) (before q)) yes ∙ ap (λ z. undone_key (Some n.1) (before z)) (sym e))
          ∙ both (first_noted ns q)
          ∙ sym (ap (λ o. undone_key o (before q)) (first_push ns n q ∙ ap (λ b. option_or (first_noted ns q) (cond b (Some n.1) None)) yes))
      | inr differs ↦
          ap (undone_key (first_noted ns q)) (step q ∙ ap (λ b. cond b (undone_key (Some n.1) (before n.0)) (before q)) differs)
          ∙ sym (ap (λ o. undone_key o (before q)) (first_push ns n q ∙ ap (λ b. option_or (first_noted ns q) (cond b (Some n.1) None)) differs ∙ or_none (first_noted ns q)))
    ]
  where
    both : (o : Option Cell) → undone_key o (undone_key (Some n.1) (before q)) ≡ undone_key (option_or o (Some n.1)) (before q)
    both None = refl
    both (Some y) = undone_twice y n.1 (before q)

    or_none : (o : Option Cell) → option_or o None ≡ o
    or_none None = refl
    or_none (Some y) = refl

-- one key more is collected
or_first : (b : Bool) (x : Cell) (o : Option Cell) (c : Bool) → (is_some o || (b || c)) ≡ (is_some (cond b (Some x) o) || c)
or_first true x None c = refl
or_first true x (Some y) c = refl
or_first false x o c = refl

pub collected_more : (s : KeySet) (n : Noted) (ns : List Noted) (q : Bytes) → (is_some (first_noted ns q) || has (with_member s n.0) q) ≡ (is_some (first_noted (n ∷ ns) q) || has s q)
collected_more s n ns q =
    ap (λ b. is_some (first_noted ns q) || b) (has-with_key s n.0 q ∙ ap (λ b. b || has s q) (same_pointwise q n.0)) ∙ or_first (same q n.0) n.1 (first_noted ns q) (has s q)

at_most_one : (b : Bool) (n m : ℕ) → m ≡ cond b n (n + 1) → m ≤ n + 1
at_most_one true n m e = omega arith
at_most_one false n m e = omega arith

pub count-with_key : (s : KeySet) (k : Bytes) → count (with_member s k) ≤ count s + 1
count-with_key s k = at_most_one (has s k) (count s) (count (with_member s k)) (fin.len-insert nat_list_cmp_total s k tt)
