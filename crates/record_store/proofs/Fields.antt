-- The slots that a store's fields stand for, and how they change.
use Rattle.std.proofs.Common.{◌≡◌, ◌≢◌, ℕ, zero, suc, ◌+◌, ◌<◌, ◌≤◌, ◌⊎◌, inl, inr, cond, List, [], ◌∷◌, length, drop, get_or, map, count_by, Option, Some, None, is_none, is_some, not, Bool, ◌&&◌, option_map, refl, sym, ap, ◌∙◌, subst, arith, slice_set, length-set, get_or-set_same, get_or-set_other, nat_eq}
use Rattle.std.proofs.Math.ListN.{get_or-map}
use Rattle.std.proofs.lemmas.Bool.{cases_eq, false≢true}
use Rattle.std.proofs.Common.{true, false}
use Rattle.std.proofs.lemmas.List.{get_or_past, get_or_default, same_lists, length-map}
use Rattle.std.proofs.Common.{IfSome, IfNone, OnErr, Result, Ok, Err}
use Rattle.record_store.proofs.Seen.{not_same}
use Rattle.std.proofs.lemmas.List.Sums.{sum_by-cons}
use Rattle.std.specs.Option.{option_and_then}
use Rattle.std.specs.Cmp.Lexicographic.{pointwise}
use Rattle.indexmap.specs.IndexMap.{get as found_at}
use Rattle.procedure.specs.Bytes.{Bytes, Cell}
use Rattle.record_store.specs.DeadKeys.{IsLeast, SameKey, offer_at}
use Rattle.record_store.specs.Stores.{StoreRecord, Slots, Finds, IsLeastCandidate, HasKeysOnce, record_at_rest, record_at, key_at, changed, candidate_at, candidate_key, is_live, live_count}
use Rattle.record_store.specs.Entries.{Entry, cleaned, entry_at, entry_changed, live_entries, live_of, offer_of, seen, taken, with_entry_copy, with_entry_live, with_entry_stable}
use Rattle.record_store.specs.Fields.{AreVacant, HasNot, slots_of, entry_key, IsMarked, IsStore}
use Rattle.record_store.specs.declared.stores.Store.TheInside.{Inside}

pub in_order : (x y : ℕ) → (x < y) ⊎ (y ≤ x)
in_order x zero = inr (omega arith)
in_order zero (suc y) = inl (omega arith)
in_order (suc x) (suc y) = elim (in_order x y) [ inl h ↦ inl (omega arith) | inr h ↦ inr (omega arith) ]

same_slots : {X : Type 0} (xs ys : List (Option X)) → length xs ≡ length ys → ((i : ℕ) → get_or xs i None ≡ get_or ys i None) → xs ≡ ys
same_slots xs ys len same = same_lists xs ys len (λ k d within. get_or_default xs k d None within ∙ same k ∙ get_or_default ys k None d (omega arith))

-- an edit of one slot, by a function that leaves a vacant one vacant
pub edited_here : {X : Type 0} (g : Option X → Option X) → g None ≡ None → (xs : List (Option X)) (slot : ℕ) → get_or (slice_set xs slot (g (get_or xs slot None))) slot None ≡ g (get_or xs slot None)
edited_here g none xs slot =
    elim (in_order slot (length xs)) [
      | inl within ↦ get_or-set_same xs slot _ None within
      | inr past ↦ get_or_past (slice_set xs slot (g (get_or xs slot None))) slot None (omega (arith, length-set xs slot (g (get_or xs slot None)))) ∙ sym (ap g (get_or_past xs slot None past) ∙ none)
    ]

pub count_edit : {X : Type 0} (f : X → X) (xs : List (Option X)) (slot : ℕ) → count_by is_some (slice_set xs slot (option_map f (get_or xs slot None))) ≡ count_by is_some xs
count_edit f [] slot = refl
count_edit f (None ∷ xs) zero = refl
count_edit f (Some x ∷ xs) zero = omega (arith, sum_by-cons (λ o. cond (is_some o) 1 0) (Some x) xs, sum_by-cons (λ o. cond (is_some o) 1 0) (Some (f x)) xs)
count_edit f (o ∷ xs) (suc slot) = omega (
  arith,
  count_edit f xs slot,
  sum_by-cons (λ o. cond (is_some o) 1 0) o xs,
  sum_by-cons (λ o. cond (is_some o) 1 0) o (slice_set xs slot (option_map f (get_or xs slot None))),
)

count_map : {X Y : Type 0} (f : X → Y) (xs : List (Option X)) → count_by is_some (map (option_map f) xs) ≡ count_by is_some xs
count_map f [] = refl
count_map f (None ∷ xs) = omega (arith, count_map f xs, sum_by-cons (λ o. cond (is_some o) 1 0) None xs, sum_by-cons (λ o. cond (is_some o) 1 0) None (map (option_map f) xs))
count_map f (Some x ∷ xs) = omega (arith, count_map f xs, sum_by-cons (λ o. cond (is_some o) 1 0) (Some x) xs, sum_by-cons (λ o. cond (is_some o) 1 0) (Some (f x)) (map (option_map f) xs))

map_twice : {X Y Z W : Type 0} (f : X → Y) (g : Y → W) (h : X → Z) (k : Z → W) → ((x : X) → g (f x) ≡ k (h x)) → (o : Option X) → option_map g (option_map f o) ≡ option_map k (option_map h o)
map_twice f g h k same None = refl
map_twice f g h k same (Some x) = ap (λ w. Some w) (same x)

abbrev pub live_of_record : Option StoreRecord → Cell
live_of_record o = option_and_then (λ r. r.live) o

none_is_some : (n : ℕ) → None ≡ Some n → false ≡ true
none_is_some n e = cc

pub not_found : (slots : Slots) (key : Bytes) (slot : ℕ) → Finds slots key None → key_at slots slot ≢ Some key
not_found slots key slot finds is = absurd (false≢true (none_is_some slot ((finds.only slot).1 is)))

pub on_err : {X E : Type 0} {P : Type 0} (r : Result X E) → P → OnErr r P
on_err (Ok x) p = tt
on_err (Err e) p = p

same_turn : (x y : Cell) → is_some x ≡ is_some y → is_none x ≡ is_none y
same_turn None None h = refl
same_turn None (Some y) h = absurd (cc)
same_turn (Some x) None h = absurd (cc)
same_turn (Some x) (Some y) h = refl

pub length-view : {A : Type 0} (s : Inside A) → length (slots_of s) ≡ length s.slots.items
length-view s = length-map s.slots.items (option_map (seen s.number))

pub view_at : {A : Type 0} (s : Inside A) (i : ℕ) → record_at (slots_of s) i ≡ option_map (seen s.number) (entry_at s.slots.items i)
view_at s i = get_or-map (option_map (seen s.number)) s.slots.items i None

pub view_is : {A : Type 0} (s : Inside A) (xs : Slots) → length xs ≡ length s.slots.items → ((i : ℕ) → option_map (seen s.number) (entry_at s.slots.items i) ≡ record_at xs i) → slots_of s ≡ xs
view_is s xs len same = same_slots (slots_of s) xs (length-view s ∙ sym len) (λ i. view_at s i ∙ same i)

pub records_are : {A : Type 0} (s : Inside A) → IsStore s → count_by is_some (slots_of s) ≡ s.records
records_are s sound = count_map (seen s.number) s.slots.items ∙ sym sound.records

-- THE VACANT SLOTS

-- they stay vacant where each vacant slot does
pub vacant_kept :
    (slots new : List (Option Entry)) (vs : List ℕ) → length new ≡ length slots → ((i : ℕ) → entry_at slots i ≡ None → entry_at new i ≡ None) → AreVacant slots vs → AreVacant new vs
vacant_kept slots new [] len none are = tt
vacant_kept slots new (v ∷ vs) len none are = (omega (arith, len, are.0), none v are.1, are.2, vacant_kept slots new vs len none are.3)

-- and where only a slot changes that isn't among them
pub vacant_beside :
    (slots new : List (Option Entry)) (vs : List ℕ) (slot : ℕ) → length slots ≤ length new → ((i : ℕ) → i ≢ slot → entry_at new i ≡ entry_at slots i) → HasNot vs slot → AreVacant slots vs →
    AreVacant new vs
vacant_beside slots new [] slot len others not are = tt
vacant_beside slots new (v ∷ vs) slot len others not are = (omega (arith, len, are.0), others v not.0 ∙ are.1, are.2, vacant_beside slots new vs slot len others not.1 are.3)

-- a slot with an entry isn't among them
pub taken_beside : (slots : List (Option Entry)) (vs : List ℕ) (slot : ℕ) (e : Entry) → entry_at slots slot ≡ Some e → AreVacant slots vs → HasNot vs slot
taken_beside slots [] slot e is are = tt
taken_beside slots (v ∷ vs) slot e is are =
    (λ same. let none : entry_at slots slot ≡ None = ap (entry_at slots) (sym same) ∙ are.1 in absurd (cc), taken_beside slots vs slot e is are.3)

seen_key : (number : ℕ) (o : Option Entry) → option_map (λ r. r.key) (option_map (seen number) o) ≡ option_map (λ e. e.key) o
seen_key number None = refl
seen_key number (Some e) = refl

pub key_is : {A : Type 0} (s : Inside A) (i : ℕ) → key_at (slots_of s) i ≡ entry_key s.slots.items i
key_is s i = ap (option_map (λ r. r.key)) (view_at s i) ∙ seen_key s.number (entry_at s.slots.items i)

seen_offer : (number : ℕ) (o : Option Entry) → option_and_then candidate_key (option_map (seen number) o) ≡ option_and_then offer_of o
seen_offer number None = refl
seen_offer number (Some e) = refl

pub candidate_is : {A : Type 0} (s : Inside A) → IsStore s → (i : ℕ) → candidate_at (slots_of s) i ≡ offer_at s.dead i
candidate_is s sound i = ap (option_and_then candidate_key) (view_at s i) ∙ seen_offer s.number (entry_at s.slots.items i) ∙ sym (sound.offers i)

-- one entry is changed
pub entry_here : (s : List (Option Entry)) (f : Entry → Entry) (slot : ℕ) → entry_at (entry_changed f s slot) slot ≡ option_map f (entry_at s slot)
entry_here s f slot = edited_here (option_map f) refl s slot

pub entry_other : (s : List (Option Entry)) (f : Entry → Entry) (slot i : ℕ) → i ≢ slot → entry_at (entry_changed f s slot) i ≡ entry_at s i
entry_other s f slot i differs = get_or-set_other s slot i _ None differs

pub changed_len : (s new : List (Option Entry)) (f : Entry → Entry) (slot : ℕ) → new ≡ entry_changed f s slot → length new ≡ length s
changed_len s new f slot is = ap length is ∙ length-set s slot (option_map f (entry_at s slot))

pub changed_view : {A : Type 0} (s new : Inside A) (f : Entry → Entry) (h : StoreRecord → StoreRecord) (slot : ℕ) → new.number ≡ s.number →
    new.slots.items ≡ entry_changed f s.slots.items slot → ((e : Entry) → seen s.number (f e) ≡ h (seen s.number e)) → slots_of new ≡ changed h (slots_of s) slot
changed_view s new f h slot number is same =
    view_is new _ (length-set (slots_of s) slot _ ∙ length-view s ∙ sym (changed_len s.slots.items new.slots.items f slot is)) (λ i.
    ap (λ (n : ℕ). option_map (seen n) (entry_at new.slots.items i)) number ∙ elim (cases_eq i slot) [
      | inl here ↦ rw here (ap (λ (x : List (Option Entry)). option_map (seen s.number) (entry_at x slot)) is ∙ ap (option_map (seen s.number)) (entry_here s.slots.items f slot) ∙
          map_twice f (seen s.number) (seen s.number) h same (entry_at s.slots.items slot) ∙ ap (option_map h) (sym (view_at s slot)) ∙ sym (edited_here (option_map h) refl (slots_of s) slot))
      | inr differs ↦ ap (λ (x : List (Option Entry)). option_map (seen s.number) (entry_at x i)) is ∙ ap (option_map (seen s.number)) (entry_other s.slots.items f slot i differs) ∙
          sym (view_at s i) ∙ sym (get_or-set_other (slots_of s) slot i _ None differs)
    ])

-- what holds of each entry of the changed slots
changed_each : (s new : List (Option Entry)) (f : Entry → Entry) (slot : ℕ) (P : ℕ → Option Entry → Type 0) → new ≡ entry_changed f s slot → P slot (option_map f (entry_at s slot)) →
    ((i : ℕ) → i ≢ slot → P i (entry_at s i)) → (i : ℕ) → P i (entry_at new i)
changed_each s new f slot P is here others i =
    elim (cases_eq i slot) [
      | inl same ↦ subst (λ (j : ℕ). P j (entry_at new j)) (sym same) (subst (P slot) (sym (ap (λ (x : List (Option Entry)). entry_at x slot) is ∙ entry_here s f slot)) here)
      | inr differs ↦ subst (P i) (sym (ap (λ (x : List (Option Entry)). entry_at x i) is ∙ entry_other s f slot i differs)) (others i differs)
    ]

mapped_present : (f : Entry → Entry) (o : Option Entry) (e : Entry) → option_map f o ≡ Some e → (x : Entry) × (o ≡ Some x) × (f x ≡ e)
mapped_present f None e is = absurd (cc)
mapped_present f (Some x) e is = (x, refl, cc)

mapped_key : (f : Entry → Entry) → ((e : Entry) → (f e).key ≡ e.key) → (o : Option Entry) → option_map (λ e. e.key) (option_map f o) ≡ option_map (λ e. e.key) o
mapped_key f keeps None = refl
mapped_key f keeps (Some e) = ap (λ (k : Bytes). Some k) (keeps e)

pub keys_kept : (s new : List (Option Entry)) (f : Entry → Entry) (slot : ℕ) → new ≡ entry_changed f s slot → ((e : Entry) → (f e).key ≡ e.key) → (i : ℕ) → entry_key new i ≡ entry_key s i
keys_kept s new f slot is keeps = changed_each s new f slot (λ i o. option_map (λ e. e.key) o ≡ entry_key s i) is (mapped_key f keeps (entry_at s slot)) (λ i differs. refl)

pub changed_sound : {A : Type 0} (s new : Inside A) (f : Entry → Entry) (slot : ℕ) → IsStore s → new ≡ record s { slots = new.slots; dead = new.dead } → new.slots.items ≡ entry_changed f s.slots.items slot →
    length new.dead ≡ length s.dead → ((e : Entry) → (f e).key ≡ e.key) → ((e : Entry) → IsMarked s.number e → IsMarked s.number (f e)) →
    ((i : ℕ) → offer_at new.dead i ≡ option_and_then offer_of (entry_at new.slots.items i)) → IsStore new
changed_sound {A = A} s new f slot sound rest is dead keeps marks offers =
    let number : new.number ≡ s.number = ap (λ (x : Inside A). x.number) rest in
    let index : new.index ≡ s.index = ap (λ (x : Inside A). x.index) rest in
    let records : new.records ≡ s.records = ap (λ (x : Inside A). x.records) rest in
    let vacant : new.vacant ≡ s.vacant = ap (λ (x : Inside A). x.vacant) rest in
    let len = changed_len s.slots.items new.slots.items f slot is in
    let same : taken new.slots.items ≡ taken s.slots.items = ap taken is ∙ count_edit f s.slots.items slot in
    record {
      number = rw number sound.number;
      marked = rw number (changed_each s.slots.items new.slots.items f slot (λ i o. (e : Entry) → o ≡ Some e → IsMarked s.number e) is
          (λ e there. let x = mapped_present f (entry_at s.slots.items slot) e there in subst (IsMarked s.number) x.2 (marks x.0 (sound.marked slot x.0 x.1)))
          (λ i differs. sound.marked i));
      index = λ key i. rw (index, keys_kept s.slots.items new.slots.items f slot is keeps i) (sound.index key i);
      records = records ∙ sound.records ∙ sym same;
      room = rw vacant (sound.room ∙ sym len);
      vacant = rw (vacant, records) (vacant_kept s.slots.items new.slots.items (drop s.records s.vacant.items) len
          (changed_each s.slots.items new.slots.items f slot (λ i o. entry_at s.slots.items i ≡ None → o ≡ None) is (λ none. ap (option_map f) none) (λ i differs none. none)) sound.vacant);
      places = omega (arith, len, dead, sound.places);
      offers = offers;
      few = rw records sound.few;
    }

mapped_offer : (f : Entry → Entry) → ((e : Entry) → offer_of (f e) ≡ offer_of e) → (o : Option Entry) → option_and_then offer_of (option_map f o) ≡ option_and_then offer_of o
mapped_offer f keeps None = refl
mapped_offer f keeps (Some e) = keeps e

-- the offers stay, where the change keeps them
pub offers_kept : {A : Type 0} (s new : Inside A) (f : Entry → Entry) (slot : ℕ) → IsStore s → new.slots.items ≡ entry_changed f s.slots.items slot → new.dead ≡ s.dead → ((e : Entry) → offer_of (f e) ≡ offer_of e) →
    (i : ℕ) → offer_at new.dead i ≡ option_and_then offer_of (entry_at new.slots.items i)
offers_kept s new f slot sound is dead keeps i =
    ap (λ (d : List (Option Bytes)). offer_at d i) dead ∙ sound.offers i
    ∙ sym (changed_each s.slots.items new.slots.items f slot (λ i o. option_and_then offer_of o ≡ option_and_then offer_of (entry_at s.slots.items i)) is (mapped_offer f keeps (entry_at s.slots.items slot)) (λ j differs. refl) i)

-- the slot's offer is made again
pub offers_renewed : {A : Type 0} (s new : Inside A) (slot : ℕ) → IsStore s → new.dead ≡ slice_set s.dead slot (option_and_then offer_of (entry_at new.slots.items slot)) →
    length new.slots.items ≡ length s.slots.items → ((i : ℕ) → i ≢ slot → entry_at new.slots.items i ≡ entry_at s.slots.items i) →
    (i : ℕ) → offer_at new.dead i ≡ option_and_then offer_of (entry_at new.slots.items i)
offers_renewed s new slot sound dead len others i =
    ap (λ (d : List (Option Bytes)). offer_at d i) dead ∙ elim (cases_eq i slot) [
      | inl same ↦ rw same (elim (in_order slot (length s.dead)) [
        | inl within ↦ get_or-set_same s.dead slot _ None within
        | inr past ↦ get_or_past (slice_set s.dead slot (option_and_then offer_of (entry_at new.slots.items slot))) slot None
            (omega (arith, length-set s.dead slot (option_and_then offer_of (entry_at new.slots.items slot))))
            ∙ sym (ap (option_and_then offer_of) (get_or_past new.slots.items slot None (omega (arith, len, sound.places))))
      ])
      | inr differs ↦ get_or-set_other s.dead slot i _ None differs ∙ sound.offers i ∙ sym (ap (option_and_then offer_of) (others i differs))
    ]

offered : (e : Entry) (key : Bytes) (b : Bool) → cond b (Some e.key) None ≡ Some key → e.key ≡ key
offered e key true is = cc
offered e key false is = absurd (cc)

offers_own : (o : Option Entry) (f : Entry → Entry) → ((e : Entry) → (f e).key ≡ e.key) → SameKey (option_and_then offer_of o) (option_and_then offer_of (option_map f o))
offers_own None f keeps k l one other = absurd (cc)
offers_own (Some e) f keeps k l one other =
    sym (offered (f e) l (is_none (f e).live && not (f e).aside) other) ∙ keeps e ∙ offered e k (is_none e.live && not e.aside) one

-- a changed entry may offer no other key than before
pub renewed_same : {A : Type 0}
    (s : Inside A) (f : Entry → Entry) (slot : ℕ) (shown new : List (Option Entry)) → IsStore s → shown ≡ new → new ≡ entry_changed f s.slots.items slot → ((e : Entry) → (f e).key ≡ e.key) →
    SameKey (offer_at s.dead slot) (option_and_then offer_of (entry_at shown slot))
renewed_same s f slot shown new sound is changed keeps k l one other =
    offers_own (entry_at s.slots.items slot) f keeps k l (sym (sound.offers slot) ∙ one)
    (ap (option_and_then offer_of) (sym (ap (λ (x : List (Option Entry)). entry_at x slot) (is ∙ changed) ∙ entry_here s.slots.items f slot)) ∙ other)

-- an entry whose live version neither came nor went offers what it did
offer_of_other : (o : Option Entry) (live : Cell) → is_some (live_of o) ≡ is_some live → option_and_then offer_of o ≡ option_and_then offer_of (option_map (with_entry_live live) o)
offer_of_other None live h = refl
offer_of_other (Some e) live h = rw (same_turn e.live live h) refl

pub kept_offer : {A : Type 0}
    (s : Inside A) (live : Cell) (slot : ℕ) (shown new : List (Option Entry)) → IsStore s → shown ≡ new → new ≡ entry_changed (with_entry_live live) s.slots.items slot →
    is_some (live_of (entry_at s.slots.items slot)) ≡ is_some live → offer_at s.dead slot ≡ option_and_then offer_of (entry_at shown slot)
kept_offer s live slot shown new sound is changed same =
    let here : entry_at shown slot ≡ option_map (with_entry_live live) (entry_at s.slots.items slot) = ap (λ (x : List (Option Entry)). entry_at x slot) (is ∙ changed) ∙ entry_here s.slots.items (with_entry_live live) slot in
    sound.offers slot ∙ offer_of_other (entry_at s.slots.items slot) live same ∙ sym (ap (option_and_then offer_of) here)

-- an entry is changed, and its offer made again
pub renewed_sound : {A : Type 0}
    (s new : Inside A) (f : Entry → Entry) (slot : ℕ) (shown : List (Option Entry)) → IsStore s → new ≡ record s { slots = new.slots; dead = new.dead } →
    new.slots.items ≡ entry_changed f s.slots.items slot → shown ≡ new.slots.items → new.dead ≡ slice_set s.dead slot (option_and_then offer_of (entry_at shown slot)) →
    ((e : Entry) → (f e).key ≡ e.key) → ((e : Entry) → IsMarked s.number e → IsMarked s.number (f e)) → IsStore new
renewed_sound s new f slot shown sound rest changed is dead keeps marks =
    let renewed : new.dead ≡ slice_set s.dead slot (option_and_then offer_of (entry_at new.slots.items slot)) =
    dead ∙ ap (λ (x : List (Option Entry)). slice_set s.dead slot (option_and_then offer_of (entry_at x slot))) is in
    changed_sound s new f slot sound rest changed (ap length renewed ∙ length-set s.dead slot _) keeps marks
    (offers_renewed s new slot sound renewed (changed_len s.slots.items new.slots.items f slot changed) (λ i differs. ap (λ (x : List (Option Entry)). entry_at x i) changed ∙
    entry_other s.slots.items f slot i differs))

pub live_seen : (number : ℕ) (o : Option Entry) → live_of_record (option_map (seen number) o) ≡ live_of o
live_seen number None = refl
live_seen number (Some e) = refl

pub finds : {A : Type 0} (s : Inside A) → IsStore s → (key : Bytes) (found : Option ℕ) → found ≡ found_at (pointwise nat_eq) s.index key → Finds (slots_of s) key found
finds s sound key found is = record {
  only = λ slot. (
    λ h. key_is s slot ∙ (sound.index key slot).0 (sym is ∙ h),
    λ h. is ∙ (sound.index key slot).1 (sym (key_is s slot) ∙ h),
  );
}

pub least_is : {A : Type 0} (s : Inside A) → IsStore s → (found : Option ℕ) → IfSome found (λ slot. IsLeast (offer_at s.dead) slot) → IfNone found ((slot : ℕ) → offer_at s.dead slot ≡ None) →
    IsLeastCandidate (slots_of s) found
least_is s sound None some none = λ slot. candidate_is s sound slot ∙ none slot
least_is s sound (Some slot) some none = record {
  key = some.key;
  offered = candidate_is s sound slot ∙ some.offered;
  least = λ other k e. some.least other k (sym (candidate_is s sound other) ∙ e);
}

-- all records at rest
rest_view : {A : Type 0} (s new : Inside A) → length new.slots.items ≡ length s.slots.items →
    ((i : ℕ) → option_map (seen new.number) (entry_at new.slots.items i) ≡ option_map record_at_rest (option_map (seen s.number) (entry_at s.slots.items i))) →
    slots_of new ≡ map (option_map record_at_rest) (slots_of s)
rest_view s new len same =
    view_is new _ (length-map (slots_of s) (option_map record_at_rest) ∙ length-view s ∙ sym len) (λ i.
    same i ∙ ap (option_map record_at_rest) (sym (view_at s i)) ∙ sym (get_or-map (option_map record_at_rest) (slots_of s) i None))

pub next_sound : {A : Type 0} (s : Inside A) → IsStore s → IsStore (record s { number = s.number + 1 })
next_sound s sound =
    record {
      number = omega arith;
      marked = λ slot e there. let m = sound.marked slot e there in record { mark = omega (arith, m.mark); copied = omega (arith, m.copied) };
      index = sound.index;
      records = sound.records;
      room = sound.room;
      vacant = sound.vacant;
      places = sound.places;
      offers = sound.offers;
      few = sound.few;
    }

seen_next : (number : ℕ) (o : Option Entry) → ((e : Entry) → o ≡ Some e → IsMarked number e) → option_map (seen (number + 1)) o ≡ option_map record_at_rest (option_map (seen number) o)
seen_next number None marked = refl
seen_next number (Some e) marked =
    let m = marked e refl in
    let mark : (e.mark ≢ number + 1) = omega (arith, m.mark) in
    let copied : (e.copied ≢ number + 1) = omega (arith, m.copied) in
    simp (not_same e.mark (number + 1) mark, not_same e.copied (number + 1) copied)

pub next_view : {A : Type 0} (s : Inside A) → IsStore s → slots_of (record s { number = s.number + 1 }) ≡ map (option_map record_at_rest) (slots_of s)
next_view s sound = rest_view s (record s { number = s.number + 1 }) refl (λ i. seen_next s.number (entry_at s.slots.items i) (sound.marked i))

cleaned_key : (o : Option Entry) → option_map (λ e. e.key) (option_map cleaned o) ≡ option_map (λ e. e.key) o
cleaned_key None = refl
cleaned_key (Some e) = refl

cleaned_offer : (o : Option Entry) → option_and_then offer_of (option_map cleaned o) ≡ option_and_then offer_of o
cleaned_offer None = refl
cleaned_offer (Some e) = refl

cleaned_marked : (o : Option Entry) (e : Entry) → option_map cleaned o ≡ Some e → IsMarked 1 e
cleaned_marked None e is = absurd (cc)
cleaned_marked (Some x) e is =
    let same : e ≡ cleaned x = cc in
    subst (IsMarked 1) (sym same) record { mark = omega arith; copied = omega arith }

cleaned_seen : (number : ℕ) (o : Option Entry) → option_map (seen 1) (option_map cleaned o) ≡ option_map record_at_rest (option_map (seen number) o)
cleaned_seen number None = refl
cleaned_seen number (Some e) = refl

cleaned_at : (slots new : List (Option Entry)) → new ≡ map (option_map cleaned) slots → (i : ℕ) → entry_at new i ≡ option_map cleaned (entry_at slots i)
cleaned_at slots new is i = ap (λ (x : List (Option Entry)). entry_at x i) is ∙ get_or-map (option_map cleaned) slots i None

pub cleaned_all : (slots new : List (Option Entry)) → length new ≡ length slots → ((i : ℕ) → i < length slots → entry_at new i ≡ option_map cleaned (entry_at slots i)) → new ≡ map (option_map cleaned) slots
cleaned_all slots new len at = same_slots new (map (option_map cleaned) slots) (len ∙ sym (length-map slots (option_map cleaned))) (λ i. elim (in_order i (length slots)) [
  | inl below ↦ at i below ∙ sym (get_or-map (option_map cleaned) slots i None)
  | inr past ↦ get_or_past new i None (omega (arith, len)) ∙ sym (get_or_past (map (option_map cleaned) slots) i None (omega (arith, length-map slots (option_map cleaned))))
])

pub cleaned_sound : {A : Type 0} (s new : Inside A) → IsStore s → new.slots.items ≡ map (option_map cleaned) s.slots.items → new ≡ record s { slots = new.slots; number = 1 } → IsStore new
cleaned_sound {A = A} s new sound is rest =
    let at = cleaned_at s.slots.items new.slots.items is in
    let number : new.number ≡ 1 = ap (λ (x : Inside A). x.number) rest in
    let index : new.index ≡ s.index = ap (λ (x : Inside A). x.index) rest in
    let records : new.records ≡ s.records = ap (λ (x : Inside A). x.records) rest in
    let vacant : new.vacant ≡ s.vacant = ap (λ (x : Inside A). x.vacant) rest in
    let dead : new.dead ≡ s.dead = ap (λ (x : Inside A). x.dead) rest in
    let len : length new.slots.items ≡ length s.slots.items = ap length is ∙ length-map s.slots.items (option_map cleaned) in
    record {
      number = omega (arith, number);
      marked = λ slot e there. subst (λ (n : ℕ). IsMarked n e) (sym number) (cleaned_marked (entry_at s.slots.items slot) e (sym (at slot) ∙ there));
      index = λ key slot. rw (index, ap (option_map (λ e. e.key)) (at slot) ∙ cleaned_key (entry_at s.slots.items slot)) (sound.index key slot);
      records = records ∙ sound.records ∙ sym (ap taken is ∙ count_map cleaned s.slots.items);
      room = rw vacant (sound.room ∙ sym len);
      vacant = rw (vacant, records) (vacant_kept s.slots.items new.slots.items (drop s.records s.vacant.items) len (λ i none. at i ∙ ap (option_map cleaned) none) sound.vacant);
      places = rw dead (omega (arith, len, sound.places));
      offers = λ slot. ap (λ (d : List (Option Bytes)). offer_at d slot) dead ∙ sound.offers slot ∙ sym (ap (option_and_then offer_of) (at slot) ∙ cleaned_offer (entry_at s.slots.items slot));
      few = rw records sound.few;
    }

pub cleaned_view : {A : Type 0} (s new : Inside A) → IsStore s → new.slots.items ≡ map (option_map cleaned) s.slots.items → new.number ≡ 1 → slots_of new ≡ map (option_map record_at_rest) (slots_of s)
cleaned_view s new sound is number =
    rest_view s new (ap length is ∙ length-map s.slots.items (option_map cleaned))
    (λ i. rw number (ap (option_map (seen 1)) (cleaned_at s.slots.items new.slots.items is i) ∙ cleaned_seen s.number (entry_at s.slots.items i)))

pub live_is : {A : Type 0} (s : Inside A) (slot : ℕ) → live_of_record (record_at (slots_of s) slot) ≡ live_of (entry_at s.slots.items slot)
live_is s slot = ap live_of_record (view_at s slot) ∙ live_seen s.number (entry_at s.slots.items slot)

is_live_seen : (number : ℕ) (o : Option Entry) → is_live (option_map (seen number) o) ≡ is_some (live_of o)
is_live_seen number o = ap is_some (live_seen number o)

live_counted : (number : ℕ) (slots : List (Option Entry)) → live_count (map (option_map (seen number)) slots) ≡ live_entries slots
live_counted number [] = refl
live_counted number (o ∷ slots) =
    sum_by-cons (λ (o : Option StoreRecord). cond (is_live o) 1 0) (option_map (seen number) o) (map (option_map (seen number)) slots)
    ∙ ap (λ b. cond b 1 0 + live_count (map (option_map (seen number)) slots)) (is_live_seen number o)
    ∙ ap (λ n. cond (is_some (live_of o)) 1 0 + n) (live_counted number slots)
    ∙ sym (sum_by-cons (λ (o : Option Entry). cond (is_some (live_of o)) 1 0) o slots)

pub live_are : {A : Type 0} (s : Inside A) → live_count (slots_of s) ≡ live_entries s.slots.items
live_are s = live_counted s.number s.slots.items

-- a copy of the entry's own live version
copied_option : (o : Option Entry) (number : ℕ) (copy : Cell) → copy ≡ live_of o → option_map (with_entry_stable copy number) o ≡ option_map (with_entry_copy number) o
copied_option None number copy is = refl
copied_option (Some e) number copy is = ap (λ (x : Cell). Some (with_entry_stable x number e)) is

pub copied_entry : (s : List (Option Entry)) (slot number : ℕ) (copy : Cell) → copy ≡ live_of (entry_at s slot) →
    entry_changed (with_entry_stable copy number) s slot ≡ entry_changed (with_entry_copy number) s slot
copied_entry s slot number copy is = ap (slice_set s slot) (copied_option (entry_at s slot) number copy is)

pub key_once : {A : Type 0} (s : Inside A) → IsStore s → HasKeysOnce (slots_of s)
key_once s sound = record {
  once = λ i j key first second.
      let one : found_at (pointwise nat_eq) s.index key ≡ Some i = (sound.index key i).1 (sym (key_is s i) ∙ first) in
      let two : found_at (pointwise nat_eq) s.index key ≡ Some j = (sound.index key j).1 (sym (key_is s j) ∙ second) in
      cc;
}
