-- A record that is made, and one that is reclaimed.
use Rattle.std.proofs.Common.{◌≡◌, ◌≢◌, ℕ, zero, suc, ◌+◌, ◌<◌, ◌≤◌, inl, inr, Bool, true, false, cond, List, [], ◌∷◌, ◌++◌, length, drop, Option, Some, None, is_none, is_some, option_map, refl, sym, ap, ◌∙◌, subst, arith, slice_index_or, slice_set, length-set, get_or-set_same, get_or-set_other, nat_eq, max}
use Rattle.std.proofs.lemmas.Bool.{cases_eq}
use Rattle.std.proofs.lemmas.List.{drop-set, drop_all, drop_more, get_or_past, length-append, set-get_or}
use Rattle.std.proofs.lemmas.List.Sums.{count_by-le-length, sum_by-cons, sum_by-set}
use Rattle.std.specs.Option.{option_and_then}
use Rattle.std.specs.Cmp.Lexicographic.{pointwise, bytes_decides}
use Rattle.indexmap.specs.IndexMap.{IndexMap, get as found_at}
use Rattle.std.specs.Map.{lookup}
use Rattle.procedure.specs.Bytes.{Bytes}
use Rattle.record_store.specs.DeadKeys.{SameKey, offer_at}
use Rattle.record_store.specs.Stores.{StoreRecord, Slots, record_at, records, with_record, new_record, reclaimed, unless_dead}
use Rattle.record_store.specs.Entries.{Entry, entry_at, key_if_dead, made, offer_of, seen, taken}
use Rattle.record_store.specs.Fields.{AreVacant, HasNot, slots_of, entry_key, IsMarked, IsStore, mark_of}
use Rattle.record_store.specs.declared.limits.TheConstants.{STORE_RECORDS}
use Rattle.record_store.specs.declared.stores.Store.TheInside.{Inside}
use Rattle.record_store.proofs.Fields.{in_order, length-view, offers_renewed, edited_here, taken_beside, vacant_beside, view_at, view_is}
use Rattle.record_store.proofs.Seen.{not_same, same_self}

length-with : (xs : Slots) (n : ℕ) (r : StoreRecord) → length (with_record xs n r) ≡ max (length xs) (n + 1)
length-with [] zero r = refl
length-with [] (suc n) r = omega (arith, length-with [] n r)
length-with (x ∷ xs) zero r = omega arith
length-with (x ∷ xs) (suc n) r = omega (arith, length-with xs n r)

pub at_with_here : (xs : Slots) (n : ℕ) (r : StoreRecord) → record_at (with_record xs n r) n ≡ Some r
at_with_here [] zero r = refl
at_with_here [] (suc n) r = at_with_here [] n r
at_with_here (x ∷ xs) zero r = refl
at_with_here (x ∷ xs) (suc n) r = at_with_here xs n r

pub at_with_other : (xs : Slots) (n : ℕ) (r : StoreRecord) (i : ℕ) → i ≢ n → record_at (with_record xs n r) i ≡ record_at xs i
at_with_other [] zero r zero differs = absurd (differs refl)
at_with_other [] zero r (suc i) differs = refl
at_with_other [] (suc n) r zero differs = refl
at_with_other [] (suc n) r (suc i) differs = at_with_other [] n r i (omega arith)
at_with_other (x ∷ xs) zero r zero differs = absurd (differs refl)
at_with_other (x ∷ xs) zero r (suc i) differs = refl
at_with_other (x ∷ xs) (suc n) r zero differs = refl
at_with_other (x ∷ xs) (suc n) r (suc i) differs = at_with_other xs n r i (omega arith)

-- a record more in a vacant slot
pub records-made : (xs : Slots) (n : ℕ) (r : StoreRecord) → record_at xs n ≡ None → records (with_record xs n r) ≡ records xs + 1
records-made [] zero r none = refl
records-made [] (suc n) r none = omega (arith, records-made [] n r refl, sum_by-cons (λ (o : Option StoreRecord). cond (is_some o) 1 0) None (with_record [] n r))
records-made (None ∷ xs) zero r none =
    omega (arith, sum_by-cons (λ (o : Option StoreRecord). cond (is_some o) 1 0) None xs, sum_by-cons (λ (o : Option StoreRecord). cond (is_some o) 1 0) (Some r) xs)
records-made (Some x ∷ xs) zero r none = absurd (cc)
records-made (x ∷ xs) (suc n) r none =
    omega (
      arith,
      records-made xs n r none,
      sum_by-cons (λ (o : Option StoreRecord). cond (is_some o) 1 0) x xs,
      sum_by-cons (λ (o : Option StoreRecord). cond (is_some o) 1 0) x (with_record xs n r),
    )

keys_equal : (x y : Bytes) → pointwise nat_eq x y ≡ true → x ≡ y
keys_equal x y e = (bytes_decides x y).0 e

keys_same : (x y : Bytes) → x ≡ y → pointwise nat_eq x y ≡ true
keys_same x y e = (bytes_decides x y).1 e

unless_false : (r : StoreRecord) (k : Bytes) (b : Bool) → cond b (Some k) None ≡ None → cond b None (Some r) ≡ Some r
unless_false r k true is = absurd (cc)
unless_false r k false is = refl

-- what is found depends on the entries alone
pub found_kept : {S : Type 0} (m n : IndexMap Bytes ℕ S) → n.entries ≡ m.entries → (q : Bytes) → found_at (pointwise nat_eq) n q ≡ found_at (pointwise nat_eq) m q
found_kept m n is q = ap (λ (es : List (Bytes × ℕ)). lookup (pointwise nat_eq q) es) is

pub few_taken : (slots : List (Option Entry)) → taken slots ≤ length slots
few_taken slots = count_by-le-length is_some slots

-- a store without slots
pub new_sound : {A : Type 0} (s : Inside A) → s.slots.items ≡ [] → s.records ≡ 0 → s.vacant.items ≡ [] → s.index.entries ≡ [] → ((i : ℕ) → offer_at s.dead i ≡ None) → s.number ≡ 1 → IsStore s
new_sound s slots records vacant index dead number =
    let none : (i : ℕ) → entry_at s.slots.items i ≡ None = λ i. ap (λ (x : List (Option Entry)). entry_at x i) slots in
    let unknown : (q : Bytes) → found_at (pointwise nat_eq) s.index q ≡ None = λ q. ap (λ (es : List (Bytes × ℕ)). lookup (pointwise nat_eq q) es) index in
    record {
      number = omega (arith, number);
      marked = λ i e is. absurd (let no : None ≡ Some e = sym (none i) ∙ is in cc);
      index = λ q i. (
        λ e. absurd (let no : None ≡ Some i = sym (unknown q) ∙ e in cc),
        λ e. absurd (let no : None ≡ Some q = sym (ap (option_map (λ (e : Entry). e.key)) (none i)) ∙ e in cc),
      );
      records = records ∙ sym (ap taken slots);
      room = ap length vacant ∙ sym (ap length slots);
      vacant = rw (records, vacant) tt;
      places = omega (arith, ap length slots);
      offers = λ i. dead i ∙ sym (ap (option_and_then offer_of) (none i));
      few = omega (arith, records);
    }

-- more room changes nothing that is kept
pub roomy_sound : {A : Type 0} (s new : Inside A) → IsStore s → new.slots.items ≡ s.slots.items → new.vacant.items ≡ s.vacant.items → new.index.entries ≡ s.index.entries →
    ((i : ℕ) → offer_at new.dead i ≡ offer_at s.dead i) → length s.dead ≤ length new.dead → new.records ≡ s.records → new.number ≡ s.number → IsStore new
roomy_sound s new sound slots vacant index offers longer records number =
    record {
      number = rw number sound.number;
      marked = rw (slots, number) sound.marked;
      index = λ q i. rw slots (
        λ e. (sound.index q i).0 (sym (found_kept s.index new.index index q) ∙ e),
        λ e. found_kept s.index new.index index q ∙ (sound.index q i).1 e,
      );
      records = rw (records, slots) sound.records;
      room = rw (vacant, slots) sound.room;
      vacant = rw (records, vacant, slots) sound.vacant;
      places = rw slots (omega (arith, longer, sound.places));
      offers = λ i. rw slots (offers i ∙ sound.offers i);
      few = rw records sound.few;
    }

-- the slot of the next record is vacant, and the vacant ones after it don't name it
pub record IsNext (slots : List (Option Entry)) (vacant : List ℕ) (records slot : ℕ) : Type 0 where
  pub within : slot ≤ length slots
  pub free : entry_at slots slot ≡ None
  pub later : HasNot (drop (records + 1) vacant) slot
  pub known : records < length vacant → slot < length slots
  pub one_more : length vacant ≤ records → slot ≡ length slots

pub next_is : {A : Type 0} (s : Inside A) → IsStore s → IsNext s.slots.items s.vacant.items s.records (slice_index_or s.vacant.items s.records (length s.vacant.items))
next_is s sound =
    let slot = slice_index_or s.vacant.items s.records (length s.vacant.items) in
    elim (in_order s.records (length s.vacant.items)) [
      | inl below ↦
          let are = subst (AreVacant s.slots.items) (drop_more s.vacant.items s.records (length s.vacant.items) below) sound.vacant in
          record { within = omega (arith, are.0); free = are.1; later = are.2; known = λ h. are.0; one_more = λ h. absurd (omega arith) }
      | inr past ↦
          let is : slot ≡ length s.slots.items = get_or_past s.vacant.items s.records (length s.vacant.items) past ∙ sound.room in
          record {
            within = omega (arith, is);
            free = get_or_past s.slots.items slot None (omega (arith, is));
            later = subst (λ (vs : List ℕ). HasNot vs slot) (sym (drop_all (s.records + 1) s.vacant.items (omega arith))) tt;
            known = λ h. absurd (omega arith);
            one_more = λ h. is;
          }
    ]

-- the new store has one entry more
pub record IsMade {A : Type 0} (s new : Inside A) (slot : ℕ) (key : Bytes) (mark : ℕ) : Type 0 where
  pub next : IsNext s.slots.items s.vacant.items s.records slot
  pub put : entry_at new.slots.items slot ≡ Some (made key mark)
  pub others : (i : ℕ) → i ≢ slot → entry_at new.slots.items i ≡ entry_at s.slots.items i
  pub len : length new.slots.items ≡ max (length s.slots.items) (slot + 1)
  pub count : taken new.slots.items ≡ taken s.slots.items + 1
  pub known : slot < length s.slots.items → new.vacant.items ≡ s.vacant.items
  pub one_more : slot ≡ length s.slots.items → new.vacant.items ≡ s.vacant.items ++ slot ∷ []
  pub records : new.records ≡ s.records + 1
  pub few : s.records < STORE_RECORDS
  pub found : (q : Bytes) → found_at (pointwise nat_eq) new.index q ≡ cond (pointwise nat_eq key q) (Some slot) (found_at (pointwise nat_eq) s.index q)
  pub absent : (i : ℕ) → entry_key s.slots.items i ≢ Some key
  pub offers : (i : ℕ) → offer_at new.dead i ≡ offer_at s.dead i
  pub place : slot < length new.dead
  pub places : length s.dead ≤ length new.dead
  pub number : new.number ≡ s.number
  pub bound : mark ≤ s.number

module _ {A : Type 0} (s new : Inside A) (slot : ℕ) (key : Bytes) (mark : ℕ) (sound : IsStore s) (made_so : IsMade s new slot key mark) where
  key_here : entry_key new.slots.items slot ≡ Some key
  key_here = ap (option_map (λ e. e.key)) made_so.put

  key_other : (i : ℕ) → i ≢ slot → entry_key new.slots.items i ≡ entry_key s.slots.items i
  key_other i differs = ap (option_map (λ e. e.key)) (made_so.others i differs)

  not_vacant : (i : ℕ) (q : Bytes) → entry_key s.slots.items i ≡ Some q → i ≢ slot
  not_vacant i q e same =
      let none : entry_key s.slots.items i ≡ None = ap (λ (j : ℕ). entry_key s.slots.items j) same ∙ ap (option_map (λ e. e.key)) made_so.next.free in
      absurd (cc)

  found_to : (q : Bytes) (i : ℕ) (b : Bool) → pointwise nat_eq key q ≡ b → cond b (Some slot) (found_at (pointwise nat_eq) s.index q) ≡ Some i → entry_key new.slots.items i ≡ Some q
  found_to q i true test e =
      let here : slot ≡ i = cc in
      let same : key ≡ q = keys_equal key q test in
      subst (λ (j : ℕ). entry_key new.slots.items j ≡ Some q) here (key_here ∙ ap (λ (k : Bytes). Some k) same)
  found_to q i false test e =
      let there : entry_key s.slots.items i ≡ Some q = (sound.index q i).0 e in
      key_other i (not_vacant i q there) ∙ there

  found_other : (q : Bytes) (i : ℕ) (b : Bool) → pointwise nat_eq key q ≡ b → entry_key s.slots.items i ≡ Some q → cond b (Some slot) (found_at (pointwise nat_eq) s.index q) ≡ Some i
  found_other q i true test e = absurd (made_so.absent i (e ∙ ap (λ (k : Bytes). Some k) (sym (keys_equal key q test))))
  found_other q i false test e = (sound.index q i).1 e

  found_from : (q : Bytes) (i : ℕ) → entry_key new.slots.items i ≡ Some q → cond (pointwise nat_eq key q) (Some slot) (found_at (pointwise nat_eq) s.index q) ≡ Some i
  found_from q i e =
      elim (cases_eq i slot) [
        | inl same ↦
            let is : Some key ≡ Some q = sym key_here ∙ ap (λ (j : ℕ). entry_key new.slots.items j) (sym same) ∙ e in
            let k : key ≡ q = cc in
            rw (keys_same key q k) (ap (λ (j : ℕ). Some j) (sym same))
        | inr differs ↦ found_other q i (pointwise nat_eq key q) refl (sym (key_other i differs) ∙ e)
      ]

  marked_here : (e : Entry) → Some (made key mark) ≡ Some e → IsMarked s.number e
  marked_here e is =
      let same : made key mark ≡ e = cc in
      subst (IsMarked s.number) same record { mark = made_so.bound; copied = omega arith }

  room_made : length new.vacant.items ≡ length new.slots.items
  room_made =
      elim (in_order slot (length s.slots.items)) [
        | inl below ↦ ap length (made_so.known below) ∙ sound.room ∙ sym (omega (arith, made_so.len))
        | inr past ↦
            ap length (made_so.one_more (omega (arith, made_so.next.within)))
            ∙ length-append s.vacant.items (slot ∷ []) ∙ omega (arith, made_so.len, made_so.next.within, sound.room)
      ]

  vacant_made : AreVacant new.slots.items (drop new.records new.vacant.items)
  vacant_made =
      subst (λ (n : ℕ). AreVacant new.slots.items (drop n new.vacant.items)) (sym made_so.records)
      (elim (in_order s.records (length s.vacant.items)) [
        | inl below ↦
            let are = subst (AreVacant s.slots.items) (drop_more s.vacant.items s.records (length s.vacant.items) below) sound.vacant in
            subst (λ (vs : List ℕ). AreVacant new.slots.items (drop (s.records + 1) vs)) (sym (made_so.known (made_so.next.known below)))
            (vacant_beside s.slots.items new.slots.items (drop (s.records + 1) s.vacant.items) slot (omega (arith, made_so.len)) made_so.others made_so.next.later are.3)
        | inr past ↦
            let more = made_so.one_more (made_so.next.one_more past) in
            subst (AreVacant new.slots.items)
            (sym (drop_all (s.records + 1) new.vacant.items (omega (arith, ap length more, length-append s.vacant.items (slot ∷ []))))) tt
      ])

  pub made_sound : IsStore new
  made_sound = record {
    number = rw made_so.number sound.number;
    marked = λ i e is. subst (λ (n : ℕ). IsMarked n e) (sym made_so.number) (elim (cases_eq i slot) [
      | inl same ↦ marked_here e (sym made_so.put ∙ ap (λ (j : ℕ). entry_at new.slots.items j) (sym same) ∙ is)
      | inr differs ↦ sound.marked i e (sym (made_so.others i differs) ∙ is)
    ]);
    index = λ q i. (
      λ e. found_to q i (pointwise nat_eq key q) refl (sym (made_so.found q) ∙ e),
      λ e. made_so.found q ∙ found_from q i e,
    );
    records = omega (arith, made_so.records, made_so.count, sound.records);
    room = room_made;
    vacant = vacant_made;
    places = omega (arith, made_so.len, made_so.place, made_so.places, sound.places);
    offers = λ i. made_so.offers i ∙ sound.offers i ∙ elim (cases_eq i slot) [
      | inl same ↦ rw same (ap (option_and_then offer_of) made_so.next.free ∙ sym (ap (option_and_then offer_of) made_so.put))
      | inr differs ↦ sym (ap (option_and_then offer_of) (made_so.others i differs))
    ];
    few = omega (arith, made_so.records, made_so.few);
  }

  seen_made : (available : Bool) → mark ≡ mark_of s.number available → seen s.number (made key mark) ≡ new_record key available
  seen_made true is = simp (is, not_same 0 s.number (omega (arith, sound.number)), same_self s.number)
  seen_made false is = simp (is, not_same 0 s.number (omega (arith, sound.number)))

  pub made_view : (available : Bool) → mark ≡ mark_of s.number available → slots_of new ≡ with_record (slots_of s) slot (new_record key available)
  made_view available is =
      view_is new _ (length-with (slots_of s) slot _ ∙ ap (λ (n : ℕ). max n (slot + 1)) (length-view s) ∙ sym made_so.len) (λ i.
      ap (λ (n : ℕ). option_map (seen n) (entry_at new.slots.items i)) made_so.number ∙ elim (cases_eq i slot) [
        | inl same ↦ rw same (ap (option_map (seen s.number)) made_so.put ∙ ap (λ (r : StoreRecord). Some r) (seen_made available is) ∙ sym (at_with_here (slots_of s) slot _))
        | inr differs ↦ ap (option_map (seen s.number)) (made_so.others i differs) ∙ sym (view_at s i) ∙ sym (at_with_other (slots_of s) slot _ i differs)
      ])

  -- a vacant slot was used before a new one
  pub made_length : length (slots_of new) ≡ max (length (slots_of s)) (s.records + 1)
  made_length =
      elim (in_order s.records (length s.vacant.items)) [
        | inl below ↦ omega (arith, length-view s, length-view new, made_so.len, made_so.next.known below, sound.room)
        | inr past ↦ omega (arith, length-view s, length-view new, made_so.len, made_so.next.one_more past, sound.room, few_taken s.slots.items, sound.records)
      ]

-- the new store has one entry less
pub record IsGone {A : Type 0} (s new : Inside A) (slot : ℕ) (key : Bytes) : Type 0 where
  pub was : option_and_then key_if_dead (entry_at s.slots.items slot) ≡ Some key
  pub slots : new.slots.items ≡ slice_set s.slots.items slot None
  pub records : new.records + 1 ≡ s.records
  pub vacant : new.vacant.items ≡ slice_set s.vacant.items new.records slot
  pub found : (q : Bytes) → found_at (pointwise nat_eq) new.index q ≡ cond (pointwise nat_eq key q) None (found_at (pointwise nat_eq) s.index q)
  pub dead : new.dead ≡ slice_set s.dead slot (option_and_then offer_of (entry_at new.slots.items slot))
  pub number : new.number ≡ s.number

key_when_dead : (e : Entry) (key : Bytes) (b : Bool) → cond b (Some e.key) None ≡ Some key → (b ≡ true) × (e.key ≡ key)
key_when_dead e key true is = (refl, cc)
key_when_dead e key false is = absurd (cc)

dead_has_key : (o : Option Entry) (key : Bytes) → option_and_then key_if_dead o ≡ Some key → option_map (λ e. e.key) o ≡ Some key
dead_has_key None key is = absurd (cc)
dead_has_key (Some e) key is = ap (λ (k : Bytes). Some k) (key_when_dead e key (is_none e.live) is).1

dead_present : (o : Option Entry) (key : Bytes) → option_and_then key_if_dead o ≡ Some key → (e : Entry) × (o ≡ Some e)
dead_present None key is = absurd (cc)
dead_present (Some e) key is = (e, refl)

pub dead_below : (slots : List (Option Entry)) (slot : ℕ) (key : Bytes) → option_and_then key_if_dead (entry_at slots slot) ≡ Some key → slot < length slots
dead_below slots slot key is =
    elim (in_order slot (length slots)) [
      | inl h ↦ h
      | inr past ↦ let e = (dead_present (entry_at slots slot) key is).1 in let none = get_or_past slots slot None past in absurd (cc)
    ]

-- a vacant slot offers nothing
pub gone_offers : (slots shown : List (Option Entry)) (slot : ℕ) (o : Option Bytes) → slot < length slots → shown ≡ slice_set slots slot None → SameKey o (option_and_then offer_of (entry_at shown slot))
gone_offers slots shown slot o below is k l one other =
    let none : option_and_then offer_of (entry_at shown slot) ≡ None =
    ap (λ (x : List (Option Entry)). option_and_then offer_of (entry_at x slot)) is ∙ ap (option_and_then offer_of) (get_or-set_same slots slot None None below) in
    absurd (cc)

one_less_of : (slots : List (Option Entry)) (slot : ℕ) (key : Bytes) → option_and_then key_if_dead (entry_at slots slot) ≡ Some key → taken (slice_set slots slot None) + 1 ≡ taken slots
one_less_of slots slot key is =
    omega (
      arith,
      sum_by-set (λ (o : Option Entry). cond (is_some o) 1 0) slots slot None None (dead_below slots slot key is),
      ap {B = ℕ} (λ (o : Option Entry). cond (is_some o) 1 0) (dead_present (entry_at slots slot) key is).1,
    )

pub dead_counted : {A : Type 0} (s : Inside A) → IsStore s → (slot : ℕ) (key : Bytes) → option_and_then key_if_dead (entry_at s.slots.items slot) ≡ Some key → 0 < s.records
dead_counted s sound slot key is = omega (arith, one_less_of s.slots.items slot key is, sound.records)

dead_goes : (number : ℕ) (o : Option Entry) (key : Bytes) → option_and_then key_if_dead o ≡ Some key → option_and_then unless_dead (option_map (seen number) o) ≡ None
dead_goes number None key is = refl
dead_goes number (Some e) key is = rw ((key_when_dead e key (is_none e.live) is).0)

live_stays : (number : ℕ) (o : Option Entry) → option_and_then key_if_dead o ≡ None → option_and_then unless_dead (option_map (seen number) o) ≡ option_map (seen number) o
live_stays number None is = refl
live_stays number (Some e) is = unless_false (seen number e) e.key (is_none e.live) is

-- where the record isn't dead nothing changes
pub stays : {A : Type 0} (s : Inside A) (slot : ℕ) → option_and_then key_if_dead (entry_at s.slots.items slot) ≡ None → reclaimed (slots_of s) slot ≡ slots_of s
stays s slot is =
    ap (slice_set (slots_of s) slot) (ap (option_and_then unless_dead) (view_at s slot) ∙ live_stays s.number (entry_at s.slots.items slot) is ∙ sym (view_at s slot))
    ∙ set-get_or (slots_of s) slot None

module _ {A : Type 0} (s new : Inside A) (slot : ℕ) (key : Bytes) (sound : IsStore s) (gone : IsGone s new slot key) where
  entry_was : (e : Entry) × (entry_at s.slots.items slot ≡ Some e)
  entry_was = dead_present (entry_at s.slots.items slot) key gone.was

  below : slot < length s.slots.items
  below = dead_below s.slots.items slot key gone.was

  gone_len : length new.slots.items ≡ length s.slots.items
  gone_len = ap length gone.slots ∙ length-set s.slots.items slot None

  gone_here : entry_at new.slots.items slot ≡ None
  gone_here = ap (λ (x : List (Option Entry)). entry_at x slot) gone.slots ∙ get_or-set_same s.slots.items slot None None below

  gone_other : (i : ℕ) → i ≢ slot → entry_at new.slots.items i ≡ entry_at s.slots.items i
  gone_other i differs = ap (λ (x : List (Option Entry)). entry_at x i) gone.slots ∙ get_or-set_other s.slots.items slot i None None differs

  had : entry_key s.slots.items slot ≡ Some key
  had = dead_has_key (entry_at s.slots.items slot) key gone.was

  none_here : entry_key new.slots.items slot ≡ None
  none_here = ap (option_map (λ e. e.key)) gone_here

  left_key : (i : ℕ) → i ≢ slot → entry_key new.slots.items i ≡ entry_key s.slots.items i
  left_key i differs = ap (option_map (λ e. e.key)) (gone_other i differs)

  left_to : (q : Bytes) (i : ℕ) (b : Bool) → pointwise nat_eq key q ≡ b → cond b None (found_at (pointwise nat_eq) s.index q) ≡ Some i → entry_key new.slots.items i ≡ Some q
  left_to q i true test e = absurd (cc)
  left_to q i false test e =
      let there : entry_key s.slots.items i ≡ Some q = (sound.index q i).0 e in
      elim (cases_eq i slot) [
        | inl same ↦
            let is : Some key ≡ Some q = sym had ∙ ap (λ (j : ℕ). entry_key s.slots.items j) (sym same) ∙ there in
            let k : key ≡ q = cc in
            let yes : pointwise nat_eq key q ≡ true = keys_same key q k in
            absurd (cc)
        | inr differs ↦ left_key i differs ∙ there
      ]

  left_other : (q : Bytes) (i : ℕ) (b : Bool) → i ≢ slot → pointwise nat_eq key q ≡ b → entry_key s.slots.items i ≡ Some q → cond b None (found_at (pointwise nat_eq) s.index q) ≡ Some i
  left_other q i true differs test e =
      let one : found_at (pointwise nat_eq) s.index q ≡ Some i = (sound.index q i).1 e in
      let two : found_at (pointwise nat_eq) s.index q ≡ Some slot = (sound.index q slot).1 (had ∙ ap (λ (k : Bytes). Some k) (keys_equal key q test)) in
      let same : i ≡ slot = cc in
      absurd (differs same)
  left_other q i false differs test e = (sound.index q i).1 e

  left_from : (q : Bytes) (i : ℕ) → entry_key new.slots.items i ≡ Some q → cond (pointwise nat_eq key q) None (found_at (pointwise nat_eq) s.index q) ≡ Some i
  left_from q i e =
      elim (cases_eq i slot) [
        | inl same ↦
            let none : entry_key new.slots.items i ≡ None = ap (λ (j : ℕ). entry_key new.slots.items j) same ∙ none_here in
            absurd (cc)
        | inr differs ↦ left_other q i (pointwise nat_eq key q) differs refl (sym (left_key i differs) ∙ e)
      ]

  marked_still : (i : ℕ) (e : Entry) → entry_at new.slots.items i ≡ Some e → IsMarked s.number e
  marked_still i e is =
      elim (cases_eq i slot) [
        | inl same ↦
            let none : entry_at new.slots.items i ≡ None = ap (λ (j : ℕ). entry_at new.slots.items j) same ∙ gone_here in
            absurd (cc)
        | inr differs ↦ sound.marked i e (sym (gone_other i differs) ∙ is)
      ]

  one_less : taken new.slots.items + 1 ≡ taken s.slots.items
  one_less = omega (arith, ap taken gone.slots, one_less_of s.slots.items slot key gone.was)

  vacant_gone : AreVacant new.slots.items (drop new.records new.vacant.items)
  vacant_gone =
      let few : s.records ≤ length s.vacant.items = omega (arith, few_taken s.slots.items, sound.records, sound.room) in
      let is : drop new.records new.vacant.items ≡ slot ∷ drop s.records s.vacant.items =
      ap (drop new.records) gone.vacant
      ∙ drop-set s.vacant.items new.records slot (omega (arith, gone.records))
      ∙ ap (λ (n : ℕ). slot ∷ drop n s.vacant.items) gone.records in
      let not = taken_beside s.slots.items (drop s.records s.vacant.items) slot entry_was.0 entry_was.1 sound.vacant in
      subst (AreVacant new.slots.items) (sym is)
      (omega (arith, gone_len, below), gone_here, not, vacant_beside s.slots.items new.slots.items (drop s.records s.vacant.items) slot (omega (arith, gone_len)) gone_other not sound.vacant)

  pub gone_sound : IsStore new
  gone_sound = record {
    number = rw gone.number sound.number;
    marked = λ i e is. subst (λ (n : ℕ). IsMarked n e) (sym gone.number) (marked_still i e is);
    index = λ q i. (
      λ e. left_to q i (pointwise nat_eq key q) refl (sym (gone.found q) ∙ e),
      λ e. gone.found q ∙ left_from q i e,
    );
    records = omega (arith, gone.records, one_less, sound.records);
    room = ap length gone.vacant ∙ length-set s.vacant.items new.records slot ∙ sound.room ∙ sym gone_len;
    vacant = vacant_gone;
    places = omega (arith, gone_len, sound.places, ap length gone.dead, length-set s.dead slot (option_and_then offer_of (entry_at new.slots.items slot)));
    offers = offers_renewed s new slot sound gone.dead gone_len gone_other;
    few = omega (arith, gone.records, sound.few);
  }

  pub gone_view : slots_of new ≡ reclaimed (slots_of s) slot
  gone_view =
      view_is new _ (length-set (slots_of s) slot _ ∙ length-view s ∙ sym gone_len) (λ i.
      ap (λ (n : ℕ). option_map (seen n) (entry_at new.slots.items i)) gone.number ∙ elim (cases_eq i slot) [
        | inl same ↦ rw same (ap (option_map (seen s.number)) gone_here ∙ sym (dead_goes s.number (entry_at s.slots.items slot) key gone.was) ∙ ap (option_and_then unless_dead) (sym (view_at s slot)) ∙
            sym (edited_here (option_and_then unless_dead) refl (slots_of s) slot))
        | inr differs ↦ ap (option_map (seen s.number)) (gone_other i differs) ∙ sym (view_at s i) ∙ sym (get_or-set_other (slots_of s) slot i _ None differs)
      ])
