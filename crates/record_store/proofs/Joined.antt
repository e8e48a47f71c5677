-- The records of slots, joined with their copies.
use Rattle.std.proofs.Common.{◌≡◌, ℕ, zero, suc, ◌+◌, ◌-◌, ◌<◌, ◌≤◌, true, false, cond, List, [], ◌∷◌, ◌++◌, length, replicate, Option, Some, None, is_some, option_map, refl, sym, ap, ◌∙◌, arith, slice_set}
use Rattle.std.proofs.lemmas.List.{length-append, length-replicate, set-get_or}
use Rattle.std.proofs.lemmas.List.Sums.{sum_by-cons}
use Rattle.std.specs.Option.{option_and_then}
use Rattle.record_store.specs.Entries.{Entry, entry_at, entry_changed, key_if_dead, live_entries, live_of, offer_of, stable_in, with_entry_stable}
use Rattle.record_store.specs.EntryFields.{copy_at, entry_of, joined, no_copy, version_under, with_copy_at}
use Rattle.record_store.specs.KeptRecords.{kept_at, kept_live, kept_offer, kept_key_if_dead, live_kept}
use Rattle.record_store.specs.declared.kept.Kept.{Kept}
use Rattle.record_store.specs.declared.entries.Copied.{Copied}

module _ {A : Type 0} where
  pub length-joined : (slots : List (Option (Kept A))) (copies : List (Copied A)) → length (joined slots copies) ≡ length slots
  length-joined [] copies = refl
  length-joined (o ∷ slots) [] = ap suc (length-joined slots [])
  length-joined (o ∷ slots) (c ∷ copies) = ap suc (length-joined slots copies)

  -- the entry of a slot
  pub joined_at : (slots : List (Option (Kept A))) (copies : List (Copied A)) (i : ℕ) → entry_at (joined slots copies) i ≡ option_map (entry_of (copy_at copies i)) (kept_at slots i)
  joined_at [] copies zero = refl
  joined_at [] copies (suc i) = refl
  joined_at (o ∷ slots) [] zero = refl
  joined_at (o ∷ slots) [] (suc i) = joined_at slots [] i
  joined_at (o ∷ slots) (c ∷ copies) zero = refl
  joined_at (o ∷ slots) (c ∷ copies) (suc i) = joined_at slots copies i

  -- another record in a slot
  pub joined_set :
      (slots : List (Option (Kept A))) (copies : List (Copied A)) (i : ℕ) (o : Option (Kept A)) →
      joined (slice_set slots i o) copies ≡ slice_set (joined slots copies) i (option_map (entry_of (copy_at copies i)) o)
  joined_set [] copies i o = refl
  joined_set (p ∷ slots) [] zero o = refl
  joined_set (p ∷ slots) [] (suc i) o = ap (λ (x : List (Option Entry)). option_map (entry_of no_copy) p ∷ x) (joined_set slots [] i o)
  joined_set (p ∷ slots) (c ∷ copies) zero o = refl
  joined_set (p ∷ slots) (c ∷ copies) (suc i) o = ap (λ (x : List (Option Entry)). option_map (entry_of c) p ∷ x) (joined_set slots copies i o)

  mapped : (f : Kept A → Kept A) (h : Entry → Entry) (c : Copied A) → ((k : Kept A) → entry_of c (f k) ≡ h (entry_of c k)) → (o : Option (Kept A)) →
      option_map (entry_of c) (option_map f o) ≡ option_map h (option_map (entry_of c) o)
  mapped f h c same None = refl
  mapped f h c same (Some k) = ap (λ (e : Entry). Some e) (same k)

  -- a record that is changed in its slot
  pub joined_changed :
      (slots : List (Option (Kept A))) (copies : List (Copied A)) (i : ℕ) (f : Kept A → Kept A) (h : Entry → Entry) → ((c : Copied A) (k : Kept A) → entry_of c (f k) ≡ h (entry_of c k)) →
      joined (slice_set slots i (option_map f (kept_at slots i))) copies ≡ entry_changed h (joined slots copies) i
  joined_changed slots copies i f h same =
      joined_set slots copies i (option_map f (kept_at slots i))
      ∙ ap (slice_set (joined slots copies) i) (mapped f h (copy_at copies i) (same (copy_at copies i)) (kept_at slots i) ∙ ap (option_map h) (sym (joined_at slots copies i)))

  copied_to : (c d : Copied A) (o : Option (Kept A)) → option_map (entry_of d) o ≡ option_map (with_entry_stable d.version d.number) (option_map (entry_of c) o)
  copied_to c d None = refl
  copied_to c d (Some k) = refl

  -- another copy of a slot that has one
  pub joined_copied :
      (slots : List (Option (Kept A))) (copies : List (Copied A)) (i : ℕ) (d : Copied A) → i < length copies →
      joined slots (slice_set copies i d) ≡ entry_changed (with_entry_stable d.version d.number) (joined slots copies) i
  joined_copied slots [] i d below = absurd (omega arith)
  joined_copied [] (c ∷ copies) zero d below = refl
  joined_copied [] (c ∷ copies) (suc i) d below = refl
  joined_copied (o ∷ slots) (c ∷ copies) zero d below = ap (λ (x : Option Entry). x ∷ joined slots copies) (copied_to c d o)
  joined_copied (o ∷ slots) (c ∷ copies) (suc i) d below = ap (λ (x : List (Option Entry)). option_map (entry_of c) o ∷ x) (joined_copied slots copies i d (omega arith))

  -- places without a copy add nothing
  fill_none : (slots : List (Option (Kept A))) (n : ℕ) → joined slots (replicate n no_copy) ≡ joined slots []
  fill_none [] n = refl
  fill_none (o ∷ slots) zero = refl
  fill_none (o ∷ slots) (suc n) = ap (λ (x : List (Option Entry)). option_map (entry_of no_copy) o ∷ x) (fill_none slots n)

  pub joined_filled : (slots : List (Option (Kept A))) (copies : List (Copied A)) (n : ℕ) → joined slots (copies ++ replicate n no_copy) ≡ joined slots copies
  joined_filled slots [] n = fill_none slots n
  joined_filled [] (c ∷ copies) n = refl
  joined_filled (o ∷ slots) (c ∷ copies) n = ap (λ (x : List (Option Entry)). option_map (entry_of c) o ∷ x) (joined_filled slots copies n)

  -- one slot more
  pub joined_more :
      (slots : List (Option (Kept A))) (copies : List (Copied A)) (o : Option (Kept A)) → length copies ≤ length slots →
      joined (slots ++ o ∷ []) copies ≡ joined slots copies ++ option_map (entry_of no_copy) o ∷ []
  joined_more [] [] o few = refl
  joined_more [] (c ∷ copies) o few = absurd (omega arith)
  joined_more (p ∷ slots) [] o few = ap (λ (x : List (Option Entry)). option_map (entry_of no_copy) p ∷ x) (joined_more slots [] o (omega arith))
  joined_more (p ∷ slots) (c ∷ copies) o few = ap (λ (x : List (Option Entry)). option_map (entry_of c) p ∷ x) (joined_more slots copies o (omega arith))

  live_one : (c : Copied A) (o : Option (Kept A)) → live_of (option_map (entry_of c) o) ≡ kept_live o
  live_one c None = refl
  live_one c (Some k) = refl

  counted_first : (c : Copied A) (o : Option (Kept A)) (entries : List (Option Entry)) (slots : List (Option (Kept A))) → live_entries entries ≡ live_kept slots →
      live_entries (option_map (entry_of c) o ∷ entries) ≡ live_kept (o ∷ slots)
  counted_first c o entries slots same =
      sum_by-cons (λ (e : Option Entry). cond (is_some (live_of e)) 1 0) (option_map (entry_of c) o) entries
      ∙ ap (λ b. cond b 1 0 + live_entries entries) (ap is_some (live_one c o))
      ∙ ap (λ n. cond (is_some (kept_live o)) 1 0 + n) same
      ∙ sym (sum_by-cons (λ (k : Option (Kept A)). cond (is_some (kept_live k)) 1 0) o slots)

  -- the live version in a slot
  pub live_joined : (slots : List (Option (Kept A))) (copies : List (Copied A)) (i : ℕ) → live_of (entry_at (joined slots copies) i) ≡ kept_live (kept_at slots i)
  live_joined slots copies i = ap live_of (joined_at slots copies i) ∙ live_one (copy_at copies i) (kept_at slots i)

  offer_one : (c : Copied A) (o : Option (Kept A)) → option_and_then offer_of (option_map (entry_of c) o) ≡ option_and_then kept_offer o
  offer_one c None = refl
  offer_one c (Some k) = refl

  -- what the record in a slot offers
  pub offer_joined : (slots : List (Option (Kept A))) (copies : List (Copied A)) (i : ℕ) → option_and_then offer_of (entry_at (joined slots copies) i) ≡ option_and_then kept_offer (kept_at slots i)
  offer_joined slots copies i = ap (option_and_then offer_of) (joined_at slots copies i) ∙ offer_one (copy_at copies i) (kept_at slots i)

  dead_one : (c : Copied A) (o : Option (Kept A)) → option_and_then key_if_dead (option_map (entry_of c) o) ≡ option_and_then kept_key_if_dead o
  dead_one c None = refl
  dead_one c (Some k) = refl

  -- the key of a dead record in a slot
  pub dead_joined : (slots : List (Option (Kept A))) (copies : List (Copied A)) (i : ℕ) → option_and_then key_if_dead (entry_at (joined slots copies) i) ≡ option_and_then kept_key_if_dead (kept_at slots i)
  dead_joined slots copies i = ap (option_and_then key_if_dead) (joined_at slots copies i) ∙ dead_one (copy_at copies i) (kept_at slots i)

  -- the records that aren't dead
  pub live_counted : (slots : List (Option (Kept A))) (copies : List (Copied A)) → live_entries (joined slots copies) ≡ live_kept slots
  live_counted [] copies = refl
  live_counted (o ∷ slots) [] = counted_first no_copy o (joined slots []) slots (live_counted slots [])
  live_counted (o ∷ slots) (c ∷ copies) = counted_first c o (joined slots copies) slots (live_counted slots copies)

  cleared_one : (o : Option (Kept A)) → option_map (entry_of no_copy) o ≡ option_map (with_entry_stable None 0) (option_map (entry_of no_copy) o)
  cleared_one None = refl
  cleared_one (Some k) = refl

  -- a slot without its copy
  pub joined_cleared :
      (slots : List (Option (Kept A))) (copies : List (Copied A)) (i : ℕ) →
      joined slots (slice_set copies i no_copy) ≡ entry_changed (with_entry_stable None 0) (joined slots copies) i
  joined_cleared [] [] i = refl
  joined_cleared [] (c ∷ copies) zero = refl
  joined_cleared [] (c ∷ copies) (suc i) = refl
  joined_cleared (o ∷ slots) [] zero = ap (λ (x : Option Entry). x ∷ joined slots []) (cleared_one o)
  joined_cleared (o ∷ slots) [] (suc i) = ap (λ (x : List (Option Entry)). option_map (entry_of no_copy) o ∷ x) (joined_cleared slots [] i)
  joined_cleared (o ∷ slots) (c ∷ copies) zero = ap (λ (x : Option Entry). x ∷ joined slots copies) (copied_to c no_copy o)
  joined_cleared (o ∷ slots) (c ∷ copies) (suc i) = ap (λ (x : List (Option Entry)). option_map (entry_of c) o ∷ x) (joined_cleared slots copies i)

  -- a slot with another record, or none, and without its copy
  pub joined_renewed :
      (slots : List (Option (Kept A))) (copies : List (Copied A)) (i : ℕ) (o : Option (Kept A)) →
      joined (slice_set slots i o) (slice_set copies i no_copy) ≡ slice_set (joined slots copies) i (option_map (entry_of no_copy) o)
  joined_renewed [] copies i o = refl
  joined_renewed (p ∷ slots) [] zero o = refl
  joined_renewed (p ∷ slots) [] (suc i) o = ap (λ (x : List (Option Entry)). option_map (entry_of no_copy) p ∷ x) (joined_renewed slots [] i o)
  joined_renewed (p ∷ slots) (c ∷ copies) zero o = refl
  joined_renewed (p ∷ slots) (c ∷ copies) (suc i) o = ap (λ (x : List (Option Entry)). option_map (entry_of c) p ∷ x) (joined_renewed slots copies i o)

  -- a slot with another copy, where there may have been none
  pub joined_with :
      (slots : List (Option (Kept A))) (copies : List (Copied A)) (i : ℕ) (d : Copied A) →
      joined slots (with_copy_at copies i d) ≡ entry_changed (with_entry_stable d.version d.number) (joined slots copies) i
  joined_with slots copies i d =
      let n = i + 1 - length copies in
      joined_copied slots (copies ++ replicate n no_copy) i d (omega (arith, length-append copies (replicate n no_copy), length-replicate n (no_copy {A = A})))
      ∙ ap (λ x. entry_changed (with_entry_stable d.version d.number) x i) (joined_filled slots copies n)

  stable_one : (number : ℕ) (c : Copied A) (o : Option (Kept A)) → is_some o ≡ true → version_under number c ≡ stable_in number (option_map (entry_of c) o)
  stable_one number c None is = absurd (cc)
  stable_one number c (Some k) is = refl

  -- the stable version of a slot with a record
  pub stable_joined :
      (slots : List (Option (Kept A))) (copies : List (Copied A)) (i number : ℕ) → is_some (kept_at slots i) ≡ true →
      version_under number (copy_at copies i) ≡ stable_in number (entry_at (joined slots copies) i)
  stable_joined slots copies i number is = stable_one number (copy_at copies i) (kept_at slots i) is ∙ ap (stable_in number) (sym (joined_at slots copies i))

  none_one : (c : Copied A) (o : Option (Kept A)) → is_some o ≡ false → option_map (entry_of c) o ≡ None
  none_one c None is = refl
  none_one c (Some k) is = absurd (cc)

  -- a slot without a record
  pub vacant_joined : (slots : List (Option (Kept A))) (copies : List (Copied A)) (i : ℕ) → is_some (kept_at slots i) ≡ false → entry_at (joined slots copies) i ≡ None
  vacant_joined slots copies i is = joined_at slots copies i ∙ none_one (copy_at copies i) (kept_at slots i) is

-- where there is no record nothing changes
pub changed_vacant : (entries : List (Option Entry)) (i : ℕ) (f : Entry → Entry) → entry_at entries i ≡ None → entry_changed f entries i ≡ entries
changed_vacant entries i f none = ap (slice_set entries i) (ap (option_map f) none ∙ sym none) ∙ set-get_or entries i None

-- an entry that is changed twice
twice : (f h : Entry → Entry) (o : Option Entry) → option_map h (option_map f o) ≡ option_map (λ e. h (f e)) o
twice f h None = refl
twice f h (Some e) = refl

pub changed_twice : (entries : List (Option Entry)) (i : ℕ) (f h : Entry → Entry) → entry_changed h (entry_changed f entries i) i ≡ entry_changed (λ e. h (f e)) entries i
changed_twice [] i f h = refl
changed_twice (o ∷ entries) zero f h = ap (λ (x : Option Entry). x ∷ entries) (twice f h o)
changed_twice (o ∷ entries) (suc i) f h = ap (λ (x : List (Option Entry)). o ∷ x) (changed_twice entries i f h)

-- where no slot is, nothing changes
pub changed_past : (entries : List (Option Entry)) (i : ℕ) (f : Entry → Entry) → length entries ≤ i → entry_changed f entries i ≡ entries
changed_past [] i f past = refl
changed_past (o ∷ entries) zero f past = absurd (omega arith)
changed_past (o ∷ entries) (suc i) f past = ap (λ (x : List (Option Entry)). o ∷ x) (changed_past entries i f (omega arith))
