-- Records that are set aside, or are candidates again, and nothing else of them changes.
use Rattle.std.proofs.Common.{◌≡◌, ◌≢◌, ℕ, ◌⊎◌, inl, inr, Bool, true, false, [], ◌∷◌, zero, suc, Option, Some, None, IsSome, is_some, count_by, length, length-set, option_map, refl, sym, ap, ◌∙◌, arith, get_or-set_other}
use Rattle.std.proofs.lemmas.Bool.{cases_eq}
use Rattle.std.proofs.lemmas.List.{get_or_past}
use Rattle.std.specs.FinMap as map
use Rattle.std.specs.Option.{option_and_then}
use Rattle.procedure.specs.Bytes.{Bytes}
use Rattle.procedure.specs.Table.{KeyMap}
use Rattle.locktable.specs.Locks.{Locks, IsFree}
use Rattle.locktable.specs.declared.modes.Mode.{Mode}
use Rattle.record_store.proofs.Fields.{edited_here}
use Rattle.record_store.specs.Stores.{StoreRecord, Slots, candidate_key, changed, key_at, record_at, with_aside}
use Rattle.steps.specs.inside.SetAside.{AsideIn, IsKnown, IsLocked, SameRecords, StaysFor, aside_at, is_aside, put_aside}
use Rattle.steps.specs.declared.reclaiming.Aside.{Aside}
use Rattle.steps.specs.declared.reclaiming.Aside.TheVariants.{Unknown, Collected, CollectedOrLocked}
use Rattle.steps.proofs.store.RecordEdits.{versions_aside}

-- is the record, if there is one, a candidate?
abbrev pub is_candidate : Option StoreRecord → Bool
is_candidate o = is_some (option_and_then candidate_key o)

-- how many candidates there are
abbrev pub candidates : Slots → ℕ
candidates slots = count_by is_candidate slots

-- WHAT STAYS

here : (b : Bool) (slots : Slots) (i : ℕ) → record_at (changed (with_aside b) slots i) i ≡ option_map (with_aside b) (record_at slots i)
here b slots i = edited_here (option_map (with_aside b)) refl slots i

other : (b : Bool) (slots : Slots) (i j : ℕ) → j ≢ i → record_at (changed (with_aside b) slots i) j ≡ record_at slots j
other b slots i j differs = get_or-set_other slots i j (option_map (with_aside b) (record_at slots i)) None differs

slots_stay : (b : Bool) (slots : Slots) (i : ℕ) → length (changed (with_aside b) slots i) ≡ length slots
slots_stay b slots i = length-set slots i (option_map (with_aside b) (record_at slots i))

key_stays : (b : Bool) (o : Option StoreRecord) → option_map (λ r. r.key) (option_map (with_aside b) o) ≡ option_map (λ r. r.key) o
key_stays b None = refl
key_stays b (Some r) = refl

keys_stay : (b : Bool) (slots : Slots) (i j : ℕ) → key_at (changed (with_aside b) slots i) j ≡ key_at slots j
keys_stay b slots i j =
    elim (cases_eq j i) [
      | inl e ↦ rw e (ap (option_map (λ (r : StoreRecord). r.key)) (here b slots i) ∙ key_stays b (record_at slots i))
      | inr differs ↦ ap (option_map (λ (r : StoreRecord). r.key)) (other b slots i j differs)
    ]

-- who is set aside is all that changes
pub set_aside_same : (aside : Bool) (slots : Slots) (i : ℕ) → SameRecords slots (changed (with_aside aside) slots i)
set_aside_same aside slots i = record { slots = slots_stay aside slots i; keys = keys_stay aside slots i; versions = versions_aside aside slots i }

pub same_then : {a b c : Slots} → SameRecords a b → SameRecords b c → SameRecords a c
same_then first then = record { slots = then.slots ∙ first.slots; keys = λ i. then.keys i ∙ first.keys i; versions = λ q. then.versions q ∙ first.versions q }

-- WHO IS ASIDE

not_aside : (o : Option StoreRecord) → is_aside (option_map (with_aside false) o) ≡ false
not_aside None = refl
not_aside (Some r) = refl

pub none_here : (slots : Slots) (i : ℕ) → aside_at (changed (with_aside false) slots i) i ≡ false
none_here slots i = ap is_aside (here false slots i) ∙ not_aside (record_at slots i)

pub none_other : (slots : Slots) (i j : ℕ) → j ≢ i → aside_at slots j ≡ false → aside_at (changed (with_aside false) slots i) j ≡ false
none_other slots i j differs is = ap is_aside (other false slots i j differs) ∙ is

-- one record more is set aside
pub aside_more :
    (why : Aside) (slots : Slots) (i : ℕ) (key : Bytes) (collected : Bytes → Bool) (locks : Locks) → key_at slots i ≡ Some key → StaysFor why (collected key) (IsLocked locks key) →
    AsideIn why slots collected locks → AsideIn why (put_aside slots i) collected locks
aside_more why slots i key collected locks is stays reasons j k there aside =
    elim (cases_eq j i) [
      | inl e ↦
          let one : Some key ≡ Some k = sym is ∙ sym (ap (key_at slots) e) ∙ sym (keys_stay true slots i j) ∙ there in
          let same : key ≡ k = cc in
          rw (← same) stays
      | inr differs ↦ reasons j k (sym (keys_stay true slots i j) ∙ there) (sym (ap is_aside (other true slots i j differs)) ∙ aside)
    ]

-- they are collected or locked, where they are known to be collected
pub either_reason : (why : Aside) (slots : Slots) (collected : Bytes → Bool) (locks : Locks) → IsKnown why → AsideIn why slots collected locks → AsideIn CollectedOrLocked slots collected locks
either_reason Unknown slots collected locks known reasons = absurd known
either_reason Collected slots collected locks known reasons = λ j k there aside. inl (reasons j k there aside)
either_reason CollectedOrLocked slots collected locks known reasons = reasons

-- LOCKS

held_or_not : (m : KeyMap Mode) (key : Bytes) (o : Option Mode) → map.get m key ≡ o → IsSome (map.get m key) ⊎ (map.get m key ≡ None)
held_or_not m key None is = inr is
held_or_not m key (Some mode) is = inl (ap is_some is)

free_then : (m : KeyMap Mode) (locks : Locks) (key : Bytes) → map.get m key ≡ None → IsFree locks key → IsFree (m ∷ locks) key
free_then m locks key none free zero = none
free_then m locks key none free (suc session) = free session

-- a key is held by some session, or by none
locked_or_free : (locks : Locks) (key : Bytes) → IsLocked locks key ⊎ IsFree locks key
locked_or_free [] key = inr (λ session. ap (λ (m : KeyMap Mode). map.get m key) (get_or_past [] session map.empty (omega arith)) ∙ map.get-empty _ key)
locked_or_free (m ∷ locks) key =
    elim (held_or_not m key (map.get m key) refl) [
      | inl held ↦ inl (0, held)
      | inr none ↦ elim (locked_or_free locks key) [
        | inl locked ↦ inl (suc locked.0, locked.1)
        | inr free ↦ inr (free_then m locks key none free)
      ]
    ]

-- a key that isn't free
pub locked : (locks : Locks) (key : Bytes) → (IsFree locks key → ⊥) → IsLocked locks key
locked locks key taken = elim (locked_or_free locks key) [ inl held ↦ held | inr free ↦ absurd (taken free) ]
