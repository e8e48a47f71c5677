-- How the fields of a store stand for its slots.
use Rattle.std.specs.Prelude.{◌≡◌, ◌≢◌, ◌↔◌, ℕ, ◌<◌, ◌≤◌, Bool, if◌then◌else◌, List, [], ◌∷◌, drop, map, length, Option, Some, None, nat_eq}
use Rattle.std.specs.Option.{option_map, option_and_then}
use Rattle.std.specs.Cmp.Lexicographic.{pointwise}
use Rattle.indexmap.specs.IndexMap.{get as found_at}
use Rattle.procedure.specs.Bytes.{Bytes}
use Rattle.record_store.specs.DeadKeys.{offer_at}
use Rattle.record_store.specs.Stores.{Slots}
use Rattle.record_store.specs.Entries.{Entry, entry_at, offer_of, seen, taken}
use Rattle.record_store.specs.declared.limits.TheConstants.{STORE_RECORDS}
use Rattle.record_store.specs.declared.stores.Store.TheInside.{Inside}

-- the mark of a record under the store's number
abbrev pub mark_of : ℕ → Bool → ℕ
mark_of number available = if available then number else 0

-- none of the slots is this one
abbrev pub HasNot : List ℕ → ℕ → Type 0
HasNot [] slot = Unit {0}
HasNot (v ∷ vs) slot = (v ≢ slot) × HasNot vs slot

abbrev pub slots_of : {A : Type 0} → Inside A → Slots
slots_of s = map (option_map (seen s.number)) s.slots.items

-- the key whose entry the slot holds
abbrev pub entry_key : List (Option Entry) → ℕ → Option Bytes
entry_key slots slot = option_map (λ e. e.key) (entry_at slots slot)

-- each of these slots is vacant, and none stands there twice
abbrev pub AreVacant : List (Option Entry) → List ℕ → Type 0
AreVacant slots [] = Unit {0}
AreVacant slots (v ∷ vs) = (v < length slots) × (entry_at slots v ≡ None) × HasNot vs v × AreVacant slots vs

-- no mark is above the number, and none comes with a stable version that is
pub record IsMarked (number : ℕ) (e : Entry) : Type 0 where
  pub mark : e.mark ≤ number
  pub copied : e.copied ≤ number

pub record IsStore {A : Type 0} (s : Inside A) : Type 0 where
  pub number : 0 < s.number
  pub marked : (slot : ℕ) (e : Entry) → entry_at s.slots.items slot ≡ Some e → IsMarked s.number e
  pub index : (key : Bytes) (slot : ℕ) → (found_at (pointwise nat_eq) s.index key ≡ Some slot) ↔ (entry_key s.slots.items slot ≡ Some key)
  pub records : s.records ≡ taken s.slots.items
  pub room : length s.vacant.items ≡ length s.slots.items
  pub vacant : AreVacant s.slots.items (drop s.records s.vacant.items)
  pub places : length s.slots.items ≤ length s.dead
  pub offers : (slot : ℕ) → offer_at s.dead slot ≡ option_and_then offer_of (entry_at s.slots.items slot)
  pub few : s.records ≤ STORE_RECORDS
