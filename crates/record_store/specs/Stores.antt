-- A store as contracts see it: slots, each of them vacant or with a record, each key in one of them.
use Rattle.std.specs.Prelude.{◌≡◌, ◌↔◌, ℕ, Bool, true, false, not, ◌&&◌, if◌then◌else◌, List, [], ◌∷◌, zero, suc, Option, Some, None, is_some, is_none, codes, count_by, slice_index_or, slice_set}
use Rattle.std.specs.Option.{option_map, option_and_then}
use Rattle.procedure.specs.Bytes.{Bytes, Cell}
use Rattle.record_store.specs.DeadKeys.{IsLeast}
use Rattle.record_store.specs.declared.records.Stable.{Stable}
use Rattle.record_store.specs.declared.records.Stable.TheVariants.{Empty, Was}
use Rattle.record_store.specs.declared.stores.CreateError.{CreateError}
use Rattle.record_store.specs.declared.stores.CreateError.TheVariants.{TableFull, NoMemory}

-- a key with its live and its stable version; is it available? is it set aside from reclaim?
pub record StoreRecord : Type 0 where
  pub key : Bytes
  pub live : Cell
  pub stable : Stable Cell
  pub available : Bool
  pub aside : Bool

abbrev pub Slots : Type 0
Slots = List (Option StoreRecord)

abbrev pub record_at : Slots → ℕ → Option StoreRecord
record_at slots slot = slice_index_or slots slot None

-- the key whose record the slot holds
abbrev pub key_at : Slots → ℕ → Option Bytes
key_at slots slot = option_map (λ r. r.key) (record_at slots slot)

-- the live version in the slot; absent, where it is vacant
abbrev pub live_at : Slots → ℕ → Cell
live_at slots slot = option_and_then (λ r. r.live) (record_at slots slot)

abbrev pub is_live : Option StoreRecord → Bool
is_live o = is_some (option_and_then (λ r. r.live) o)

-- how many records aren't dead
abbrev pub live_count : Slots → ℕ
live_count slots = count_by is_live slots

abbrev pub stable_of : Option StoreRecord → Stable Cell
stable_of None = Empty
stable_of (Some r) = r.stable

-- the stable version in the slot; Empty, where it is vacant
abbrev pub stable_at : Slots → ℕ → Stable Cell
stable_at slots slot = stable_of (record_at slots slot)

-- how many records there are, dead ones counted
abbrev pub records : Slots → ℕ
records slots = count_by is_some slots

-- a record as it is made
abbrev pub new_record : Bytes → Bool → StoreRecord
new_record key available = record { key = key; live = None; stable = Empty; available = available; aside = true }

-- the slot holds the record; the slots that it has to come after are vacant, where there were fewer
abbrev pub with_record : Slots → ℕ → StoreRecord → Slots
with_record [] zero r = Some r ∷ []
with_record [] (suc n) r = None ∷ with_record [] n r
with_record (s ∷ slots) zero r = Some r ∷ slots
with_record (s ∷ slots) (suc n) r = s ∷ with_record slots n r

-- the record in the slot is changed so; a vacant slot stays as it is
abbrev pub changed : (StoreRecord → StoreRecord) → Slots → ℕ → Slots
changed f slots slot = slice_set slots slot (option_map f (record_at slots slot))

abbrev pub with_live : Cell → StoreRecord → StoreRecord
with_live live r = record r { live = live }

abbrev pub with_stable : Stable Cell → StoreRecord → StoreRecord
with_stable stable r = record r { stable = stable }

-- its stable version is a copy of the live one
abbrev pub with_copy : StoreRecord → StoreRecord
with_copy r = record r { stable = Was r.live }

abbrev pub with_available : Bool → StoreRecord → StoreRecord
with_available available r = record r { available = available }

abbrev pub with_aside : Bool → StoreRecord → StoreRecord
with_aside aside r = record r { aside = aside }

-- as all records are when a checkpoint begins: not available, and without a stable version
abbrev pub record_at_rest : StoreRecord → StoreRecord
record_at_rest r = record r { stable = Empty; available = false }

-- the key of a dead record that isn't set aside
abbrev pub candidate_key : StoreRecord → Option Bytes
candidate_key r = if is_none r.live && not r.aside then Some r.key else None

abbrev pub candidate_at : Slots → ℕ → Option Bytes
candidate_at slots slot = option_and_then candidate_key (record_at slots slot)

-- what is left of a record that is to go: nothing if it is dead
abbrev pub unless_dead : StoreRecord → Option StoreRecord
unless_dead r = if is_none r.live then None else Some r

abbrev pub reclaimed : Slots → ℕ → Slots
reclaimed slots slot = slice_set slots slot (option_and_then unless_dead (record_at slots slot))

-- no two slots have the same key
pub record HasKeysOnce (slots : Slots) : Type 0 where
  pub once : (i j : ℕ) (key : Bytes) → key_at slots i ≡ Some key → key_at slots j ≡ Some key → i ≡ j

-- the slot whose record has the key, if there is one
pub record Finds (slots : Slots) (key : Bytes) (found : Option ℕ) : Type 0 where
  pub only : (slot : ℕ) → (found ≡ Some slot) ↔ (key_at slots slot ≡ Some key)

-- the slot that has the least key of the candidates, if there is one
abbrev pub IsLeastCandidate : Slots → Option ℕ → Type 0
IsLeastCandidate slots None = (slot : ℕ) → candidate_at slots slot ≡ None
IsLeastCandidate slots (Some slot) = IsLeast (candidate_at slots) slot

-- what is printed of a refusal
abbrev pub create_error_text : CreateError → Bytes
create_error_text TableFull = codes "table full"
create_error_text NoMemory = codes "no memory"
