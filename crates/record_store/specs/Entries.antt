-- How the fields of a store stand for its slots.
use Rattle.std.specs.Prelude.{◌≡◌, ◌≢◌, ℕ, ◌==◌, Bool, true, not, ◌&&◌, if◌then◌else◌, List, Option, Some, None, is_none, is_some, count_by, slice_index_or, slice_set}
use Rattle.std.specs.Option.{option_map, option_and_then, option_copied}
use Rattle.std.specs.Borrow.{Bor}
use Rattle.procedure.specs.Bytes.{Bytes, Cell}
use Rattle.record_store.specs.Stores.{StoreRecord}
use Rattle.record_store.specs.declared.records.Stable.{Stable}
use Rattle.record_store.specs.declared.records.Stable.TheVariants.{Empty, Was}
use Rattle.record_store.specs.declared.records.Record.{Record as Lent}

-- a record as the store keeps it. It is available where its mark is the store's number, and its stable version counts where it was
-- copied under that number
pub record Entry : Type 0 where
  pub key : Bytes
  pub live : Cell
  pub stable : Cell
  pub copied : ℕ
  pub mark : ℕ
  pub aside : Bool

-- the slots, and how many can be added without memory
pub record Entries : Type 0 where
  pub items : List (Option Entry)
  pub room : ℕ

-- the entry in a slot
abbrev pub entry_at : List (Option Entry) → ℕ → Option Entry
entry_at slots slot = slice_index_or slots slot None

-- how many slots have an entry
abbrev pub taken : List (Option Entry) → ℕ
taken slots = count_by is_some slots

abbrev pub stable_seen : ℕ → Entry → Stable Cell
stable_seen number e = if e.copied == number then Was e.stable else Empty

-- the record that an entry stands for, under the store's number
abbrev pub seen : ℕ → Entry → StoreRecord
seen number e = record { key = e.key; live = e.live; stable = stable_seen number e; available = e.mark == number; aside = e.aside }

abbrev pub made : Bytes → ℕ → Entry
made key mark = record { key = key; live = None; stable = None; copied = 0; mark = mark; aside = true }

-- the key that an entry offers for reclaim
abbrev pub offer_of : Entry → Option Bytes
offer_of e = if is_none e.live && not e.aside then Some e.key else None

abbrev pub live_of : Option Entry → Cell
live_of o = option_and_then (λ e. e.live) o

-- how many slots have an entry that isn't dead
abbrev pub live_entries : List (Option Entry) → ℕ
live_entries slots = count_by (λ (o : Option Entry). is_some (live_of o)) slots

-- the entry in the slot is changed so
abbrev pub entry_changed : (Entry → Entry) → List (Option Entry) → ℕ → List (Option Entry)
entry_changed f slots slot = slice_set slots slot (option_map f (entry_at slots slot))

-- the slot has the entry, and every other slot what it had
pub record IsPut (old new : List (Option Entry)) (slot : ℕ) (e : Entry) : Type 0 where
  pub here : entry_at new slot ≡ Some e
  pub others : (other : ℕ) → other ≢ slot → entry_at new other ≡ entry_at old other

abbrev pub with_entry_live : Cell → Entry → Entry
with_entry_live live e = record e { live = live }

abbrev pub with_entry_stable : Cell → ℕ → Entry → Entry
with_entry_stable stable copied e = record e { stable = stable; copied = copied }

abbrev pub with_entry_copy : ℕ → Entry → Entry
with_entry_copy number e = record e { stable = e.live; copied = number }

abbrev pub with_entry_mark : ℕ → Entry → Entry
with_entry_mark mark e = record e { mark = mark }

abbrev pub with_entry_aside : Bool → Entry → Entry
with_entry_aside aside e = record e { aside = aside }

-- neither available nor with a stable version, under any number
abbrev pub cleaned : Entry → Entry
cleaned e = record e { stable = None; copied = 0; mark = 0 }

abbrev pub key_if_dead : Entry → Option Bytes
key_if_dead e = if is_none e.live then Some e.key else None

abbrev pub stable_in : ℕ → Option Entry → Stable Cell
stable_in number None = Empty
stable_in number (Some e) = stable_seen number e

-- what was lent of a stable version
abbrev pub lent_stable : Stable (Option (Bor Bytes)) → Stable Cell
lent_stable Empty = Empty
lent_stable (Was v) = Was (option_copied v)

-- what was lent of a record
abbrev pub lent_record : {A : Type 0} → Lent A → StoreRecord
lent_record r = record { key = r.key; live = option_copied r.live; stable = lent_stable r.stable; available = r.available; aside = r.aside }
