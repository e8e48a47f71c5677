-- How the fields of the entries stand for them.
use Rattle.std.specs.Prelude.{ℕ, ◌+◌, ◌-◌, ◌≤◌, List, [], ◌∷◌, ◌++◌, length, min, replicate, slice_set, Option, None, ◌==◌, if◌then◌else◌, slice_index_or, vec_capacity}
use Rattle.std.specs.Option.{option_map}
use Rattle.procedure.specs.Bytes.{Cell}
use Rattle.record_store.specs.declared.records.Stable.{Stable}
use Rattle.record_store.specs.declared.records.Stable.TheVariants.{Empty, Was}
use Rattle.record_store.specs.Entries.{Entries, Entry}
use Rattle.record_store.specs.declared.kept.Kept.{Kept}
use Rattle.record_store.specs.declared.entries.Copied.{Copied}
use Rattle.record_store.specs.declared.entries.Entries.TheInside.{Inside}

-- what stands where no copy was made
abbrev pub no_copy : {A : Type 0} → Copied A
no_copy = record { version = None; number = 0 }

abbrev pub copy_at : {A : Type 0} → List (Copied A) → ℕ → Copied A
copy_at copies slot = slice_index_or copies slot no_copy

-- with a copy more in this place, and none in those between
abbrev pub with_copy_at : {A : Type 0} → List (Copied A) → ℕ → Copied A → List (Copied A)
with_copy_at copies slot c = slice_set (copies ++ replicate (slot + 1 - length copies) no_copy) slot c

-- the version that counts under a number
abbrev pub version_under : {A : Type 0} → ℕ → Copied A → Stable Cell
version_under number c = if c.number == number then Was c.version else Empty

-- a record and its stable version
abbrev pub entry_of : {A : Type 0} → Copied A → Kept A → Entry
entry_of c k = record { key = k.key; live = k.live; stable = c.version; copied = c.number; mark = k.mark; aside = k.aside }

-- the records of slots, each with the copy of its slot
abbrev pub joined : {A : Type 0} → List (Option (Kept A)) → List (Copied A) → List (Option Entry)
joined [] copies = []
joined (o ∷ slots) [] = option_map (entry_of no_copy) o ∷ joined slots []
joined (o ∷ slots) (c ∷ copies) = option_map (entry_of c) o ∷ joined slots copies

abbrev pub entries_of : {A : Type 0} → Inside A → Entries
entries_of e = record {
  items = joined e.slots.items e.copies.items;
  room = min (vec_capacity e.slots - length e.slots.items) (vec_capacity e.copies - length e.slots.items);
}

-- there are no more copies than slots, and memory for one of each slot
pub record AreKept {A : Type 0} (e : Inside A) : Type 0 where
  pub few : length e.copies.items ≤ length e.slots.items
  pub memory : length e.slots.items ≤ vec_capacity e.copies
