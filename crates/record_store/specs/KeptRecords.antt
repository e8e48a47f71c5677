-- Records without their stable versions, in slots.
use Rattle.std.specs.Prelude.{ℕ, Bool, not, ◌&&◌, if◌then◌else◌, List, Option, Some, None, count_by, is_none, is_some, slice_index_or, slice_set}
use Rattle.std.specs.Option.{option_map, option_and_then}
use Rattle.procedure.specs.Bytes.{Bytes, Cell}
use Rattle.record_store.specs.declared.kept.Kept.{Kept}

module _ {A : Type 0} where
  abbrev pub kept_at : List (Option (Kept A)) → ℕ → Option (Kept A)
  kept_at slots slot = slice_index_or slots slot None

  abbrev pub kept_live : Option (Kept A) → Cell
  kept_live o = option_and_then (λ k. k.live) o

  -- how many slots have a record that isn't dead
  abbrev pub live_kept : List (Option (Kept A)) → ℕ
  live_kept slots = count_by (λ (o : Option (Kept A)). is_some (kept_live o)) slots

  -- the key that a record offers for reclaim
  abbrev pub kept_offer : Kept A → Option Bytes
  kept_offer k = if is_none k.live && not k.aside then Some k.key else None

  abbrev pub kept_key_if_dead : Kept A → Option Bytes
  kept_key_if_dead k = if is_none k.live then Some k.key else None

  -- the record in the slot is changed so
  abbrev pub kept_changed : (Kept A → Kept A) → List (Option (Kept A)) → ℕ → List (Option (Kept A))
  kept_changed f slots slot = slice_set slots slot (option_map f (kept_at slots slot))

  abbrev pub with_kept_live : Cell → Kept A → Kept A
  with_kept_live live k = record k { live = live }

  abbrev pub with_kept_mark : ℕ → Kept A → Kept A
  with_kept_mark mark k = record k { mark = mark }

  abbrev pub with_kept_aside : Bool → Kept A → Kept A
  with_kept_aside aside k = record k { aside = aside }
