-- Which key's record may be reclaimed, and what is left of a core without it.
use Rattle.std.specs.Prelude.{◌≡◌, ℕ, Bool, false, cond, length, Option, Some, None, IsSome}
use Rattle.procedure.specs.Bytes.{Bytes, same}
use Rattle.procedure.specs.Needs.{Writes}
use Rattle.procedure.specs.Table.{value_at}
use Rattle.phase.specs.declared.phases.Phase.TheVariants.{Rest}
use Rattle.commitlog.specs.Cuts.{cut, last_finished, written}
use Rattle.commitlog.specs.Histories.{phase_of}
use Rattle.image.specs.Merges.{table_of}
use Rattle.record_store.specs.DeadKeys.{precedes}
use Rattle.record_store.specs.Stores.{key_at}
use Rattle.steps.specs.CoreViews.{CoreView, any_open, bars, table_now}
use Rattle.steps.specs.Versions.{versions_in}

-- has an open call touched the key?
abbrev pub is_touched : CoreView → Bytes → Bool
is_touched v key = any_open (bars v (Writes key)) v.calls

-- has a call of the log written the key since the cut of the last finished checkpoint?
abbrev pub is_recent : CoreView → Bytes → Bool
is_recent v key = written v.catalog (table_of v.opening) v.log (cut v.log (last_finished v.log)) (length v.log) key

-- a key whose record may go
pub record MayGo (v : CoreView) (key : Bytes) : Type 0 where
  pub recorded : IsSome (versions_in v.slots key)
  pub absent : value_at (table_now v) key ≡ None
  pub untouched : is_touched v key ≡ false
  pub unwritten : is_recent v key ≡ false

-- the reclaimable key, if there is one: at rest, the least of those whose record may go
abbrev pub IsReclaimable : CoreView → Option Bytes → Type 0
IsReclaimable v None = phase_of v.log ≡ Rest → (key : Bytes) → MayGo v key → ⊥
IsReclaimable v (Some least) = (phase_of v.log ≡ Rest) × MayGo v least × ((key : Bytes) → MayGo v key → precedes key least ≡ false)

-- what is left at a key, where one may be gone
abbrev pub without : {X : Type 0} → Option Bytes → Bytes → Option X → Option X
without None key x = x
without (Some gone) key x = cond (same key gone) None x

-- what is left of the key in a slot
abbrev pub left_of : Option Bytes → Option Bytes → Option Bytes
left_of key None = None
left_of key (Some k) = without key k (Some k)

-- the record of the key is gone, and no other
pub record Reclaims (old new : CoreView) (gone : Option Bytes) : Type 0 where
  pub rest : new ≡ record old { slots = new.slots }
  pub slots : length new.slots ≡ length old.slots
  pub keys : (slot : ℕ) → key_at new.slots slot ≡ left_of gone (key_at old.slots slot)
  pub versions : (key : Bytes) → versions_in new.slots key ≡ without gone key (versions_in old.slots key)
