-- Where a scan stands.
use Rattle.std.specs.Prelude.{◌≡◌, ℕ, Option, length}
use Rattle.std.specs.Option.{option_map}
use Rattle.procedure.specs.Bytes.{Bytes}
use Rattle.record_store.specs.Stores.{Slots}
use Rattle.steps.specs.Checkpointing.{visited}
use Rattle.steps.specs.CoreViews.{SameKeys}
use Rattle.steps.specs.Versions.{versions_in}
use Rattle.steps.specs.inside.SetAside.{aside_at}
use Rattle.steps.specs.declared.captures.Spot.{Spot}

-- the key there, if there is one
abbrev pub key_of_spot : Option Spot → Option Bytes
key_of_spot s = option_map (λ s. s.key) s

-- a visit of the key changes the versions of its record, and nothing else of the records
pub record VisitsKey (old new : Slots) (key : Option Bytes) : Type 0 where
  pub slots : length new ≡ length old
  pub keys : SameKeys old new
  pub aside : (slot : ℕ) → aside_at new slot ≡ aside_at old slot
  pub versions : (q : Bytes) → versions_in new q ≡ visited key q (versions_in old q)
