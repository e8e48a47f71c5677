-- The store of a core that is opened.
use Rattle.std.specs.Prelude.{◌≡◌, length}
use Rattle.procedure.specs.Bytes.{Bytes}
use Rattle.procedure.specs.Table.{value_at}
use Rattle.image.specs.Images.{Image}
use Rattle.image.specs.Merges.{table_of}
use Rattle.record_store.specs.Stores.{Slots}
use Rattle.steps.specs.Versions.{opened_versions, versions_in}

-- each key of the opening, and no other, has a record with its value, and no slot is vacant
pub record IsFilledBy (opening : Image) (store : Slots) : Type 0 where
  pub slots : length store ≡ length opening.entries
  pub versions : (q : Bytes) → versions_in store q ≡ opened_versions (value_at (table_of opening) q)
