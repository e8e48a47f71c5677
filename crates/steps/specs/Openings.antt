-- What a core holds when it was opened.
use Rattle.std.specs.Prelude.{◌≡◌, List, [], length, replicate, None}
use Rattle.procedure.specs.Bytes.{Bytes}
use Rattle.procedure.specs.Procedures.{Procedure}
use Rattle.procedure.specs.Table.{value_at}
use Rattle.procedure.specs.declared.limits.TheConstants.{SESSIONS}
use Rattle.image.specs.Images.{Image}
use Rattle.image.specs.declared.images.Kind.TheVariants.{Full}
use Rattle.image.specs.Merges.{table_of}
use Rattle.steps.specs.CoreViews.{CheckpointView, CoreView}
use Rattle.steps.specs.Versions.{versions_in, opened_versions}
use Rattle.steps.specs.declared.checkpoints.Way.TheVariants.{Whole}

-- no checkpoint ran
abbrev pub no_checkpoint : CheckpointView
no_checkpoint = record { kind = Full; way = Whole; scan = Full; cursor = 0; bound = 0; given = []; waiting = None; header = None }

-- no call is open, no checkpoint ran, the log is empty, each key of the opening, and no other, has a record with its value, and
-- no slot is vacant
pub record IsOpened (c : List Procedure) (i : Image) (v : CoreView) : Type 0 where
  pub catalog : v.catalog ≡ c
  pub opening : v.opening ≡ i
  pub log : v.log ≡ []
  pub calls : v.calls ≡ replicate SESSIONS None
  pub checkpoint : v.checkpoint ≡ no_checkpoint
  pub slots : length v.slots ≡ length i.entries
  pub versions : (q : Bytes) → versions_in v.slots q ≡ opened_versions (value_at (table_of i) q)
