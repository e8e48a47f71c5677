-- A core with its images, and how many calls a log has.
use Rattle.std.specs.Prelude.{◌≡◌, ℕ, Bool, List, ◌++◌, Option, ◌-◌, count_by, is_some, length, slice_get, IfOk, OnErr}
use Rattle.std.specs.declared.result.Result.{Result}
use Rattle.std.specs.Option.{option_to_list}
use Rattle.procedure.specs.Table.{Table}
use Rattle.procedure.specs.Procedures.{Procedure}
use Rattle.procedure.specs.declared.memory.NoMemory.{NoMemory}
use Rattle.commitlog.specs.Records.{Record}
use Rattle.commitlog.specs.Histories.{IsCyclic}
use Rattle.image.specs.Images.{Image}
use Rattle.image.specs.Merges.{table_of}
use Rattle.steps.specs.Checkpointing.{taken}
use Rattle.steps.specs.CoreViews.{CoreView}
use Rattle.steps.specs.CutImages.{AllTaken, IsTaken}
use Rattle.workers.specs.Claims.{is_call}

-- how many calls a log has
abbrev pub call_count : List Record → ℕ
call_count log = count_by is_call log

pub record Checkpointed : Type 0 where
  pub core : CoreView
  pub images : List Image

-- each image is the full or the partial one of its checkpoint in the core's log
abbrev pub AreCuts : CoreView → List Image → Type 0
AreCuts core images = AllTaken core.catalog (table_of core.opening) core.log images

-- a core of these procedures, with this opening
abbrev pub IsFrom : List Procedure → Image → CoreView → Type 0
IsFrom catalog opening core = (core.catalog ≡ catalog) × (core.opening ≡ opening)

-- a core keeps the procedures and the opening that it was opened with
abbrev pub KeepsOrigin : (old new : CoreView) → Type 0
KeepsOrigin old new = IsFrom old.catalog old.opening new

-- the image that waits, if one does, goes to the end of the list
pub record IsTakenInto (old new : Checkpointed) (was_waiting : Bool) : Type 0 where
  pub core : new.core ≡ taken old.core
  pub images : new.images ≡ old.images ++ option_to_list old.core.checkpoint.waiting
  pub took : was_waiting ≡ is_some old.core.checkpoint.waiting

-- or, without room for it, nothing changes
abbrev pub TakesInto : (old new : Checkpointed) → Result Bool NoMemory → Type 0
TakesInto old new r = IfOk r (IsTakenInto old new) × OnErr r (new ≡ old)

-- a log grows: it has what it had, and then what was added
abbrev pub LogGrows : (old new : List Record) → Type 0
LogGrows old new = (more : List Record) × (new ≡ old ++ more)

-- an image of a log is one of each longer log
abbrev pub ImagesStay : Type 0
ImagesStay = (c : List Procedure) (t : Table) (l m : List Record) (i : Image) → IsCyclic l → IsTaken c t l i → IsTaken c t (l ++ m) i

-- the last image, if there is one
abbrev pub last_image : List Image → Option Image
last_image images = slice_get images (length images - 1)
