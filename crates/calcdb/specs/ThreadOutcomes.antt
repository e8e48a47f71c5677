-- How a run in threads ends.
use Rattle.std.specs.Prelude.{◌≡◌, ◌⊎◌, Bool, true, false, [], length, List, Option, Result, Ok, Err}
use Rattle.std.specs.Io.KnownBytes.{Appends}
use Rattle.procedure.specs.Bytes.{Bytes}
use Rattle.image.specs.Images.{Image}
use Rattle.image.specs.Openings.{is_opening}
use Rattle.steps.specs.CoreViews.{CoreView}
use Rattle.workers.specs.Checkpointed.{IsFrom}
use Rattle.calcdb.specs.Outcomes.{Refuses}
use Rattle.calcdb.specs.Plans.{call_commands, keys_of}
use Rattle.calcdb.specs.ThreadRuns.{Writes}
use Rattle.calcdb.specs.Scripts.{ThreadScript}
use Rattle.calcdb.specs.declared.faults.Fault.{Fault}
use Rattle.calcdb.specs.declared.faults.Fault.TheVariants as fault
use Rattle.calcdb.specs.declared.faults.Reason.TheVariants.{NotAnOpening, NoView}
use Rattle.calcdb.specs.declared.scripts.ScriptFault.{ScriptFault}
use Rattle.calcdb.specs.declared.scripts.ScriptFault.TheVariants.{Line, Size}

-- the opening is one, the text is a script, and it was run in threads on a core of its procedures and that opening
pub record RunsToEnd (is_kept : Bool) (says : Result ThreadScript ScriptFault) (opening : Image) (core : CoreView) (images : List Image) (old new : Option Bytes) (written : Result (Unit {0}) Fault) : Type 0 where
  pub lawful : is_opening opening ≡ true
  pub script : ThreadScript
  pub reads : says ≡ Ok script
  pub origin : IsFrom script.catalog opening core
  pub writes : Writes is_kept (length (call_commands script.commands)) (keys_of script.commands) core images old new written

-- why nothing is run: the opening is no opening, the text is no script, or no view was opened
abbrev pub IsFault : Result ThreadScript ScriptFault → Image → Fault → Type 0
IsFault says opening (fault.Line n) = (is_opening opening ≡ true) × (says ≡ Err (Line n))
IsFault says opening fault.Size = (is_opening opening ≡ true) × (says ≡ Err Size)
IsFault says opening (fault.Refused r) =
    ((is_opening opening ≡ false) × (r ≡ NotAnOpening)) ⊎ ((is_opening opening ≡ true) × (script : ThreadScript) × (says ≡ Ok script) × (r ≡ NoView))
IsFault says opening _ = ⊥

-- why a run isn't carried out, and what it wrote: nothing, or the line of the fault or a beginning of it
abbrev pub NotCarriedOut : Result ThreadScript ScriptFault → Image → (old new : Option Bytes) → Fault → Type 0
NotCarriedOut says opening old new f =
    (((f ≡ fault.Read) ⊎ (f ≡ fault.NoMemory)) × Appends old new []) ⊎ ((why : Fault) × IsFault says opening why × Refuses why old new f)
