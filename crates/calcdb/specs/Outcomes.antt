-- What a run of a script writes, and how it ends.
use Rattle.std.specs.Prelude.{◌≡◌, ◌⊎◌, true, false, codes, decimal, [], ◌++◌, Option, Result, Ok, Err}
use Rattle.std.specs.Io.KnownBytes.{Appends}
use Rattle.procedure.specs.Bytes.{Bytes}
use Rattle.image.specs.Images.{Image}
use Rattle.steps.specs.CoreViews.{CoreView}
use Rattle.image.specs.Openings.{is_opening}
use Rattle.steps.specs.Openings.{IsOpened}
use Rattle.calcdb.specs.Reasons.{reason_text}
use Rattle.calcdb.specs.Runs.{Carried, CarriesAll, HasRun, Images, Sent}
use Rattle.calcdb.specs.Scripts.{Schedule}
use Rattle.procedure.specs.Streams.{IsBegun}
use Rattle.calcdb.specs.declared.faults.Fault.{Fault}
use Rattle.calcdb.specs.declared.faults.Fault.TheVariants as fault
use Rattle.calcdb.specs.declared.faults.Reason.TheVariants.{NotAnOpening}
use Rattle.calcdb.specs.declared.scripts.ScriptFault.{ScriptFault}
use Rattle.calcdb.specs.declared.scripts.ScriptFault.TheVariants.{Line, NoMemory, Size}

-- the one line of a text that is no script, or of an opening that is refused
abbrev pub fault_text : Fault → Bytes
fault_text (fault.Line n) = codes "fault line " ++ decimal n ++ codes "\n"
fault_text fault.Size = codes "fault size\n"
fault_text (fault.Refused r) = codes "refused " ++ reason_text r ++ codes "\n"
fault_text fault.Read = []
fault_text fault.Write = []
fault_text fault.NoMemory = []

module _ (A : Type 0) where
  -- the opening is one, the text is a script, and all of its commands were carried out on a core that was opened so
  pub record RunsTo (says : Result Schedule ScriptFault) (opening : Image) (core : CoreView) (text : Bytes) (images : Images) : Type 0 where
    pub lawful : is_opening opening ≡ true
    pub script : Schedule
    pub reads : says ≡ Ok script
    pub first : CoreView
    pub opened : IsOpened script.catalog opening first
    pub carried : Carried {A = A} (CarriesAll script.catalog script.commands) first core text images

  -- some of them were, from the front on
  pub record RunsFor (says : Result Schedule ScriptFault) (opening : Image) (text : Bytes) : Type 0 where
    pub lawful : is_opening opening ≡ true
    pub script : Schedule
    pub reads : says ≡ Ok script
    pub first : CoreView
    pub core : CoreView
    pub opened : IsOpened script.catalog opening first
    pub run : HasRun A script.catalog script.commands first core text

  -- the fault comes first: of the opening, and then of the text
  abbrev pub IsRunFault : Result Schedule ScriptFault → Image → Fault → Type 0
  IsRunFault says opening (fault.Line n) = (is_opening opening ≡ true) × (says ≡ Err (Line n))
  IsRunFault says opening fault.Size = (is_opening opening ≡ true) × (says ≡ Err Size)
  IsRunFault says opening (fault.Refused r) = (is_opening opening ≡ false) × (r ≡ NotAnOpening)
  IsRunFault says opening _ = ⊥

  -- a text of which a run that was stopped may have written a beginning
  abbrev pub IsText : Result Schedule ScriptFault → Image → Bytes → Type 0
  IsText says opening text = RunsFor says opening text ⊎ ((f : Fault) × IsRunFault says opening f × (text ≡ fault_text f))

  -- nothing went out, or a beginning of such a text
  abbrev pub IsStopped : Result Schedule ScriptFault → Image → Option Bytes → Option Bytes → Type 0
  IsStopped says opening old new = Appends old new [] ⊎ ((text : Bytes) × IsText says opening text × IsBegun old new text)

  -- what went out by the time of a fault
  abbrev pub EndsRun : Result Schedule ScriptFault → Image → Option Bytes → Option Bytes → Fault → Type 0
  EndsRun says opening old new (fault.Line n) = IsRunFault says opening (fault.Line n) × Appends old new (fault_text (fault.Line n))
  EndsRun says opening old new fault.Size = IsRunFault says opening fault.Size × Appends old new (fault_text fault.Size)
  EndsRun says opening old new (fault.Refused r) = IsRunFault says opening (fault.Refused r) × Appends old new (fault_text (fault.Refused r))
  EndsRun says opening old new fault.Read = Appends old new []
  EndsRun says opening old new fault.Write = IsStopped says opening old new
  EndsRun says opening old new fault.NoMemory = IsStopped says opening old new

  -- how a script's run stops: before the core is opened, or after some of the commands
  abbrev pub StopsAs : Schedule → Image → Option Bytes → Option Bytes → Fault → Type 0
  StopsAs script opening old new f =
      ((f ≡ fault.NoMemory) × Appends old new [])
      ⊎ ((first : CoreView) × (core : CoreView) × (text : Bytes) × IsOpened script.catalog opening first × HasRun A script.catalog script.commands first core text × Sent (Err f) old new text)

-- the one line was written, or a beginning of it
abbrev pub Refuses : Fault → Option Bytes → Option Bytes → Fault → Type 0
Refuses f old new fault.Write = IsBegun old new (fault_text f)
Refuses f old new fault.NoMemory = IsBegun old new (fault_text f)
Refuses f old new fault.Read = ⊥
Refuses f old new (fault.Line n) = (f ≡ fault.Line n) × Appends old new (fault_text f)
Refuses f old new fault.Size = (f ≡ fault.Size) × Appends old new (fault_text f)
Refuses f old new (fault.Refused r) = (f ≡ fault.Refused r) × Appends old new (fault_text f)

abbrev pub HasLine : Fault → Type 0
HasLine (fault.Line n) = Unit {0}
HasLine fault.Size = Unit {0}
HasLine (fault.Refused r) = Unit {0}
HasLine _ = ⊥

-- the line of a text that is no script was written, or a beginning of it; without memory nothing was
abbrev pub RefusesScript : ScriptFault → Option Bytes → Option Bytes → Fault → Type 0
RefusesScript (Line n) old new r = Refuses (fault.Line n) old new r
RefusesScript Size old new r = Refuses fault.Size old new r
RefusesScript NoMemory old new r = (r ≡ fault.NoMemory) × Appends old new []
