-- What bytes print: those of a log, or of an image.
use Rattle.std.specs.Prelude.{◌≡◌, ◌⊎◌, ℕ, ◌+◌, codes, decimal, List, [], ◌∷◌, ◌++◌, length, take, Option, Result, Ok, Err}
use Rattle.std.specs.List.{flat_map}
use Rattle.std.specs.Io.KnownBytes.{Appends}
use Rattle.procedure.specs.Bytes.{Bytes}
use Rattle.phase.specs.Phases.{phase_text}
use Rattle.commitlog.specs.LogBytes.{magic}
use Rattle.commitlog.specs.LogReadings as log
use Rattle.commitlog.specs.LogReadings.{IsReading}
use Rattle.commitlog.specs.Records.{Call, Record, Token}
use Rattle.commitlog.specs.declared.decoding.Ending.{Ending}
use Rattle.commitlog.specs.declared.decoding.Ending.TheVariants.{Clean, Torn}
use Rattle.commitlog.specs.declared.formats.Version.{Version}
use Rattle.image.specs.Images.{Image}
use Rattle.image.specs.Refusals.{IsAnswer}
use Rattle.image.specs.declared.errors.ReadError.{ReadError}
use Rattle.calcdb.specs.Output.{image_text, outcome_text, replies_text, value_text}
use Rattle.calcdb.specs.Reasons.{read_reason}
use Rattle.calcdb.specs.Refusing.{FailsAs, IsRefusal, IsSaid, Suits, no_memory}
use Rattle.procedure.specs.Streams.{IsBegun}
use Rattle.calcdb.specs.declared.faults.Fault.{Fault}
use Rattle.calcdb.specs.declared.faults.Fault.TheVariants as fault
use Rattle.calcdb.specs.declared.faults.Reason.{Reason}
use Rattle.calcdb.specs.declared.faults.Reason.TheVariants as reason

-- LOGS

-- each argument behind a space
abbrev pub arguments_text : List Bytes → Bytes
arguments_text = flat_map (λ v. codes " " ++ value_text v)

-- a call: its session, its number, its procedure, and how many arguments it has
abbrev pub call_text : (session number procedure count : ℕ) → Bytes
call_text s n p count = codes " call " ++ decimal s ++ codes " " ++ decimal n ++ codes " " ++ decimal p ++ codes " " ++ decimal count

-- what a record says
abbrev pub said_text : Record → Bytes
said_text (Token p n) = codes " token " ++ phase_text p ++ codes " " ++ decimal n
said_text (Call s n p args o r) = call_text s n p (length args) ++ arguments_text args ++ outcome_text o ++ replies_text r

-- the line of a record: its place, and what it says
abbrev pub record_text : ℕ → Record → Bytes
record_text place r = decimal place ++ said_text r ++ codes "\n"

-- the lines of records, of which the first stands at this place
unfoldable pub records_text : ℕ → List Record → Bytes
records_text place [] = []
records_text place (r ∷ rs) = record_text place r ++ records_text (place + 1) rs

abbrev pub log_ending_text : Ending → Bytes
log_ending_text Clean = codes " clean\n"
log_ending_text Torn = codes " torn\n"

-- how many records there are, and how the bytes end
abbrev pub count_text : ℕ → Ending → Bytes
count_text count e = codes "log records " ++ decimal count ++ log_ending_text e

-- a log: that line, and one for each record
abbrev pub log_text : List Record → Ending → Bytes
log_text rs e = count_text (length rs) e ++ records_text 0 rs

-- WHAT BYTES SAY

-- the letters of a log stand at the front, of either version
abbrev pub HasLogMagic : Bytes → Type 0
HasLogMagic bytes = (v : Version) × (take 8 bytes ≡ magic v)

-- a reading of bytes as a log, in print
abbrev pub of_reading : log.Reading → Result Bytes Reason
of_reading (log.Log v h rs e) = Ok (log_text rs e)
of_reading log.NotALog = Err reason.NotALog
of_reading (log.Damaged i) = Err (reason.Damaged i)

-- an image that was read, in print
abbrev pub of_image : Result Image ReadError → Result Bytes Reason
of_image (Ok i) = Ok (image_text i)
of_image (Err e) = Err (read_reason e)

-- what bytes print as a log
abbrev pub PrintsLog : Bytes → Result Bytes Reason → Type 0
PrintsLog bytes says = (r : log.Reading) × IsReading bytes r × (says ≡ of_reading r)

-- and as an image
abbrev pub PrintsImage : Bytes → Result Bytes Reason → Type 0
PrintsImage bytes says = (i : Result Image ReadError) × IsAnswer bytes i × (says ≡ of_image i)

-- what bytes print, or why they are refused: as a log where they begin as one, and else as an image
abbrev pub Prints : Bytes → Result Bytes Reason → Type 0
Prints bytes says = (HasLogMagic bytes × PrintsLog bytes says) ⊎ ((HasLogMagic bytes → ⊥) × PrintsImage bytes says)

-- the text that bytes print
abbrev pub IsShown : Bytes → Bytes → Type 0
IsShown bytes text = Prints bytes (Ok text)

-- HOW SHOWING ENDS

-- what is answered, and what went out, is what the bytes print, but where a write failed or memory was wanting; without memory for a line of a text nothing more is written
abbrev pub AgreesWithPrint : Result (Unit {0}) Fault → Result Bytes Reason → Option Bytes → Option Bytes → Type 0
AgreesWithPrint (Ok x) says old new = (text : Bytes) × (says ≡ Ok text) × Appends old new text
AgreesWithPrint (Err f) says old new = Suits f says ⊎ ((f ≡ fault.NoMemory) × (text : Bytes) × (says ≡ Ok text))

-- a text broke off: a write failed or memory was wanting, and a beginning of the text is all that went out
abbrev pub BreaksOff : Bytes → Option Bytes → Option Bytes → Fault → Type 0
BreaksOff text old new f = ((f ≡ fault.Write) ⊎ (f ≡ fault.NoMemory)) × IsBegun old new text

-- or memory was wanting for its first line, which was said in its place
abbrev pub StopsIn : Bytes → Option Bytes → Option Bytes → Fault → Type 0
StopsIn text old new f = BreaksOff text old new f ⊎ IsSaid no_memory old new f

module _ (Says : Result Bytes Reason → Type 0) where
  -- want of memory, or why the bytes are refused
  abbrev pub IsShowFault : Fault → Type 0
  IsShowFault = IsRefusal (λ r. Says (Err r))

  -- one line of a fault was written and nothing else, or a text broke off that the bytes print
  abbrev pub EndsShow : Option Bytes → Option Bytes → Fault → Type 0
  EndsShow old new f =
      FailsAs IsShowFault (λ text. ⊥) old new f
      ⊎ ((text : Bytes) × Says (Ok text) × BreaksOff text old new f)
