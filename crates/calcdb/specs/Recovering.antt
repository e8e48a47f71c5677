-- What the bytes of a script, of a log and of images are recovered as, and how a recovery ends.
use Rattle.std.specs.Prelude.{◌≡◌, ◌⊎◌, ◌++◌, Bool, true, false, codes, decimal, List, Option, Result, Ok, Err}
use Rattle.std.specs.FinMap as map
use Rattle.procedure.specs.Bytes.{Bytes}
use Rattle.procedure.specs.Procedures.{Procedure}
use Rattle.image.specs.Images.{Image, full_image}
use Rattle.replay.specs.Recovery.{IsRecovery, Recovery}
use Rattle.replay.specs.declared.errors.RecoverError.{RecoverError}
use Rattle.calcdb.specs.ImageFiles.{AreRead}
use Rattle.calcdb.specs.Reasons.{recover_reason}
use Rattle.calcdb.specs.Refusing.{FailsAs, no_memory, text_fault}
use Rattle.calcdb.specs.Preambles.{catalog_of}
use Rattle.calcdb.specs.declared.faults.Fault.{Fault}
use Rattle.calcdb.specs.declared.faults.Fault.TheVariants as fault
use Rattle.calcdb.specs.declared.faults.Reason.{Reason}
use Rattle.calcdb.specs.declared.scripts.ScriptFault.{ScriptFault}

-- what recovering answers, in the words of the program
abbrev pub recovery_in_words : Result Recovery RecoverError → Result Recovery Reason
recovery_in_words (Ok r) = Ok r
recovery_in_words (Err e) = Err (recover_reason e)

-- by procedures, from images that were read and a log
abbrev pub OfImages : List Procedure → Bytes → Result (List Image) Reason → Result Recovery Reason → Type 0
OfImages c log (Err r) says = says ≡ Err r
OfImages c log (Ok is) says = (a : Result Recovery RecoverError) × IsRecovery c is log a × (says ≡ recovery_in_words a)

-- by procedures, from a log and files: the first file that spells no image is refused, and else what recovering answers
abbrev pub OfFiles : List Procedure → Bytes → List Bytes → Result Recovery Reason → Type 0
OfFiles c log files says = (read : Result (List Image) Reason) × AreRead files read × OfImages c log read says

abbrev pub as_fault : Result Recovery Reason → Result Recovery Fault
as_fault (Ok r) = Ok r
as_fault (Err r) = Err (fault.Refused r)

-- by the procedures of a script, or its fault
abbrev pub OfCatalog : Result (List Procedure) ScriptFault → Bytes → List Bytes → Result Recovery Fault → Type 0
OfCatalog (Err e) log files says = says ≡ Err (text_fault e)
OfCatalog (Ok c) log files says = (a : Result Recovery Reason) × OfFiles c log files a × (says ≡ as_fault a)

-- what a script, a log and files of images are recovered as: the table, or the first fault, which is looked for in this order
abbrev pub IsRecovered : (script log : Bytes) → List Bytes → Result Recovery Fault → Type 0
IsRecovered script log files says = OfCatalog (catalog_of script) log files says

-- the opening image of what was recovered
abbrev pub recovered_image : Recovery → Image
recovered_image r = full_image 0 0 r.state

abbrev pub recovered_ending_text : Bool → Bytes
recovered_ending_text true = codes " torn"
recovered_ending_text false = codes " clean"

-- how many calls were run again, how the log ends, and how many keys there are
abbrev pub recovered_line : Recovery → Bytes
recovered_line r = codes "recovered calls " ++ decimal r.calls ++ recovered_ending_text r.torn ++ codes " count " ++ decimal (map.len r.state) ++ codes "\n"

-- the first fault, or want of memory
abbrev pub IsRecoveryFault : (script log : Bytes) → List Bytes → Fault → Type 0
IsRecoveryFault script log files f = IsRecovered script log files (Err f) ⊎ (f ≡ no_memory)

-- the line of what was recovered
abbrev pub IsRecoveryLine : (script log : Bytes) → List Bytes → Bytes → Type 0
IsRecoveryLine script log files text = (r : Recovery) × IsRecovered script log files (Ok r) × (text ≡ recovered_line r)

-- how a recovery fails
abbrev pub EndsRecovery : (script log : Bytes) → List Bytes → Option Bytes → Option Bytes → Fault → Type 0
EndsRecovery script log files = FailsAs (IsRecoveryFault script log files) (IsRecoveryLine script log files)

-- what is answered is what is said, but where a write failed or memory was wanting
abbrev pub AgreesWithRecovery : Result Image Fault → Result Recovery Fault → Type 0
AgreesWithRecovery (Ok i) says = (r : Recovery) × (says ≡ Ok r) × (i ≡ recovered_image r)
AgreesWithRecovery (Err f) says = (f ≡ fault.Write) ⊎ (f ≡ no_memory) ⊎ (says ≡ Err f)
