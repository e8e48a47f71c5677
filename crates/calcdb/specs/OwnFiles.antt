-- What is recovered of the files that a history left: a script with its procedures, its log, and images of it.
use Rattle.std.specs.Prelude.{◌≡◌, ◌⊎◌, ◌<◌, ◌++◌, IfErr, IfOk, ℕ, List, [], ◌∷◌, drop, length, Result, Ok, Err}
use Rattle.std.specs.List.{AllByRecursion, Contains}
use Rattle.procedure.specs.Bytes.{Bytes}
use Rattle.procedure.specs.Procedures.{Procedure}
use Rattle.commitlog.specs.Cuts.{HasCut}
use Rattle.commitlog.specs.Histories.{after}
use Rattle.commitlog.specs.LogBytes.{Fits, log_bytes}
use Rattle.commitlog.specs.LogReadings.{Log, IsHeader, IsReading}
use Rattle.commitlog.specs.Records.{Record}
use Rattle.commitlog.specs.declared.decoding.Ending.{Ending}
use Rattle.commitlog.specs.declared.formats.LogHeader.{LogHeader}
use Rattle.commitlog.specs.declared.formats.Version.{Version}
use Rattle.image.specs.Images.{Image}
use Rattle.image.specs.Merges.{IsChain, last_of, table_of}
use Rattle.image.specs.declared.limits.TheConstants.{IMAGES}
use Rattle.replay.specs.Headers.{NamesCatalog, NamesOpening}
use Rattle.replay.specs.Promises.{FromImages, IsChainOf, IsFrontOf, IsHistory, IsImageOf, Recovers}
use Rattle.replay.specs.Recovery.{IsRecovery, Recovery}
use Rattle.replay.specs.Replays.{calls_in, is_torn}
use Rattle.replay.specs.declared.errors.RecoverError.{RecoverError}
use Rattle.replay.specs.declared.errors.RecoverError.TheVariants as refused
use Rattle.steps.specs.CoreViews.{CoreView, table_now}
use Rattle.calcdb.specs.ImageFiles.{Spell}
use Rattle.calcdb.specs.Recovering.{recovery_in_words, as_fault, recovered_image}
use Rattle.calcdb.specs.Refusing.{no_memory}
use Rattle.calcdb.specs.Preambles.{catalog_of}
use Rattle.calcdb.specs.declared.faults.Fault.{Fault}
use Rattle.calcdb.specs.declared.faults.Fault.TheVariants as fault
use Rattle.calcdb.specs.declared.faults.Reason.{Reason}
use Rattle.calcdb.specs.declared.faults.Reason.TheVariants as reason

-- the table after these records from the opening on, the calls from a place on being run again
abbrev pub history_recovery : List Procedure → Image → (place : ℕ) → List Record → Ending → Recovery
history_recovery c opening place m e = record { state = after c (table_of opening) m; calls = calls_in (drop place m); torn = is_torn e }

-- its image is answered, unless a write failed or memory was wanting
abbrev pub GivesRecovery : Recovery → Result Image Fault → Type 0
GivesRecovery r (Ok i) = i ≡ recovered_image r
GivesRecovery r (Err f) = (f ≡ fault.Write) ⊎ (f ≡ no_memory)

-- from the opening, of each front of the log: the table after the records that stand whole in it
abbrev pub FromOpeningFile : (script text : Bytes) → List Bytes → Result Image Fault → Type 0
FromOpeningFile script text files x =
    (c : List Procedure) (opening : Image) (v : Version) (h : LogHeader) (l : List Record) →
    catalog_of script ≡ Ok c → IsHistory c opening v h l → IsFrontOf v h l text → Spell (opening ∷ []) files →
    (m left : List Record) × (l ≡ m ++ left) × (e : Ending) × IsReading text (Log v h m e) × GivesRecovery (history_recovery c opening 0 m e) x

-- from images of its checkpoints, of each front that holds the last one's cut: the same table
abbrev pub FromImageFiles : (script text : Bytes) → List Bytes → Result Image Fault → Type 0
FromImageFiles script text files x =
    (c : List Procedure) (opening : Image) (v : Version) (h : LogHeader) (m left : List Record) (e : Ending) (full : Image) (ps : List Image) →
    catalog_of script ≡ Ok c → IsHistory c opening v h (m ++ left) → IsReading text (Log v h m e) → Spell (full ∷ ps) files →
    IsChainOf c (table_of opening) (m ++ left) full ps → HasCut m (last_of full ps).number → GivesRecovery (history_recovery c opening (last_of full ps).place m e) x

-- the log of a core is such a history, with a header that names its procedures and its opening
abbrev pub HasHistory : CoreView → Type 0
HasHistory core = (v : Version) (h : LogHeader) → NamesCatalog h core.catalog → NamesOpening v h core.opening → IsHistory core.catalog core.opening v h core.log

-- and these are images of its checkpoints
abbrev pub AreItsImages : CoreView → List Image → Type 0
AreItsImages core is = AllByRecursion (IsImageOf core.catalog (table_of core.opening) core.log) is

-- of each front of its log's bytes, and of each chain of at most 64 of these images, the last one's cut standing in the
-- front: the table after the records that stand whole in it is recovered
abbrev pub AreRecovered : CoreView → List Image → Type 0
AreRecovered core is =
    (v : Version) (h : LogHeader) (text : Bytes) (full : Image) (ps : List Image) (x : Result Recovery RecoverError) →
    NamesCatalog h core.catalog → NamesOpening v h core.opening → IsFrontOf v h core.log text →
    IsChain full ps → length ps < IMAGES → AllByRecursion (Contains is) (full ∷ ps) → FromImages core.catalog (full ∷ ps) text x →
    (m left : List Record) × (core.log ≡ m ++ left) × (e : Ending) × IsReading text (Log v h m e) ×
    (HasCut m (last_of full ps).number → Recovers core.catalog core.opening (last_of full ps).place m e x)

-- and of the whole log, from each such chain: its table, which a renewal opens the next core with
abbrev pub GivesTableNow : CoreView → List Image → Type 0
GivesTableNow core is =
    (v : Version) (h : LogHeader) (full : Image) (ps : List Image) (x : Result Recovery RecoverError) →
    IsHeader h → AllByRecursion (Fits v) core.log → NamesCatalog h core.catalog → NamesOpening v h core.opening →
    IsChain full ps → length ps < IMAGES → AllByRecursion (Contains is) (full ∷ ps) → FromImages core.catalog (full ∷ ps) (log_bytes v h core.log) x →
    IfOk x (λ r. r.state ≡ table_now core) × IfErr x (λ e. e ≡ refused.NoMemory)

-- PARTS

-- what recovering answers, or that memory ran out
abbrev pub OrNoMemory : List Procedure → List Image → Bytes → Result Recovery RecoverError → Type 0
OrNoMemory c is text a = IsRecovery c is text a ⊎ (a ≡ Err refused.NoMemory)

-- from files that spell images
abbrev pub OfSpelled : List Procedure → Bytes → List Bytes → Result Recovery Reason → Type 0
OfSpelled c text files x =
    (is : List Image) → Spell is files → (a : Result Recovery RecoverError) × OrNoMemory c is text a × ((x ≡ recovery_in_words a) ⊎ (x ≡ Err reason.NoMemory))

-- and a script
abbrev pub OfScript : (script text : Bytes) → List Bytes → Result Recovery Fault → Type 0
OfScript script text files x =
    (c : List Procedure) (is : List Image) → catalog_of script ≡ Ok c → Spell is files →
    (a : Result Recovery RecoverError) × OrNoMemory c is text a × ((x ≡ as_fault (recovery_in_words a)) ⊎ (x ≡ Err no_memory))
