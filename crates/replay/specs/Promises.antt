-- What recovering promises of a log that was written from an opening on, and of the images of its checkpoints.
use Rattle.std.specs.Prelude.{◌≡◌, ◌⊎◌, ◌≤◌, ◌<◌, ℕ, true, List, [], ◌∷◌, ◌++◌, length, take, drop, Ok, Err}
use Rattle.std.specs.declared.result.Result.{Result}
use Rattle.std.specs.FinMap as finite
use Rattle.std.specs.List.{AllByRecursion}
use Rattle.procedure.specs.Bytes.{Bytes}
use Rattle.procedure.specs.Table.{Table}
use Rattle.procedure.specs.Procedures.{Procedure}
use Rattle.commitlog.specs.Records.{Record}
use Rattle.commitlog.specs.Histories.{after, IsLegal, IsOrderly, IsCyclic}
use Rattle.commitlog.specs.Cuts as cuts
use Rattle.commitlog.specs.Cuts.{HasCut, IsFullImage, IsPartialImage}
use Rattle.commitlog.specs.LogBytes.{Fits, log_bytes}
use Rattle.commitlog.specs.LogReadings.{Log, IsHeader, IsReading}
use Rattle.commitlog.specs.declared.formats.Version.{Version}
use Rattle.commitlog.specs.declared.formats.LogHeader.{LogHeader}
use Rattle.commitlog.specs.declared.decoding.Ending.{Ending}
use Rattle.commitlog.specs.declared.limits.TheConstants.{LOG_RECORDS, HEADER_BYTES}
use Rattle.image.specs.Openings.{is_opening}
use Rattle.image.specs.Images.{Image, IsLawfulImage, changes_of}
use Rattle.image.specs.Merges.{IsChain, last_of, table_of}
use Rattle.image.specs.declared.images.Kind.{Kind}
use Rattle.image.specs.declared.images.Kind.TheVariants.{Full, Partial}
use Rattle.image.specs.declared.limits.TheConstants.{ENTRIES, IMAGES}
use Rattle.replay.specs.Headers.{NamesCatalog, NamesOpening}
use Rattle.replay.specs.Recovery.{Recovery}
use Rattle.replay.specs.Replays.{calls_in, is_torn}
use Rattle.replay.specs.declared.audits.Audited.{Audited}
use Rattle.replay.specs.declared.errors.AuditError.{AuditError}
use Rattle.replay.specs.declared.errors.AuditError.TheVariants as audit
use Rattle.replay.specs.declared.errors.RecoverError.{RecoverError}
use Rattle.replay.specs.declared.errors.RecoverError.TheVariants as refused

-- the text is a front, with its header at least, of the bytes of a log of these records
pub record IsFrontOf (v : Version) (h : LogHeader) (l : List Record) (text : Bytes) : Type 0 where
  pub header : IsHeader h
  pub records : AllByRecursion (Fits v) l
  pub count : length l ≤ LOG_RECORDS
  pub long : HEADER_BYTES ≤ length text
  pub behind : Bytes
  pub bytes : log_bytes v h l ≡ text ++ behind

-- the records that stand whole in it are read, and they are a front of them all
abbrev pub ReadsFront : Version → LogHeader → List Record → Bytes → Type 0
ReadsFront v h l text = (m left : List Record) × (l ≡ m ++ left) × (e : Ending) × IsReading text (Log v h m e)

abbrev pub FrontsAreRead : Type 0
FrontsAreRead = (v : Version) (h : LogHeader) (l : List Record) (text : Bytes) → IsFrontOf v h l text → ReadsFront v h l text

-- an opening, and a log from it on: each call gave what its run gave and left at most 100,000 keys, and the tokens went
-- in their cycle
pub record IsHistory (c : List Procedure) (opening : Image) (v : Version) (h : LogHeader) (l : List Record) : Type 0 where
  pub opens : is_opening opening ≡ true
  pub lawful : IsLawfulImage opening
  pub catalog : NamesCatalog h c
  pub named : NamesOpening v h opening
  pub legal : IsLegal c (table_of opening) l
  pub cyclic : IsCyclic l
  pub few : (j : ℕ) → finite.len (after c (table_of opening) (take j l)) ≤ ENTRIES

-- an image without its kind, as the log speaks of it
abbrev pub data_of : Image → cuts.CutImage
data_of i = record { number = i.number; base = i.base; place = i.place; entries = changes_of i }

abbrev pub IsOfKind : Kind → List Procedure → Table → List Record → cuts.CutImage → Type 0
IsOfKind Full c t l i = IsFullImage c t l i
IsOfKind Partial c t l i = IsPartialImage c t l i

-- the image of a checkpoint that the log has cut
pub record IsImageOf (c : List Procedure) (t : Table) (l : List Record) (i : Image) : Type 0 where
  pub cut : HasCut l i.number
  pub image : IsOfKind i.kind c t l (data_of i)

-- an opening is the image of checkpoint 0 of every log
abbrev pub OpeningsAreImages : Type 0
OpeningsAreImages =
    (c : List Procedure) (opening : Image) (l : List Record) → is_opening opening ≡ true → IsLawfulImage opening → IsImageOf c (table_of opening) l opening

-- at most 64 images of the log's checkpoints, each on the one before
pub record IsChainOf (c : List Procedure) (t : Table) (l : List Record) (full : Image) (ps : List Image) : Type 0 where
  pub chain : IsChain full ps
  pub few : length ps < IMAGES
  pub images : AllByRecursion (IsImageOf c t l) (full ∷ ps)

-- the table after these records from the opening on is recovered, or memory ran out
abbrev pub Recovers : List Procedure → Image → (place : ℕ) → List Record → Ending → Result Recovery RecoverError → Type 0
Recovers c opening place m e x =
    (x ≡ Ok (record { state = after c (table_of opening) m; calls = calls_in (drop place m); torn = is_torn e })) ⊎ (x ≡ Err refused.NoMemory)

-- from the opening, of each front of the log
abbrev pub FromOpening : List Procedure → List Image → Bytes → Result Recovery RecoverError → Type 0
FromOpening c is text x =
    (opening : Image) (v : Version) (h : LogHeader) (l : List Record) → IsHistory c opening v h l → IsFrontOf v h l text → is ≡ opening ∷ [] →
    (m left : List Record) × (l ≡ m ++ left) × (e : Ending) × IsReading text (Log v h m e) × Recovers c opening 0 m e x

-- from images of a log's checkpoints, of each front that holds the last one's cut
abbrev pub FromImages : List Procedure → List Image → Bytes → Result Recovery RecoverError → Type 0
FromImages c is text x =
    (opening : Image) (v : Version) (h : LogHeader) (m left : List Record) (e : Ending) (full : Image) (ps : List Image) →
    IsHistory c opening v h (m ++ left) → IsReading text (Log v h m e) → is ≡ full ∷ ps → IsChainOf c (table_of opening) (m ++ left) full ps →
    HasCut m (last_of full ps).number → Recovers c opening (last_of full ps).place m e x

-- a log that passes is one history of one thread, from the opening on
abbrev pub IsOneHistory : List Procedure → Image → Bytes → Type 0
IsOneHistory c i text =
    (v : Version) × (h : LogHeader) × (l : List Record) × (e : Ending) ×
    IsReading text (Log v h l e) × NamesCatalog h c × NamesOpening v h i × IsLegal c (table_of i) l × IsOrderly l × IsCyclic l

-- and each front of an orderly one passes, unless memory runs out
abbrev pub FrontsPass : List Procedure → Image → Bytes → Result Audited AuditError → Type 0
FrontsPass c i text x =
    (v : Version) (h : LogHeader) (l : List Record) → IsHistory c i v h l → IsOrderly l → IsFrontOf v h l text →
    (m left : List Record) × (l ≡ m ++ left) × (e : Ending) × IsReading text (Log v h m e) ×
    ((x ≡ Ok (record { records = length m; calls = calls_in m; torn = is_torn e })) ⊎ (x ≡ Err audit.NoMemory))
