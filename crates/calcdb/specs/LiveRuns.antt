-- The folder of a run that is kept up while the run goes on.
use Rattle.std.specs.Prelude.{◌≡◌, ◌≤◌, ℕ, List, [], ◌∷◌, ◌++◌, length, map, Option, None, Some, IfSome}
use Rattle.procedure.specs.Bytes.{Bytes}
use Rattle.procedure.specs.CatalogBytes.{catalog_bytes}
use Rattle.sha2.specs.Sha256.{sha256}
use Rattle.commitlog.specs.LogBytes.{log_bytes}
use Rattle.commitlog.specs.LogReadings.{IsHeader, IsReading, Log}
use Rattle.commitlog.specs.LogWriters.{HasSent, Sent}
use Rattle.commitlog.specs.Records.{Record}
use Rattle.commitlog.specs.declared.decoding.Ending.{Ending}
use Rattle.commitlog.specs.declared.formats.LogHeader.{LogHeader}
use Rattle.commitlog.specs.declared.formats.Version.TheVariants.{Two}
use Rattle.image.specs.ImageBytes.{version_2}
use Rattle.replay.specs.Promises.{IsFrontOf}
use Rattle.steps.specs.CoreViews.{CoreView}
use Rattle.calcdb.specs.Journals.{Taken}
use Rattle.calcdb.specs.RunFiles.{File, Makes, image_file}
use Rattle.calcdb.specs.declared.faults.failures.RunFile.TheVariants.{Image}

-- the digests of the procedures and of the opening's bytes
abbrev pub header_of : Taken → LogHeader
header_of t = record { catalog = sha256 (catalog_bytes t.catalog); opening = sha256 (version_2 t.opening) }

-- the opening as image 0, and each image that was taken
abbrev pub image_files : Taken → List File
image_files t = (Image 0, version_2 t.opening) ∷ map image_file t.images

-- the log is open, and its file holds the header and these records
abbrev pub HoldsLog : Option Sent → LogHeader → List Record → Type 0
HoldsLog None h rs = ⊥
HoldsLog (Some s) h rs = HasSent (Some []) s h rs

-- a file holds the log of the first of these records, of so many at least, and a beginning of what follows
pub record HasFront (bytes : Option Bytes) (h : LogHeader) (rs : List Record) (least : ℕ) : Type 0 where
  pub front : List Record
  pub back : List Record
  pub records : rs ≡ front ++ back
  pub enough : least ≤ length front
  pub out : Bytes
  pub left : Bytes
  pub text : log_bytes Two h rs ≡ log_bytes Two h front ++ (out ++ left)
  pub holds : bytes ≡ Some (log_bytes Two h front ++ out)

-- the same of a log that was open, or of none
abbrev pub HoldsFront : Option Sent → LogHeader → List Record → ℕ → Type 0
HoldsFront None h rs least = least ≡ 0
HoldsFront (Some s) h rs least = HasFront s.bytes h rs least

-- where it is known what the folder holds: its images are there, and its log holds the records
pub record IsKeptUp (old new : Option (List File)) (log : Option Sent) (t : Taken) : Type 0 where
  pub images : Makes old new (image_files t)
  pub records : IfSome old (λ _. HoldsLog log (header_of t) t.records)

-- and where it was cut off: the first of its images are there, and its log holds so many records at least
pub record IsCutOff (old new : Option (List File)) (log : Option Sent) (t : Taken) (least : ℕ) : Type 0 where
  pub front : List File
  pub back : List File
  pub files : image_files t ≡ front ++ back
  pub images : Makes old new front
  pub records : IfSome old (λ _. HoldsFront log (header_of t) t.records least)

-- what a file holds of a core's log that was cut off is a front of the log's bytes, and the records that stand whole in it are so many at least
abbrev pub CutOffIsFront : CoreView → Type 0
CutOffIsFront core =
    (h : LogHeader) (text : Bytes) (least : ℕ) → IsHeader h → HasFront (Some text) h core.log least →
    IsFrontOf Two h core.log text × ((m left : List Record) (e : Ending) → core.log ≡ m ++ left → IsReading text (Log Two h m e) → least ≤ length m)
