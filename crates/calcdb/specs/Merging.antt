-- What files of images say as one image, and how their merge ends.
use Rattle.std.specs.Prelude.{◌≡◌, ◌⊎◌, List, Option, Result, Ok, Err}
use Rattle.procedure.specs.Bytes.{Bytes}
use Rattle.image.specs.Images.{Image}
use Rattle.image.specs.Mergers as in_turn
use Rattle.image.specs.Mergers.{Merging}
use Rattle.image.specs.declared.merges.MergeError.{MergeError}
use Rattle.calcdb.specs.ImageFiles.{AreRead}
use Rattle.calcdb.specs.Output.{header_line}
use Rattle.calcdb.specs.Reasons.{merge_reason}
use Rattle.calcdb.specs.Refusing.{FailsAs, IsRefusal}
use Rattle.calcdb.specs.declared.faults.Fault.{Fault}
use Rattle.calcdb.specs.declared.faults.Reason.{Reason}
use Rattle.calcdb.specs.declared.faults.Reason.TheVariants as reason

-- in the words of the program
abbrev pub merge_in_words : Result Image MergeError → Result Image Reason
merge_in_words (Ok i) = Ok i
merge_in_words (Err e) = Err (merge_reason e)

-- images as one, the first with the rest, or why they aren't merged
abbrev pub merge_of : List Image → Result Image Reason
merge_of is = merge_in_words (in_turn.merge_of is)

-- what was read, as one
abbrev pub merge_of_read : Result (List Image) Reason → Result Image Reason
merge_of_read (Ok is) = merge_of is
merge_of_read (Err r) = Err r

-- what files of images say as one: the first that spells none is refused, and else the merge
abbrev pub IsMerge : List Bytes → Result Image Reason → Type 0
IsMerge files says = (read : Result (List Image) Reason) × AreRead files read × (says ≡ merge_of_read read)

-- what is kept of files of images that were read so
abbrev pub kept_of : Result (List Image) Reason → Result Merging Reason
kept_of (Ok is) = Ok (in_turn.after is)
kept_of (Err r) = Err r

-- this is kept of these files, which came in turn, or there was no memory for it
pub record HasTaken (files : List Bytes) (kept : Result Merging Reason) : Type 0 where
  pub some : (kept ≡ Err reason.NoMemory) ⊎ ((read : Result (List Image) Reason) × AreRead files read × (kept ≡ kept_of read))
  pub only : (read : Result (List Image) Reason) → AreRead files read → (kept ≡ kept_of read) ⊎ (kept ≡ Err reason.NoMemory)

-- want of memory, or why they aren't merged
abbrev pub IsMergeFault : List Bytes → Fault → Type 0
IsMergeFault files = IsRefusal (λ r. IsMerge files (Err r))

-- the header line of the merged image
abbrev pub IsMergeHeader : List Bytes → Bytes → Type 0
IsMergeHeader files text = (i : Image) × IsMerge files (Ok i) × (text ≡ header_line i)

-- how a merge of files fails
abbrev pub EndsMerge : List Bytes → Option Bytes → Option Bytes → Fault → Type 0
EndsMerge files = FailsAs (IsMergeFault files) (IsMergeHeader files)
