-- What is printed of a refusal.
use Rattle.std.specs.Prelude.{◌++◌, codes}
use Rattle.std.specs.Fmt.{decimal}
use Rattle.procedure.specs.Bytes.{Bytes}
use Rattle.image.specs.declared.errors.SealError.{SealError}
use Rattle.image.specs.declared.errors.SealError.TheVariants as seal
use Rattle.image.specs.declared.errors.ReadError.{ReadError}
use Rattle.image.specs.declared.errors.ReadError.TheVariants as read
use Rattle.image.specs.declared.headers.AssembleError.{AssembleError}
use Rattle.image.specs.declared.headers.AssembleError.TheVariants as assemble
use Rattle.image.specs.declared.images.OpeningError.{OpeningError}
use Rattle.image.specs.declared.images.OpeningError.TheVariants as opening
use Rattle.image.specs.declared.merges.MergeError.{MergeError}
use Rattle.image.specs.declared.merges.MergeError.TheVariants as merge

abbrev pub opening_error_text : OpeningError → Bytes
opening_error_text opening.TooMany = codes "too many"
opening_error_text opening.NoMemory = codes "no memory"

abbrev pub merge_error_text : MergeError → Bytes
merge_error_text merge.TooMany = codes "too many"
merge_error_text merge.NotFull = codes "not full"
merge_error_text (merge.NotPartial i) = codes "not partial " ++ decimal i
merge_error_text (merge.Gap i) = codes "gap " ++ decimal i
merge_error_text merge.NoMemory = codes "no memory"

abbrev pub assemble_error_text : AssembleError → Bytes
assemble_error_text assemble.BadForm = codes "bad form"
assemble_error_text assemble.NoMemory = codes "no memory"

abbrev pub seal_error_text : SealError → Bytes
seal_error_text seal.TooLarge = codes "too large"
seal_error_text seal.NoMemory = codes "no memory"

abbrev pub read_error_text : ReadError → Bytes
read_error_text read.NotAnImage = codes "not an image"
read_error_text read.BadDigest = codes "bad digest"
read_error_text (read.BadBlock j) = codes "bad block " ++ decimal j
read_error_text read.BadForm = codes "bad form"
read_error_text read.NoMemory = codes "no memory"
