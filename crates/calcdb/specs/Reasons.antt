-- The printed names of refused inputs, and the refusals of what stands below as such.
use Rattle.std.specs.Prelude.{◌≡◌, ◌⊎◌, ◌++◌, codes, decimal, Result, Ok, Err}
use Rattle.procedure.specs.Bytes.{Bytes}
use Rattle.commitlog.specs.declared.decoding.LogError.{LogError}
use Rattle.image.specs.declared.errors.ReadError.{ReadError}
use Rattle.image.specs.declared.errors.ReadError.TheVariants as read
use Rattle.image.specs.declared.merges.MergeError.{MergeError}
use Rattle.replay.specs.Refusals.{of_log, of_merge}
use Rattle.replay.specs.declared.errors.RecoverError.{RecoverError}
use Rattle.replay.specs.declared.errors.RecoverError.TheVariants as recover
use Rattle.calcdb.specs.declared.faults.Reason.{Reason}
use Rattle.calcdb.specs.declared.faults.Reason.TheVariants.{NotAnImage, BadDigest, BadBlock, BadForm, TooMany, NotFull, NotPartial, Gap, NotALog, Damaged, WrongCatalog, WrongOpening, PlaceOutside, Diverged, NotAnOpening, NoView, NoMemory}

abbrev pub reason_text : Reason → Bytes
reason_text NotAnImage = codes "not an image"
reason_text BadDigest = codes "bad digest"
reason_text (BadBlock j) = codes "bad block " ++ decimal j
reason_text BadForm = codes "bad form"
reason_text TooMany = codes "too many"
reason_text NotFull = codes "not full"
reason_text (NotPartial i) = codes "not partial " ++ decimal i
reason_text (Gap i) = codes "gap " ++ decimal i
reason_text NotALog = codes "not a log"
reason_text (Damaged i) = codes "damaged " ++ decimal i
reason_text WrongCatalog = codes "wrong catalog"
reason_text WrongOpening = codes "wrong opening"
reason_text PlaceOutside = codes "place outside"
reason_text (Diverged p) = codes "diverged " ++ decimal p
reason_text NotAnOpening = codes "not an opening"
reason_text NoView = codes "no view"
reason_text NoMemory = codes "no memory"

-- bytes that aren't read as an image
abbrev pub read_reason : ReadError → Reason
read_reason read.NotAnImage = NotAnImage
read_reason read.BadDigest = BadDigest
read_reason (read.BadBlock j) = BadBlock j
read_reason read.BadForm = BadForm
read_reason read.NoMemory = NoMemory

-- a table that isn't recovered
abbrev pub recover_reason : RecoverError → Reason
recover_reason recover.TooMany = TooMany
recover_reason recover.NotFull = NotFull
recover_reason (recover.NotPartial i) = NotPartial i
recover_reason (recover.Gap i) = Gap i
recover_reason recover.NotALog = NotALog
recover_reason (recover.Damaged i) = Damaged i
recover_reason recover.WrongCatalog = WrongCatalog
recover_reason recover.WrongOpening = WrongOpening
recover_reason recover.PlaceOutside = PlaceOutside
recover_reason (recover.Diverged p) = Diverged p
recover_reason recover.NoMemory = NoMemory

-- images that aren't merged, and bytes that aren't read as a log, have the reason for which no table is recovered of them
abbrev pub merge_reason : MergeError → Reason
merge_reason e = recover_reason (of_merge e)

abbrev pub log_reason : LogError → Reason
log_reason e = recover_reason (of_log e)

-- what is answered is what is said, want of memory apart
abbrev pub Tells : {X Y : Type 0} → (X → Y) → Result X Reason → Result Y Reason → Type 0
Tells view (Ok x) says = says ≡ Ok (view x)
Tells view (Err r) says = (r ≡ NoMemory) ⊎ (says ≡ Err r)
