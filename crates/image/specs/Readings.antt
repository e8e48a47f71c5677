-- Reading the bytes of an image: its entries, lawful or not, and the image that they and the header make.
use Rattle.std.specs.Prelude.{◌≡◌, ◌⊎◌, ℕ, zero, suc, ◌-◌, List, length, take, drop, slice_index, Option, Some, None, Ok, Err, nat_eq, if◌then◌else◌}
use Rattle.std.specs.declared.result.Result.{Result}
use Rattle.std.specs.Cmp.Lexicographic.{pointwise}
use Rattle.byteorder.specs.Endian.{big_number}
use Rattle.sha2.specs.Sha256.{sha256}
use Rattle.procedure.specs.Bytes.{Bytes}
use Rattle.image.specs.Images.{Entry, Image}
use Rattle.image.specs.ImageBytes.{IsWritable, block_count}
use Rattle.image.specs.Fronts.{◌>>=◌, blocks_at, entries_at}
use Rattle.image.specs.Refusals.{stated}
use Rattle.image.specs.declared.images.Kind.{Kind}
use Rattle.image.specs.declared.images.Kind.TheVariants.{Full, Partial}
use Rattle.image.specs.declared.errors.ReadError.{ReadError}
use Rattle.image.specs.declared.errors.ReadError.TheVariants as refused

-- entries behind which nothing stands
abbrev pub alone : List Entry × Bytes → Result (List Entry) ReadError
alone x = if nat_eq (length x.1) 0 then Ok x.0 else Err refused.BadForm

abbrev pub alone_or_bad : Option (List Entry × Bytes) → Result (List Entry) ReadError
alone_or_bad None = Err refused.BadForm
alone_or_bad (Some x) = alone x

abbrev pub alone_or_refused : Result (List Entry × Bytes) ReadError → Result (List Entry) ReadError
alone_or_refused (Err e) = Err e
alone_or_refused (Ok x) = alone x

-- the entries of version 1
unfoldable pub first_entries : Bytes → Result (List Entry) ReadError
first_entries b =
    if pointwise nat_eq (drop (length b - 32) b) (sha256 (take (length b - 32) b)) then alone_or_bad (entries_at (stated b) (drop 37 (take (length b - 32) b)))
    else Err refused.BadDigest

-- the entries of version 2
unfoldable pub second_entries : Bytes → Result (List Entry) ReadError
second_entries b =
    if pointwise nat_eq (take 32 (drop 37 b)) (sha256 (take 37 b)) then alone_or_refused (blocks_at (block_count (stated b)) 0 (stated b) (sha256 (take 37 b)) (drop 69 b))
    else Err (refused.BadBlock 0)

abbrev pub kind_of : ℕ → Option Kind
kind_of zero = Some Full
kind_of (suc zero) = Some Partial
kind_of (suc (suc n)) = None

-- the image of a header and entries, lawful or not
unfoldable pub image_at : Bytes → List Entry → Option Image
image_at b es = do
  kind ← kind_of (slice_index b 8)
  Some (record { kind = kind; number = big_number 8 (drop 9 b); base = big_number 8 (drop 17 b); place = big_number 8 (drop 25 b); entries = es })

-- header and entries make no lawful image
abbrev pub IsBad : ℕ → Bytes → List Entry → Type 0
IsBad most b es = (i : Image) → image_at b es ≡ Some i → IsWritable most i → ⊥

-- an answer to bytes whose entries are read so: the lawful image that they make, or else a refusal
abbrev pub Judges : ℕ → Bytes → Result (List Entry) ReadError → Result Image ReadError → Type 0
Judges most b read (Ok i) = (es : List Entry) × (read ≡ Ok es) × (image_at b es ≡ Some i) × IsWritable most i
Judges most b read (Err e) = (read ≡ Err e) ⊎ ((e ≡ refused.BadForm) × (es : List Entry) × (read ≡ Ok es) × IsBad most b es)
