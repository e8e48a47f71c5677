-- Which bytes are no image's, and how each of them is refused.
use Rattle.std.specs.Prelude.{◌≡◌, ◌≤◌, ◌<◌, ◌⊎◌, ℕ, zero, suc, ◌-◌, ◌*◌, ◌^◌, min, List, ◌++◌, length, take, drop, codes, IfSome, Ok, Err}
use Rattle.std.specs.declared.result.Result.{Result}
use Rattle.std.specs.List.{AllByRecursion}
use Rattle.byteorder.specs.Endian.{big_number}
use Rattle.sha2.specs.Sha256.{sha256}
use Rattle.procedure.specs.Bytes.{Bytes}
use Rattle.image.specs.Images.{Entry, Image}
use Rattle.image.specs.ImageBytes.{IsImageSpelling, block_count, blocks_bytes}
use Rattle.image.specs.declared.limits.TheConstants.{BLOCK}
use Rattle.image.specs.declared.errors.ReadError.{ReadError}
use Rattle.image.specs.declared.errors.ReadError.TheVariants.{NotAnImage, BadDigest, BadBlock, BadForm, NoMemory}

-- an entry that has a spelling, lawful or not: one byte counts the key's, two the value's
pub record IsSpellable (e : Entry) : Type 0 where
  pub key : length e.0 < 2 ^ 8
  pub value : IfSome e.1 (λ v. length v < 2 ^ 16)

-- long enough for a header and a digest, and of version 1
pub record IsFirst (bytes : Bytes) : Type 0 where
  pub long : 69 ≤ length bytes
  pub magic : take 8 bytes ≡ codes "CALCIMG1"

pub record IsSecond (bytes : Bytes) : Type 0 where
  pub long : 69 ≤ length bytes
  pub magic : take 8 bytes ≡ codes "CALCIMG2"

-- the last 32 bytes are the digest of those before
abbrev pub IsSigned : Bytes → Type 0
IsSigned bytes = drop (length bytes - 32) bytes ≡ sha256 (take (length bytes - 32) bytes)

-- behind the header of version 2 stands its digest
abbrev pub HasHeader : Bytes → Type 0
HasHeader bytes = take 32 (drop 37 bytes) ≡ sha256 (take 37 bytes)

-- how many entries the header states
abbrev pub stated : Bytes → ℕ
stated bytes = big_number 4 (drop 33 bytes)

-- the text begins with j whole blocks of n entries, of which the last may be a shorter one
abbrev pub Opens : ℕ → Bytes → ℕ → Bytes → Type 0
Opens n before j text =
    (es : List Entry) × (rest : Bytes) × (length es ≡ min n (BLOCK * j)) × AllByRecursion IsSpellable es × (text ≡ blocks_bytes j before es ++ rest)

-- behind the header stand so many whole blocks
abbrev pub HasBlocks : ℕ → Bytes → Type 0
HasBlocks j bytes = Opens (stated bytes) (sha256 (take 37 bytes)) j (drop 69 bytes)

-- no image is spelled so
abbrev pub IsNoImage : Bytes → Type 0
IsNoImage bytes = (i : Image) → IsImageSpelling i bytes → ⊥

-- digests and, in version 2, blocks are as they must be
abbrev pub IsWhole : Bytes → Type 0
IsWhole bytes = (IsFirst bytes × IsSigned bytes) ⊎ (IsSecond bytes × HasHeader bytes × HasBlocks (block_count (stated bytes)) bytes)

-- when bytes are refused so, want of memory apart
abbrev pub Refuses : ReadError → Bytes → Type 0
Refuses NotAnImage bytes = (IsFirst bytes → ⊥) × (IsSecond bytes → ⊥)
Refuses BadDigest bytes = IsFirst bytes × (IsSigned bytes → ⊥)
Refuses (BadBlock zero) bytes = IsSecond bytes × (HasHeader bytes → ⊥)
Refuses (BadBlock (suc j)) bytes = IsSecond bytes × HasHeader bytes × (BLOCK * j < stated bytes) × HasBlocks j bytes × (HasBlocks (suc j) bytes → ⊥)
Refuses BadForm bytes = IsWhole bytes × IsNoImage bytes
Refuses NoMemory bytes = ⊥

-- what reading these bytes answers, want of memory apart
abbrev pub IsAnswer : Bytes → Result Image ReadError → Type 0
IsAnswer bytes (Ok i) = IsImageSpelling i bytes
IsAnswer bytes (Err e) = Refuses e bytes
