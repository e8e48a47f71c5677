-- An image as bytes, in two versions, and which bytes are an image's.
use Rattle.std.specs.Prelude.{◌≡◌, ◌≤◌, ◌<◌, ◌⊎◌, ℕ, zero, suc, ◌+◌, ◌^◌, ◌/◌, List, [], ◌∷◌, ◌++◌, length, take, drop, codes, IfSome}
use Rattle.std.specs.List.{flat_map, All, AllByRecursion}
use Rattle.byteorder.specs.Endian.{big_bytes}
use Rattle.sha2.specs.Sha256.{sha256}
use Rattle.procedure.specs.Bytes.{Bytes}
use Rattle.procedure.specs.declared.limits.TheConstants.{KEY_BYTES, VALUE_BYTES}
use Rattle.image.specs.Images.{Entry, Image, IsLawfulImage}
use Rattle.image.specs.EntryBytes.{entry_bytes}
use Rattle.image.specs.declared.images.Kind.{Kind}
use Rattle.image.specs.declared.images.Kind.TheVariants.{Full, Partial}
use Rattle.image.specs.declared.limits.TheConstants.{BLOCK, VALUE_BYTES_V1}

abbrev pub kind_byte : Kind → ℕ
kind_byte Full = 0
kind_byte Partial = 1

-- what stands before the entries: eight letters, the kind, three numbers, and how many entries there are
unfoldable pub image_header_bytes : Bytes → Image → Bytes
image_header_bytes magic i =
    magic ++ (kind_byte i.kind ∷ []) ++ big_bytes 8 i.number ++ big_bytes 8 i.base ++ big_bytes 8 i.place ++ big_bytes 4 (length i.entries)

abbrev pub entries_bytes : List Entry → Bytes
entries_bytes es = flat_map entry_bytes es

-- bytes, and behind them their digest
abbrev pub signed : Bytes → Bytes
signed bytes = bytes ++ sha256 bytes

-- version 1: header and entries, and one digest of all of them
abbrev pub version_1 : Image → Bytes
version_1 i = signed (image_header_bytes (codes "CALCIMG1") i ++ entries_bytes i.entries)

-- the digest that stands behind a block: that of the digest before it and the block's entries
abbrev pub block_digest : Bytes → List Entry → Bytes
block_digest before es = sha256 (before ++ entries_bytes es)

abbrev pub block_bytes : Bytes → List Entry → Bytes
block_bytes before es = entries_bytes es ++ block_digest before es

-- entries in m blocks, each of 64 or of those that are left
abbrev pub blocks_bytes : ℕ → Bytes → List Entry → Bytes
blocks_bytes zero before es = []
blocks_bytes (suc m) before es = block_bytes before (take BLOCK es) ++ blocks_bytes m (block_digest before (take BLOCK es)) (drop BLOCK es)

-- how many blocks so many entries take
abbrev pub block_count : ℕ → ℕ
block_count n = (n + 63) / 64

-- version 2: the header and its digest, and the entries in blocks
abbrev pub version_2 : Image → Bytes
version_2 i =
    let header = image_header_bytes (codes "CALCIMG2") i in
    signed header ++ blocks_bytes (block_count (length i.entries)) (sha256 header) i.entries

-- a key of 1 to 32 bytes, and at most so many bytes of value
pub record IsWithin (most : ℕ) (e : Entry) : Type 0 where
  pub not_empty : 0 < length e.0
  pub key : length e.0 ≤ KEY_BYTES
  pub value : IfSome e.1 (λ v. length v ≤ most)

-- numbers of 8 bytes
pub record HasNumbers (i : Image) : Type 0 where
  pub number : i.number < 2 ^ 64
  pub base : i.base < 2 ^ 64
  pub place : i.place < 2 ^ 64

-- a lawful image whose parts have the sizes that bytes have room for
pub record IsWritable (most : ℕ) (i : Image) : Type 0 where
  pub lawful : IsLawfulImage i
  pub numbers : HasNumbers i
  pub entries : AllByRecursion (IsWithin most) i.entries

-- version 1 has room for the values of the image
abbrev pub HasSmallValues : Image → Type 0
HasSmallValues i = All (λ e. IfSome e.1 (λ v. length v ≤ VALUE_BYTES_V1)) i.entries

-- the image's bytes in version 1, where values have at most 256 bytes
abbrev pub IsVersion1 : Image → Bytes → Type 0
IsVersion1 i bytes = IsWritable VALUE_BYTES_V1 i × (bytes ≡ version_1 i)

-- the image's bytes in version 2
abbrev pub IsVersion2 : Image → Bytes → Type 0
IsVersion2 i bytes = IsWritable VALUE_BYTES i × (bytes ≡ version_2 i)

-- the image's bytes, in either version
abbrev pub IsImageSpelling : Image → Bytes → Type 0
IsImageSpelling i bytes = IsVersion1 i bytes ⊎ IsVersion2 i bytes
