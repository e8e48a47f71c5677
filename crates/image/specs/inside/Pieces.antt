-- Entries that stand in the bytes of an image, lawful or not, one after another.
use Rattle.std.specs.Prelude.{◌≡◌, ◌≤◌, ◌<◌, ◌&&◌, ℕ, zero, suc, ◌-◌, min, Bool, true, List, [], ◌∷◌, length, drop, Option, Some, None, IsSome}
use Rattle.std.specs.Ordering.{is_lt, nat_cmp}
use Rattle.std.specs.Cmp.Lexicographic.{slice_cmp}
use Rattle.std.specs.List.{AllByRecursion}
use Rattle.procedure.specs.Bytes.{Bytes}
use Rattle.image.specs.Images.{Entry}
use Rattle.image.specs.Fronts.{entry_at}
use Rattle.image.specs.ImageBytes.{IsWithin}
use Rattle.image.specs.declared.images.Kind.{Kind}
use Rattle.image.specs.declared.images.Kind.TheVariants.{Full, Partial}
use Rattle.image.specs.declared.limits.TheConstants.{BLOCK, ENTRIES}

-- without the digest of the block, where none of its entries is left
abbrev pub past_digest : ℕ → Bytes → Bytes
past_digest zero b = drop 32 b
past_digest (suc k) b = b

-- how many of a block are left behind the first of n entries; it begins the next block, if none of the last is left
abbrev pub block_after : ℕ → ℕ → ℕ
block_after n zero = min n BLOCK - 1
block_after n (suc k) = k

abbrev pub with_first : Option (Entry × Bytes) → (Bytes → List Entry) → List Entry
with_first None others = []
with_first (Some x) others = x.0 ∷ others x.1

-- the n entries at the front, of which k are left of a block
abbrev pub pieces_in : ℕ → ℕ → Bytes → List Entry
pieces_in zero k b = []
pieces_in (suc n) k b = with_first (entry_at (past_digest k b)) (λ rest. pieces_in n (block_after (suc n) k) rest)

-- they are there
abbrev pub AreThere : ℕ → ℕ → Bytes → Type 0
AreThere zero k b = Unit {0}
AreThere (suc n) k b = (x : Entry × Bytes) × (entry_at (past_digest k b) ≡ Some x) × AreThere n (block_after (suc n) k) x.1

-- ---- which of them are the entries of an image

-- a full image is its own base, and that of a partial one is below it
abbrev pub IsBased : Kind → (number base : ℕ) → Type 0
IsBased Full number base = base ≡ number
IsBased Partial number base = base < number

-- a full image says of no key that it is gone
abbrev pub Holds : Kind → Entry → Type 0
Holds Full e = IsSome e.1
Holds Partial e = Unit {0}

-- an entry that an image of this kind may have
abbrev pub Fits : ℕ → Kind → Entry → Type 0
Fits most kind e = IsWithin most e × Holds kind e

-- whether a key is above the last one, if there is one
abbrev pub is_above : Option Bytes → Bytes → Bool
is_above None key = true
is_above (Some last) key = is_lt (slice_cmp nat_cmp last key)

-- whether keys rise, above the last one
abbrev pub rise_from : Option Bytes → List Entry → Bool
rise_from last [] = true
rise_from last (e ∷ es) = is_above last e.0 && rise_from (Some e.0) es

pub record AreLawful (most : ℕ) (kind : Kind) (es : List Entry) : Type 0 where
  pub fit : AllByRecursion (Fits most kind) es
  pub rise : rise_from None es ≡ true

-- at most 100,000 entries, with a number and that of a base, are those of an image
abbrev pub AreParts : ℕ → Kind → (number base : ℕ) → List Entry → Type 0
AreParts most kind number base es = (length es ≤ ENTRIES) × IsBased kind number base × AreLawful most kind es
