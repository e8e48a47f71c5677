-- The merge of a chain: a full image, and partial ones in turn, each on the one before.
use Rattle.std.specs.Prelude.{◌≡◌, ◌⊎◌, ℕ, ◌+◌, ◌==◌, Bool, true, false, not, nat_lt, nat_le, List, [], ◌∷◌, length, Option, Some, None, Ok, Err}
use Rattle.std.specs.declared.result.Result.{Result}
use Rattle.std.specs.Option.{option_or}
use Rattle.std.specs.FinMap as finite
use Rattle.procedure.specs.Table.{Table, no_table, merged}
use Rattle.image.specs.Images.{Image, changes_of, full_image}
use Rattle.image.specs.declared.images.Kind.{Kind}
use Rattle.image.specs.declared.images.Kind.TheVariants.{Full, Partial}
use Rattle.image.specs.declared.merges.MergeError.{MergeError}
use Rattle.image.specs.declared.merges.MergeError.TheVariants.{TooMany, NotFull, NotPartial, Gap, NoMemory}
use Rattle.image.specs.declared.limits.TheConstants.{ENTRIES, IMAGES}

-- each is partial, with the number of the image before it as base
abbrev pub AreChained : ℕ → List Image → Type 0
AreChained number [] = Unit {0}
AreChained number (p ∷ ps) = (p.kind ≡ Partial) × (p.base ≡ number) × AreChained p.number ps

-- a full image, and partial ones that stand on it in turn
pub record IsChain (full : Image) (ps : List Image) : Type 0 where
  pub full_first : full.kind ≡ Full
  pub partials : AreChained full.number ps

-- what a full image holds
abbrev pub table_of : Image → Table
table_of full = merged no_table (changes_of full)

-- a table changed by partial images in turn
abbrev pub table_with_images : Table → List Image → Table
table_with_images t [] = t
table_with_images t (p ∷ ps) = table_with_images (merged t (changes_of p)) ps

abbrev pub last_of : Image → List Image → Image
last_of i [] = i
last_of i (p ∷ ps) = last_of p ps

-- what a chain says, as one full image with the number and place of the last
abbrev pub merged_image : Image → List Image → Image
merged_image full ps = full_image (last_of full ps).number (last_of full ps).place (table_with_images (table_of full) ps)

abbrev pub Refusal : Type 0
Refusal = Option MergeError

-- the refusal, where the test fails
abbrev pub unless : Bool → MergeError → Refusal
unless true e = None
unless false e = Some e

abbrev pub is_full : Kind → Bool
is_full Full = true
is_full Partial = false

abbrev pub is_partial : Kind → Bool
is_partial k = not (is_full k)

-- the first place from i on at which images that follow a number aren't partial, or don't stand on the one before
abbrev pub links_refusal : ℕ → ℕ → List Image → Refusal
links_refusal i number [] = None
links_refusal i number (p ∷ ps) =
    option_or (unless (is_partial p.kind) (NotPartial i)) (option_or (unless (p.base == number) (Gap i)) (links_refusal (i + 1) p.number ps))

-- why images are no chain, or one that is too long
abbrev pub chain_refusal : Image → List Image → Refusal
chain_refusal full ps =
    option_or (unless (nat_lt (length ps) IMAGES) TooMany) (option_or (unless (is_full full.kind) NotFull) (links_refusal 0 full.number ps))

-- why they aren't merged, want of memory apart
abbrev pub refusal_of : Image → List Image → Refusal
refusal_of full ps = option_or (chain_refusal full ps) (unless (nat_le (finite.len (table_with_images (table_of full) ps)) ENTRIES) TooMany)

-- a call that answers this is refused so, or for want of memory; one that succeeds is not refused
abbrev pub Answers : {X : Type 0} → Refusal → Result X MergeError → Type 0
Answers refusal (Ok x) = refusal ≡ None
Answers refusal (Err e) = (refusal ≡ Some e) ⊎ (e ≡ NoMemory)
