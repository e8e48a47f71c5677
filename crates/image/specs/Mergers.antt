-- Images of a chain that come one after another: what is kept of them, and what they are as one.
use Rattle.std.specs.Prelude.{ℕ, ◌+◌, min, List, [], ◌∷◌, length, None, Some, Ok, Err, refl}
use Rattle.std.specs.Coded.{Coded, code_by, coded×, coded_ℕ}
use Rattle.std.specs.declared.result.Result.{Result}
use Rattle.procedure.specs.Table.{Table, merged, no_table}
use Rattle.image.specs.Images.{Image, changes_of}
use Rattle.image.specs.Tables.{table_code}
use Rattle.image.specs.Merges.{Refusal, chain_refusal, last_of, merged_image, refusal_of, table_of, table_with_images}
use Rattle.image.specs.declared.limits.TheConstants.{IMAGES}
use Rattle.image.specs.declared.merges.MergeError.{MergeError}
use Rattle.image.specs.declared.merges.MergeError.TheVariants.{NotFull}

-- a chain so far: the number and place of its last image, and its table
pub record Chain : Type 0 where
  pub number : ℕ
  pub place : ℕ
  pub table : Table

abbrev pub chain_code : Coded Chain
chain_code =
    code_by (ℕ × (ℕ × Table)) (coded× coded_ℕ (coded× coded_ℕ table_code)) (λ c. (c.number, (c.place, c.table))) (λ p. record { number = p.0; place = p.1.0; table = p.1.1 }) (λ _. refl)

-- how many images have come, up to as many as a chain has, and the chain that they are, or why they are none
pub record Merging : Type 0 where
  pub count : ℕ
  pub chain : Result Chain MergeError

abbrev pub unless_refused : {X : Type 0} → Refusal → X → Result X MergeError
unless_refused None x = Ok x
unless_refused (Some e) x = Err e

abbrev pub no_images : Chain
no_images = record { number = 0; place = 0; table = no_table }

-- a chain with one more image
abbrev pub with_image : Chain → Image → Chain
with_image c i = record { number = i.number; place = i.place; table = merged c.table (changes_of i) }

abbrev pub chain_of : Image → List Image → Chain
chain_of full ps = record { number = (last_of full ps).number; place = (last_of full ps).place; table = table_with_images (table_of full) ps }

-- what is kept of these images
abbrev pub after : List Image → Merging
after [] = record { count = 0; chain = Ok no_images }
after (full ∷ ps) = record { count = min (length ps + 1) IMAGES; chain = unless_refused (chain_refusal full ps) (chain_of full ps) }

-- images as one, or why they aren't merged; where there are none, the first isn't full
abbrev pub merge_of : List Image → Result Image MergeError
merge_of [] = Err NotFull
merge_of (full ∷ ps) = unless_refused (refusal_of full ps) (merged_image full ps)
