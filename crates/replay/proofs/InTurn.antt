-- Images that came one after another, as one.
use Rattle.std.proofs.Common.{◌≡◌, ◌⊎◌, inl, inr, List, [], ◌∷◌, None, Some, Ok, Err, refl, sym, ap, ◌∙◌}
use Rattle.std.specs.declared.result.Result.{Result}
use Rattle.image.specs.Images.{Image}
use Rattle.image.specs.Mergers.{merge_of, unless_refused}
use Rattle.image.specs.Merges.{Refusal, merged_image, refusal_of}
use Rattle.image.specs.declared.merges.MergeError.{MergeError}
use Rattle.image.specs.declared.merges.MergeError.TheVariants as merge
use Rattle.replay.specs.Parts.{Chained}
use Rattle.replay.specs.Recovery.{chain_of, chain_or}
use Rattle.replay.specs.Refusals.{of_merge}

abbrev made : Image → Result Image MergeError
made i = Ok i

abbrev unmade : MergeError → Result Image MergeError
unmade e = Err e

same_or : (i : Image) (r : Refusal) → unless_refused r i ≡ chain_or i r
same_or i None = refl
same_or i (Some e) = refl

same_chain : (is : List Image) → merge_of is ≡ chain_of is
same_chain [] = refl
same_chain (full ∷ ps) = same_or (merged_image full ps) (refusal_of full ps)

pub chained : (is : List Image) (i : Image) → (made i ≡ merge_of is) ⊎ (made i ≡ unmade merge.NoMemory) → Chained is (Ok i)
chained is i (inl whole) = sym (whole ∙ same_chain is)
chained is i (inr bad) = absurd (cc)

pub unchained : (is : List Image) (e : MergeError) → (unmade e ≡ merge_of is) ⊎ (unmade e ≡ unmade merge.NoMemory) → Chained is (Err (of_merge e))
unchained is e (inl refused) = inl (e, sym (refused ∙ same_chain is), refl)
unchained is e (inr none) = (let one : e ≡ merge.NoMemory = cc in inr (ap of_merge one))
