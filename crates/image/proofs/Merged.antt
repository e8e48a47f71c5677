-- What a chain says is its merged image.
use Rattle.std.proofs.Common.{◌≡◌, ℕ, ◌<◌, ◌≤◌, List, ◌∷◌, length, Some, None, sym, ap, ◌∙◌, subst}
use Rattle.std.specs.Prelude.{nat_le}
use Rattle.std.specs.Option.{option_or}
use Rattle.std.specs.FinMap as finite
use Rattle.std.specs.FinMap.{len, len-entries}
use Rattle.std.proofs.lemmas.Bool.{le-leb, lt-leb}
use Rattle.std.proofs.lemmas.List.{length-map}
use Rattle.image.specs.Images.{Entry, Image, IsLawfulImage, entries_of, full_image}
use Rattle.image.specs.Joins.{Say, present, said_by}
use Rattle.image.specs.Merges.{unless, chain_refusal, refusal_of, last_of, merged_image, table_of, table_with_images}
use Rattle.image.specs.declared.images.Kind.TheVariants.{Full}
use Rattle.image.specs.declared.merges.MergeError.TheVariants.{TooMany}
use Rattle.image.specs.declared.limits.TheConstants.{ENTRIES}
use Rattle.image.proofs.Tables.{lawful_full, present_is_table, value_at-chain}

module _ (full : Image) (ps : List Image) (es entries : List Entry) (says : Say (said_by (full ∷ ps)) es) where
  same_entries : present es ≡ entries_of (table_with_images (table_of full) ps)
  same_entries = present_is_table (said_by (full ∷ ps)) es (table_with_images (table_of full) ps) says (value_at-chain full ps)

  count : length (present es) ≡ len (table_with_images (table_of full) ps)
  count = ap length same_entries ∙ length-map (finite.entries (table_with_images (table_of full) ps)) (λ e. (e.0, Some e.1)) ∙ sym (len-entries (table_with_images (table_of full) ps))

  pub is_lawful : (number place : ℕ) → entries ≡ present es → length (present es) ≤ ENTRIES → IsLawfulImage (record { kind = Full; number = number; base = number; place = place; entries = entries })
  is_lawful number place is few =
      subst (λ l. IsLawfulImage (record { kind = Full; number = number; base = number; place = place; entries = l })) (sym (is ∙ same_entries))
      (lawful_full number place (table_with_images (table_of full) ps) (subst (λ n. n ≤ ENTRIES) count few))

  pub is_merged : (number place : ℕ) (last : Image) → entries ≡ present es → number ≡ last.number → place ≡ last.place → last ≡ last_of full ps →
      record { kind = Full; number = number; base = number; place = place; entries = entries } ≡ merged_image full ps
  is_merged number place last is is_number is_place is_last =
      (λ k. record { kind = Full; number = is_number k; base = is_number k; place = is_place k; entries = (is ∙ same_entries) k })
      ∙ ap (λ (i : Image). full_image i.number i.place (table_with_images (table_of full) ps)) is_last

  pub not_refused : chain_refusal full ps ≡ None → length (present es) ≤ ENTRIES → refusal_of full ps ≡ None
  not_refused none few = (λ k. option_or (none k) (unless (nat_le (sym count k) ENTRIES) TooMany)) ∙ ap (λ b. unless b TooMany) (le-leb (length (present es)) ENTRIES few)

  pub too_many : chain_refusal full ps ≡ None → ENTRIES < length (present es) → refusal_of full ps ≡ Some TooMany
  too_many none many = (λ k. option_or (none k) (unless (nat_le (sym count k) ENTRIES) TooMany)) ∙ ap (λ b. unless b TooMany) (lt-leb (length (present es)) ENTRIES many)
