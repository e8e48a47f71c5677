-- What is read of bytes, and when they are an image's.
use Rattle.std.proofs.Common.{◌≡◌, ℕ, ◌-◌, false, length, take, drop, refl, sym, ap, ◌∙◌}
use Rattle.std.specs.Prelude.{nat_eq, not}
use Rattle.std.specs.Cmp.Lexicographic.{pointwise, bytes_decides}
use Rattle.std.proofs.lemmas.List.{drop-drop}
use Rattle.sha2.specs.Sha256.{sha256}
use Rattle.procedure.specs.Bytes.{Bytes}
use Rattle.image.specs.ImageBytes.{block_count}
use Rattle.image.specs.Fronts.{blocks_at, entries_at}
use Rattle.image.specs.Readings.{alone_or_bad, alone_or_refused, first_entries, second_entries}
use Rattle.image.specs.Refusals.{HasHeader, IsSigned, stated}
use Rattle.image.proofs.Digests.{alike}

-- where the digests are right the entries are read
pub first_signed : (b : Bytes) → IsSigned b → first_entries b ≡ alone_or_bad (entries_at (stated b) (drop 37 (take (length b - 32) b)))
unfolding first_entries
first_signed b same = rw ((bytes_decides (drop (length b - 32) b) (sha256 (take (length b - 32) b))).1 same) refl

pub second_signed : (b : Bytes) → HasHeader b → second_entries b ≡ alone_or_refused (blocks_at (block_count (stated b)) 0 (stated b) (sha256 (take 37 b)) (drop 69 b))
unfolding second_entries
second_signed b same = rw ((bytes_decides (take 32 (drop 37 b)) (sha256 (take 37 b))).1 same) refl

pub first_is : (b t d s es : Bytes) (n : ℕ) → t ≡ take (length b - 32) b → d ≡ drop (length b - 32) b → s ≡ sha256 t → n ≡ stated b → es ≡ drop 37 t → not (pointwise nat_eq d s) ≡ false →
    alone_or_bad (entries_at n es) ≡ first_entries b
first_is b t d s es n front back digest count behind alike_ =
    (λ i. alone_or_bad (entries_at (count i) ((behind ∙ ap (drop 37) front) i))) ∙ sym (first_signed b (sym back ∙ alike d s alike_ ∙ digest ∙ ap sha256 front))

pub second_is : (b h behind d s s' t : Bytes) (n : ℕ) → h ≡ take 37 b → behind ≡ drop 37 b → d ≡ take 32 behind → t ≡ drop 32 behind → s ≡ sha256 h → s' ≡ s → n ≡ stated b →
    not (pointwise nat_eq d s') ≡ false →
    alone_or_refused (blocks_at (block_count n) 0 n s t) ≡ second_entries b
second_is b h behind d s s' t n front back first rest digest lent count alike_ =
    (λ i. alone_or_refused (blocks_at (block_count (count i)) 0 (count i) ((digest ∙ ap sha256 front) i) ((rest ∙ ap (drop 32) back ∙ drop-drop_is) i)))
    ∙ sym (second_signed b (sym (first ∙ ap (take 32) back) ∙ alike d s' alike_ ∙ lent ∙ digest ∙ ap sha256 front))
  where
    drop-drop_is : drop 32 (drop 37 b) ≡ drop 69 b
    drop-drop_is = drop-drop 32 37 b
