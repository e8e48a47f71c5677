-- A header that is read is the one that was written, and what was written is read again.
use Rattle.std.proofs.Common.{◌≡◌, ◌≤◌, ◌<◌, ◌^◌, ℕ, zero, suc, ◌+◌, List, [], ◌∷◌, ◌++◌, length, take, drop, Some, refl, sym, ap, subst, ◌∙◌, arith}
use Rattle.std.specs.Prelude.{slice_index}
use Rattle.std.proofs.Math.Seq.{take-add}
use Rattle.std.proofs.lemmas.List.{length-drop}
use Rattle.byteorder.specs.Endian.{big_bytes, big_number}
use Rattle.byteorder.specs.Numbers.{big_number-reads_back}
use Rattle.procedure.specs.Bytes.{Bytes}
use Rattle.image.specs.Images.{Entry, Image}
use Rattle.image.specs.ImageBytes.{HasNumbers, image_header_bytes, kind_byte}
use Rattle.image.specs.Fronts.{◌>>=◌}
use Rattle.image.specs.Readings.{image_at, kind_of}
use Rattle.image.specs.Refusals.{stated}
use Rattle.image.specs.declared.images.Kind.{Kind}
use Rattle.image.specs.declared.images.Kind.TheVariants.{Full, Partial}
use Rattle.procedure.proofs.TakenBytes.{IsBytes, IsBytes-drop, back_4, back_8, front_is}
use Rattle.image.proofs.FrontEntries.{bind_some, some_is}

-- ---- from bytes to the header

kind_back : (n : ℕ) (k : Kind) → kind_of n ≡ Some k → kind_byte k ≡ n
kind_back zero k h = ap kind_byte (sym (some_is Full k h))
kind_back (suc zero) k h = ap kind_byte (sym (some_is Partial k h))
kind_back (suc (suc n)) k h = absurd (cc)

one_taken : (n : ℕ) (b : Bytes) → n < length b → take 1 (drop n b) ≡ slice_index b n ∷ []
one_taken n [] lt = absurd (omega arith)
one_taken zero (x ∷ b) lt = refl
one_taken (suc n) (x ∷ b) lt = one_taken n b (omega arith)

eight_taken : (k : ℕ) (b : Bytes) → k + 8 ≤ length b → IsBytes b → big_bytes 8 (big_number 8 (drop k b)) ≡ take 8 (drop k b)
eight_taken k b long fits = front_is 8 back_8 (drop k b) (IsBytes-drop k b fits) (omega (arith, length-drop k b))

four_taken : (k : ℕ) (b : Bytes) → k + 4 ≤ length b → IsBytes b → big_bytes 4 (big_number 4 (drop k b)) ≡ take 4 (drop k b)
four_taken k b long fits = front_is 4 back_4 (drop k b) (IsBytes-drop k b fits) (omega (arith, length-drop k b))

-- the image of a header and entries, where the kind is known
abbrev made : Kind → Bytes → List Entry → Image
made k b es = record { kind = k; number = big_number 8 (drop 9 b); base = big_number 8 (drop 17 b); place = big_number 8 (drop 25 b); entries = es }

made_header : (magic b : Bytes) (k : Kind) (es : List Entry) → 69 ≤ length b → IsBytes b → take 8 b ≡ magic → kind_of (slice_index b 8) ≡ Some k → length es ≡ stated b →
    image_header_bytes magic (made k b es) ≡ take 37 b
unfolding image_header_bytes
made_header magic b k es long fits is_magic is_kind count =
    let c : big_bytes 4 (length es) ≡ take 4 (drop 33 b) = ap (big_bytes 4) count ∙ four_taken 33 b (omega arith) fits in
    let kind : kind_byte k ∷ [] ≡ take 1 (drop 8 b) = ap (λ n. n ∷ []) (kind_back (slice_index b 8) k is_kind) ∙ sym (one_taken 8 b (omega arith)) in
    (λ i. ((((sym is_magic i ++ kind i) ++ eight_taken 9 b (omega arith) fits i) ++ eight_taken 17 b (omega arith) fits i) ++ eight_taken 25 b (omega arith) fits i) ++ c i)
    ∙ ap (λ (x : Bytes). (((x ++ take 8 (drop 9 b)) ++ take 8 (drop 17 b)) ++ take 8 (drop 25 b)) ++ take 4 (drop 33 b)) (sym (take-add 8 1 b))
    ∙ ap (λ (x : Bytes). ((x ++ take 8 (drop 17 b)) ++ take 8 (drop 25 b)) ++ take 4 (drop 33 b)) (sym (take-add 9 8 b))
    ∙ ap (λ (x : Bytes). (x ++ take 8 (drop 25 b)) ++ take 4 (drop 33 b)) (sym (take-add 17 8 b))
    ∙ ap (λ (x : Bytes). x ++ take 4 (drop 33 b)) (sym (take-add 25 8 b))
    ∙ sym (take-add 33 4 b)

pub entries_are : (b : Bytes) (es : List Entry) (i : Image) → image_at b es ≡ Some i → i.entries ≡ es
unfolding image_at
entries_are b es i h =
    let k = bind_some (kind_of (slice_index b 8)) (λ k. Some (made k b es)) i h in
    ap (λ (x : Image). x.entries) (sym (some_is (made k.0 b es) i k.2))

pub header_back : (magic b : Bytes) (es : List Entry) (i : Image) → 69 ≤ length b → IsBytes b → take 8 b ≡ magic → image_at b es ≡ Some i → length es ≡ stated b →
    take 37 b ≡ image_header_bytes magic i
unfolding image_at
header_back magic b es i long fits is_magic h count =
    let k = bind_some (kind_of (slice_index b 8)) (λ k. Some (made k b es)) i h in
    sym (made_header magic b k.0 es long fits is_magic k.1 count) ∙ ap (image_header_bytes magic) (some_is (made k.0 b es) i k.2)

-- ---- from the header to bytes

kind_again : (k : Kind) → kind_of (kind_byte k) ≡ Some k
kind_again Full = refl
kind_again Partial = refl

-- what the bytes of a header say
pub record Says (magic b : Bytes) (i : Image) : Type 0 where
  pub begins : take 8 b ≡ magic
  pub image : image_at b i.entries ≡ Some i
  pub count : stated b ≡ length i.entries
  pub header : take 37 b ≡ image_header_bytes magic i

says : (a0 a1 a2 a3 a4 a5 a6 a7 : ℕ) (i : Image) (rest : Bytes) → HasNumbers i → length i.entries < 2 ^ 32 →
    let magic = a0 ∷ a1 ∷ a2 ∷ a3 ∷ a4 ∷ a5 ∷ a6 ∷ a7 ∷ [] in Says magic (image_header_bytes magic i ++ rest) i
unfolding image_header_bytes image_at
says a0 a1 a2 a3 a4 a5 a6 a7 i rest fits few =
    let after_place = big_bytes 4 (length i.entries) ++ rest in
    let after_base = big_bytes 8 i.place ++ after_place in
    let after_number = big_bytes 8 i.base ++ after_base in
    let number = big_number-reads_back 8 i.number after_number fits.number in
    let base = big_number-reads_back 8 i.base after_base fits.base in
    let place = big_number-reads_back 8 i.place after_place fits.place in
    record {
      begins = refl;
      image =
          ap
          (λ o. o >>=
          λ k. Some (record {
            kind = k;
            number = big_number 8 (big_bytes 8 i.number ++ after_number);
            base = big_number 8 (big_bytes 8 i.base ++ after_base);
            place =
                big_number 8 (big_bytes 8 i.place ++ after_place);
            entries = i.entries;
          })) (kind_again i.kind)
          ∙ (λ j. Some (record { kind = i.kind; number = number j; base = base j; place = place j; entries = i.entries }));
      count = big_number-reads_back 4 (length i.entries) rest few;
      header = refl;
    }

pub header_again : (a0 a1 a2 a3 a4 a5 a6 a7 : ℕ) (b : Bytes) (i : Image) (rest : Bytes) → HasNumbers i → length i.entries < 2 ^ 32 →
    let magic = a0 ∷ a1 ∷ a2 ∷ a3 ∷ a4 ∷ a5 ∷ a6 ∷ a7 ∷ [] in b ≡ image_header_bytes magic i ++ rest → Says magic b i
header_again a0 a1 a2 a3 a4 a5 a6 a7 b i rest fits few is =
    subst (λ (x : Bytes). Says (a0 ∷ a1 ∷ a2 ∷ a3 ∷ a4 ∷ a5 ∷ a6 ∷ a7 ∷ []) x i) (sym is) (says a0 a1 a2 a3 a4 a5 a6 a7 i rest fits few)
