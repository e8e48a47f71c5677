-- The bytes that an image has are those that are read as it.
use Rattle.std.proofs.Common.{◌≡◌, ◌≤◌, ◌<◌, ◌^◌, ℕ, ◌-◌, ◌*◌, min, Bool, true, false, cond, List, [], ◌∷◌, ◌++◌, length, take, drop, Option, Some, None, Ok, Err, refl, sym, ap, ◌∙◌, append_assoc, arith}
use Rattle.std.specs.declared.result.Result.{Result}
use Rattle.std.specs.Prelude.{IfSome, codes, nat_eq}
use Rattle.std.specs.Cmp.Lexicographic.{pointwise, bytes_decides}
use Rattle.std.specs.List.{AllByRecursion}
use Rattle.std.proofs.lemmas.Bool.{eqb-true}
use Rattle.std.proofs.lemmas.List.{append-nil, drop-drop, drop_at, length-append, nil_from_length, take-append-drop, take-take, take_at}
use Rattle.sha2.specs.Sha256.{sha256}
use Rattle.sha2.proofs.Facts256.{length-sha256}
use Rattle.procedure.specs.Bytes.{Bytes, Cell}
use Rattle.procedure.specs.declared.limits.TheConstants.{VALUE_BYTES}
use Rattle.image.specs.Images.{Entry, Image}
use Rattle.image.specs.ImageBytes.{IsVersion1, IsVersion2, IsWithin, block_count, blocks_bytes, entries_bytes, image_header_bytes, signed, version_1, version_2}
use Rattle.image.specs.Fronts.{blocks_at, entries_at}
use Rattle.image.specs.Readings.{alone, alone_or_bad, alone_or_refused, first_entries, image_at, second_entries}
use Rattle.image.specs.Refusals.{HasHeader, IsFirst, IsSecond, IsSigned, IsSpellable, stated}
use Rattle.image.specs.declared.limits.TheConstants.{VALUE_BYTES_V1}
use Rattle.image.specs.declared.errors.ReadError.{ReadError}
use Rattle.image.specs.declared.errors.ReadError.TheVariants as refused
use Rattle.procedure.proofs.TakenBytes.{IsBytes, IsBytes-drop, IsBytes-take}
use Rattle.image.proofs.FrontEntries.{entries_again, entries_take}
use Rattle.image.proofs.FrontBlocks.{blocks_again, blocks_take, front_is}
use Rattle.image.proofs.HeaderBytes.{entries_are, header_again, header_back}
use Rattle.image.proofs.Readings.{first_signed, second_signed}

abbrev pub read_as : List Entry → Result (List Entry) ReadError
read_as es = Ok es

abbrev pub refused_as : ReadError → Result (List Entry) ReadError
refused_as e = Err e

pub read_is : (es fs : List Entry) → read_as es ≡ read_as fs → es ≡ fs
read_is es fs h = cc

pub refused_is : (e f : ReadError) → refused_as e ≡ refused_as f → e ≡ f
refused_is e f h = cc

-- a test that was passed
guard_else : (c : Bool) (x : Result (List Entry) ReadError) (e : ReadError) (es : List Entry) → cond c x (Err e) ≡ read_as es → (c ≡ true) × (x ≡ Ok es)
guard_else true x e es h = (refl, h)
guard_else false x e es h = absurd (cc)

guard_empty : (c : Bool) (es fs : List Entry) → cond c (read_as es) (Err refused.BadForm) ≡ read_as fs → (c ≡ true) × (es ≡ fs)
guard_empty true es fs h = (refl, read_is es fs h)
guard_empty false es fs h = absurd (cc)

alone_is : (x : List Entry × Bytes) (es : List Entry) → alone x ≡ Ok es → x ≡ (es, [])
alone_is x es h =
    let g = guard_empty (nat_eq (length x.1) 0) x.0 es h in
    (λ i. (g.1 i, nil_from_length x.1 (eqb-true _ _ g.0) i))

alone_found : (o : Option (List Entry × Bytes)) (es : List Entry) → alone_or_bad o ≡ Ok es → o ≡ Some (es, [])
alone_found None es h = absurd (cc)
alone_found (Some x) es h = ap (λ (y : List Entry × Bytes). Some y) (alone_is x es h)

alone_read : (r : Result (List Entry × Bytes) ReadError) (es : List Entry) → alone_or_refused r ≡ Ok es → r ≡ Ok (es, [])
alone_read (Err e) es h = absurd (cc)
alone_read (Ok x) es h = ap (λ (y : List Entry × Bytes). Ok y) (alone_is x es h)

-- ---- from bytes to the image

pub first_passed : (b : Bytes) (es : List Entry) → first_entries b ≡ Ok es → IsSigned b × (entries_at (stated b) (drop 37 (take (length b - 32) b)) ≡ Some (es, []))
unfolding first_entries
first_passed b es h =
    let d = drop (length b - 32) b in
    let s = sha256 (take (length b - 32) b) in
    let g = guard_else (pointwise nat_eq d s) (alone_or_bad (entries_at (stated b) (drop 37 (take (length b - 32) b)))) refused.BadDigest es h in
    ((bytes_decides d s).0 g.0, alone_found (entries_at (stated b) (drop 37 (take (length b - 32) b))) es g.1)

pub second_passed : (b : Bytes) (es : List Entry) → second_entries b ≡ Ok es → HasHeader b × (blocks_at (block_count (stated b)) 0 (stated b) (sha256 (take 37 b)) (drop 69 b) ≡ Ok (es, []))
unfolding second_entries
second_passed b es h =
    let d = take 32 (drop 37 b) in
    let s = sha256 (take 37 b) in
    let g = guard_else (pointwise nat_eq d s) (alone_or_refused (blocks_at (block_count (stated b)) 0 (stated b) s (drop 69 b))) (refused.BadBlock 0) es h in
    ((bytes_decides d s).0 g.0, alone_read (blocks_at (block_count (stated b)) 0 (stated b) s (drop 69 b)) es g.1)

pub first_back : (b : Bytes) (es : List Entry) (i : Image) → IsFirst b → IsBytes b → first_entries b ≡ Ok es → image_at b es ≡ Some i → b ≡ version_1 i
first_back b es i first fits read image =
    let front = take (length b - 32) b in
    let p = first_passed b es read in
    let t = entries_take (stated b) (drop 37 front) (es, []) (IsBytes-drop 37 front (IsBytes-take (length b - 32) b fits)) p.1 in
    let head : take 37 front ≡ image_header_bytes (codes "CALCIMG1") i = take-take 37 (length b - 32) b (omega (arith, first.long)) ∙
    header_back (codes "CALCIMG1") b es i first.long fits first.magic image t.1 in
    let tail : drop 37 front ≡ entries_bytes i.entries = t.0.parts ∙ append-nil (entries_bytes es) ∙ ap entries_bytes (sym (entries_are b es i image)) in
    let whole : front ≡ image_header_bytes (codes "CALCIMG1") i ++ entries_bytes i.entries = sym (take-append-drop 37 front) ∙ (λ j. head j ++ tail j) in
    sym (take-append-drop (length b - 32) b) ∙ ap (λ (x : Bytes). front ++ x) p.0 ∙ ap signed whole

all_blocks : (n : ℕ) → min n (64 * block_count n) ≡ n
all_blocks n = omega arith

pub second_back : (b : Bytes) (es : List Entry) (i : Image) → IsSecond b → IsBytes b → second_entries b ≡ Ok es → image_at b es ≡ Some i → b ≡ version_2 i
second_back b es i second fits read image =
    let p = second_passed b es read in
    let n = stated b in
    let h = image_header_bytes (codes "CALCIMG2") i in
    let t = blocks_take (block_count n) 0 n (sha256 (take 37 b)) (drop 69 b) (es, []) (IsBytes-drop 69 b fits) p.1 in
    let count : length es ≡ n = t.1 ∙ all_blocks n in
    let head : take 37 b ≡ h = header_back (codes "CALCIMG2") b es i second.long fits second.magic image count in
    let same : es ≡ i.entries = sym (entries_are b es i image) in
    let blocks : drop 69 b ≡ blocks_bytes (block_count (length i.entries)) (sha256 h) i.entries =
    t.0.parts ∙ append-nil _
    ∙ (λ j. blocks_bytes (block_count (sym count j)) (sha256 (head j)) es)
    ∙ ap (λ (l : List Entry). blocks_bytes (block_count (length l)) (sha256 h) l) same in
    let behind : drop 37 b ≡ sha256 h ++ drop 69 b = sym (take-append-drop 32 (drop 37 b)) ∙ (λ j. (p.0 ∙ ap sha256 head) j ++ drop-drop 32 37 b j) in
    sym (take-append-drop 37 b) ∙ (λ j. head j ++ behind j) ∙ ap (λ (x : Bytes). h ++ (sha256 h ++ x)) blocks ∙
    sym (append_assoc h (sha256 h) (blocks_bytes (block_count (length i.entries)) (sha256 h) i.entries))

-- ---- from the image to bytes

cell_spellable : (most : ℕ) (c : Cell) → most ≤ VALUE_BYTES → IfSome c (λ v. length v ≤ most) → IfSome c (λ v. length v < 2 ^ 16)
cell_spellable most None le h = tt
cell_spellable most (Some v) le h = omega (arith, le, h)

all_spellable : (most : ℕ) (es : List Entry) → most ≤ VALUE_BYTES → AllByRecursion (IsWithin most) es → AllByRecursion IsSpellable es
all_spellable most [] le h = tt
all_spellable most (e ∷ es) le h = (record { key = let k = h.0.key in omega (arith, k); value = cell_spellable most e.1 le h.0.value }, all_spellable most es le h.1)

header_length : (a0 a1 a2 a3 a4 a5 a6 a7 : ℕ) (i : Image) → length (image_header_bytes (a0 ∷ a1 ∷ a2 ∷ a3 ∷ a4 ∷ a5 ∷ a6 ∷ a7 ∷ []) i) ≡ 37
unfolding image_header_bytes
header_length a0 a1 a2 a3 a4 a5 a6 a7 i = refl

first_length : (i : Image) → length (image_header_bytes (codes "CALCIMG1") i) ≡ 37
first_length i = header_length 67 65 76 67 73 77 71 49 i

second_length : (i : Image) → length (image_header_bytes (codes "CALCIMG2") i) ≡ 37
second_length i = header_length 67 65 76 67 73 77 71 50 i

back_is : (b t r : Bytes) → b ≡ t ++ r → drop (length b - length r) b ≡ r
back_is b t r e = ap (λ (x : Bytes). drop (length x - length r) x) e ∙ drop_at t r (length (t ++ r) - length r) (omega (arith, length-append t r))

-- what reading makes of the bytes of an image: how they begin, their entries and the image
pub record IsReadAs (Begins : Bytes → Type 0) (entries_of : Bytes → Result (List Entry) ReadError) (i : Image) (b : Bytes) : Type 0 where
  pub begins : Begins b
  pub read : entries_of b ≡ Ok i.entries
  pub image : image_at b i.entries ≡ Some i

-- in version 1
pub first_again : (i : Image) (b : Bytes) → IsVersion1 i b → IsReadAs IsFirst first_entries i b
first_again i b (fits, is) =
    let h = image_header_bytes (codes "CALCIMG1") i in
    let es = entries_bytes i.entries in
    let d = sha256 (h ++ es) in
    let digest : length d ≡ 32 = length-sha256 (h ++ es) in
    let few = fits.lawful.few in
    let says = header_again 67 65 76 67 73 77 71 49 b i (es ++ d) fits.numbers (omega (arith, few)) (is ∙ append_assoc h es d) in
    let front : take (length b - 32) b ≡ h ++ es = ap (λ n. take (length b - n) b) (sym digest) ∙ front_is b (h ++ es) d is in
    let back : drop (length b - 32) b ≡ d = ap (λ n. drop (length b - n) b) (sym digest) ∙ back_is b (h ++ es) d is in
    let whole : IsSigned b = back ∙ ap sha256 (sym front) in
    let entries : entries_at (stated b) (drop 37 (take (length b - 32) b)) ≡ Some (i.entries, []) =
    (λ j. entries_at (says.count j) (drop 37 (front j)))
    ∙ ap (entries_at (length i.entries)) (drop_at h es 37 (first_length i) ∙ sym (append-nil es))
    ∙ entries_again i.entries [] (all_spellable VALUE_BYTES_V1 i.entries (omega arith) fits.entries) in
    record {
      begins = record { long = omega (arith, ap (λ (x : Bytes). length x) is, length-append (h ++ es) d, length-append h es, first_length i, digest); magic = says.begins };
      read = first_signed b whole ∙ ap alone_or_bad entries;
      image = says.image;
    }

-- and in version 2
pub second_again : (i : Image) (b : Bytes) → IsVersion2 i b → IsReadAs IsSecond second_entries i b
second_again i b (fits, is) =
    let h = image_header_bytes (codes "CALCIMG2") i in
    let d = sha256 h in
    let n = length i.entries in
    let blocks = blocks_bytes (block_count n) d i.entries in
    let digest : length d ≡ 32 = length-sha256 h in
    let few = fits.lawful.few in
    let parts : b ≡ h ++ (d ++ blocks) = is ∙ append_assoc h d blocks in
    let says = header_again 67 65 76 67 73 77 71 50 b i (d ++ blocks) fits.numbers (omega (arith, few)) parts in
    let behind : drop 37 b ≡ d ++ blocks = ap (drop 37) parts ∙ drop_at h (d ++ blocks) 37 (second_length i) in
    let header : HasHeader b = ap (take 32) behind ∙ take_at d blocks 32 digest ∙ ap sha256 (sym says.header) in
    let text : drop 69 b ≡ blocks = sym (drop-drop 32 37 b) ∙ ap (drop 32) behind ∙ drop_at d blocks 32 digest in
    let read = blocks_again (block_count (stated b)) 0 (stated b) (sha256 (take 37 b)) (drop 69 b) (
      i.entries,
      [],
      sym says.count ∙ sym (all_blocks (stated b)),
      all_spellable VALUE_BYTES i.entries (omega arith) fits.entries,
      text ∙ (λ j. blocks_bytes (block_count (sym says.count j)) (sha256 (sym says.header j)) i.entries) ∙ sym (append-nil _),
    ) in
    record {
      begins = record { long = omega (arith, ap (λ (x : Bytes). length x) parts, length-append h (d ++ blocks), length-append d blocks, second_length i, digest); magic = says.begins };
      read = second_signed b header ∙ ap alone_or_refused read;
      image = says.image;
    }
