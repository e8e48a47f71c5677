-- A front of a log's bytes is read as a front of its records.
use Rattle.std.proofs.Common.{◌≡◌, ◌⊎◌, inl, inr, ℕ, ◌+◌, ◌^◌, ◌≤◌, ◌<◌, List, [], ◌∷◌, ◌++◌, length, take, drop, append_assoc, refl, sym, ap, ◌∙◌, subst, arith}
use Rattle.std.specs.List.{AllByRecursion}
use Rattle.std.proofs.lemmas.List.{length-append, length-take, take-append-drop}
use Rattle.byteorder.specs.Endian.{big_bytes}
use Rattle.byteorder.specs.Numbers.{length-bytes_high_first, big_number-reads_back}
use Rattle.sha2.proofs.Facts256.{length-sha256}
use Rattle.procedure.specs.Bytes.{Bytes}
use Rattle.commitlog.specs.Records.{Record}
use Rattle.commitlog.specs.declared.formats.Version.{Version}
use Rattle.commitlog.specs.declared.formats.Version.TheVariants.{One, Two}
use Rattle.commitlog.specs.declared.formats.LogHeader.{LogHeader}
use Rattle.commitlog.specs.declared.decoding.Ending.{Ending}
use Rattle.commitlog.specs.declared.decoding.Ending.TheVariants.{Clean, Torn}
use Rattle.commitlog.specs.LogBytes.{Fits, body, first_digest, greatest_body, log_header_bytes, magic, next_digest, record_bytes, records_bytes}
use Rattle.commitlog.specs.LogReadings.{Begins, Ends, IsHeader, stated_length}
use Rattle.commitlog.proofs.BodyLaws.{body_bound}
use Rattle.commitlog.proofs.OneReadings.{same_front}
use Rattle.replay.specs.Promises.{FrontsAreRead}

greatest_small : (v : Version) → greatest_body v < 2 ^ 32
greatest_small One = omega arith
greatest_small Two = omega arith

record_length : (d : Bytes) (r : Record) → length (record_bytes d r) ≡ 4 + length (body r) + 32
record_length d r =
    let chained : length (next_digest d r) ≡ 32 = length-sha256 (d ++ body r) in
    omega (arith, length-append (big_bytes 4 (length (body r))) (body r ++ next_digest d r), length-bytes_high_first 4 (length (body r)), length-append (body r) (next_digest d r), chained)

-- what is less than a record
cut_short : (v : Version) (d : Bytes) (r : Record) (x y z : Bytes) → Fits v r → record_bytes d r ++ z ≡ x ++ y → length x < length (record_bytes d r) → 4 ≤ length x →
    (stated_length x ≤ greatest_body v) × (length x < 4 + stated_length x + 32)
cut_short v d r x y z fits e short long =
    let n = length (body r) in
    let after = (body r ++ next_digest d r) ++ z in
    let small : n < 256 ^ 4 = omega (arith, body_bound v r fits, greatest_small v) in
    let whole : big_bytes 4 n ++ after ≡ take 4 x ++ (drop 4 x ++ y) =
    sym (append_assoc (big_bytes 4 n) (body r ++ next_digest d r) z) ∙ e ∙ ap (λ (b : Bytes). b ++ y) (sym (take-append-drop 4 x)) ∙ append_assoc (take 4 x) (drop 4 x) y in
    let four : length (take 4 x) ≡ 4 = omega (arith, length-take 4 x) in
    let front = same_front (big_bytes 4 n) (take 4 x) after (drop 4 x ++ y) (length-bytes_high_first 4 n ∙ sym four) whole in
    let stated : stated_length x ≡ n = ap stated_length (sym (take-append-drop 4 x) ∙ ap (λ (b : Bytes). b ++ drop 4 x) (sym front.0)) ∙ big_number-reads_back 4 n (drop 4 x) small in
    (omega (arith, stated, body_bound v r fits), omega (arith, stated, short, record_length d r))

torn_or_clean : (v : Version) (d : Bytes) (r : Record) (x y z : Bytes) → Fits v r → record_bytes d r ++ z ≡ x ++ y → length x < length (record_bytes d r) → (e : Ending) × Ends v x e
torn_or_clean v d r [] y z fits e short = (Clean, refl)
torn_or_clean v d r (b ∷ x) y z fits e short = by (split (length (b ∷ x)))
  where
    split : (n : ℕ) → (n < 4) ⊎ (4 ≤ n)
    split n = grind arith

    by : (length (b ∷ x) < 4) ⊎ (4 ≤ length (b ∷ x)) → (e : Ending) × Ends v (b ∷ x) e
    by (inl few) = (Torn, (omega arith, inl few))
    by (inr long) = (Torn, (omega arith, inr (cut_short v d r (b ∷ x) y z fits e short long)))

-- a front of the bytes of these records
record Front (v : Version) (d : Bytes) (rs : List Record) (x : Bytes) : Type 0 where
  whole : List Record
  others : List Record
  parts : rs ≡ whole ++ others
  rest : Bytes
  text : x ≡ records_bytes d whole ++ rest
  ending : Ending
  ends : Ends v rest ending

front_of : (v : Version) (d : Bytes) (rs : List Record) (x y : Bytes) → AllByRecursion (Fits v) rs → records_bytes d rs ≡ x ++ y → Front v d rs x
front_of v d [] [] y fits e = record { whole = []; others = []; parts = refl; rest = []; text = refl; ending = Clean; ends = refl }
front_of v d [] (b ∷ x) y fits e = absurd (omega (arith, ap length e))
front_of v d (r ∷ rs) x y fits e =
    by (λ a b same. front_of v (next_digest d r) rs a b fits.1 same) (split (length x) (length (record_bytes d r)))
  where
    split : (n k : ℕ) → (n < k) ⊎ (k ≤ n)
    split n k = grind arith

    by : ((a b : Bytes) → records_bytes (next_digest d r) rs ≡ a ++ b → Front v (next_digest d r) rs a) →
        (length x < length (record_bytes d r)) ⊎ (length (record_bytes d r) ≤ length x) → Front v d (r ∷ rs) x
    by others (inl short) =
        let told = torn_or_clean v d r x y (records_bytes (next_digest d r) rs) fits.0 e short in
        record { whole = []; others = r ∷ rs; parts = refl; rest = x; text = refl; ending = told.0; ends = told.1 }
    by others (inr long) =
        let n = length (record_bytes d r) in
        let here = take n x in
        let left = drop n x in
        let len : length here ≡ n = omega (arith, length-take n x) in
        let same = same_front (record_bytes d r) here (records_bytes (next_digest d r) rs) (left ++ y) (sym len)
        (e ∙ ap (λ (b : Bytes). b ++ y) (sym (take-append-drop n x)) ∙ append_assoc here left y) in
        let f = others left y same.1 in
        record {
          whole = r ∷ f.whole;
          others = f.others;
          parts = ap (λ (l : List Record). r ∷ l) f.parts;
          rest = f.rest;
          text = sym (take-append-drop n x) ∙ ap (λ (b : Bytes). b ++ left) (sym same.0) ∙ ap (λ (b : Bytes). record_bytes d r ++ b) f.text ∙
              sym (append_assoc (record_bytes d r) (records_bytes (next_digest d r) f.whole) f.rest);
          ending = f.ending;
          ends = f.ends;
        }

letters_length : (v : Version) → length (magic v) ≡ 8
letters_length One = refl
letters_length Two = refl

header_length : (v : Version) (h : LogHeader) → IsHeader h → length (log_header_bytes v h) ≡ 72
header_length v h lengths =
    omega (arith, length-append (magic v) (h.catalog ++ h.opening), length-append h.catalog h.opening, letters_length v, lengths.catalog, lengths.opening)

all_front : {X : Type 0} (P : X → Type 0) (xs ys : List X) → AllByRecursion P (xs ++ ys) → AllByRecursion P xs
all_front P [] ys a = tt
all_front P (x ∷ xs) ys a = (a.0, all_front P xs ys a.1)

pub fronts_are_read : FrontsAreRead
fronts_are_read v h l text f =
    let header = log_header_bytes v h in
    let d = first_digest v h in
    let n = length header in
    let len : n ≡ 72 = header_length v h f.header in
    let left = drop n text in
    let four : length (take n text) ≡ n = omega (arith, length-take n text, len, f.long) in
    let same = same_front header (take n text) (records_bytes d l) (left ++ f.behind) (sym four)
    (f.bytes ∙ ap (λ (b : Bytes). b ++ f.behind) (sym (take-append-drop n text)) ∙ append_assoc (take n text) left f.behind) in
    let g = front_of v d l left f.behind f.records same.1 in
    let begins : Begins v h g.whole g.rest text =
    record {
      header = f.header;
      text = sym (take-append-drop n text) ∙ ap (λ (b : Bytes). b ++ left) (sym same.0) ∙ ap (λ (b : Bytes). header ++ b) g.text ∙ sym (append_assoc header (records_bytes d g.whole) g.rest);
      records = all_front (Fits v) g.whole g.others (subst (AllByRecursion (Fits v)) g.parts f.records);
      count = omega (arith, f.count, ap length g.parts, length-append g.whole g.others);
    } in
    (g.whole, g.others, g.parts, g.ending, (g.rest, begins, g.ends))
