-- Records that stand at the front of bytes, as they are told and made one after another.
use Rattle.std.proofs.Common.{◌≡◌, ℕ, suc, ◌+◌, ◌-◌, ◌≤◌, ◌<◌, inl, inr, List, [], ◌∷◌, ◌++◌, length, drop, Some, refl, sym, ap, subst, ◌∙◌, append_assoc, arith}
use Rattle.std.proofs.lemmas.List.{drop_all, drop_at, drop-drop, length-append, length-drop}
use Rattle.std.proofs.lemmas.Bool.{cases_lt}
use Rattle.byteorder.specs.Endian.{big_bytes}
use Rattle.byteorder.specs.Numbers.{length-bytes_high_first}
use Rattle.sha2.proofs.Facts256.{length-sha256}
use Rattle.procedure.specs.Bytes.{Bytes}
use Rattle.commitlog.specs.Records.{Record}
use Rattle.commitlog.specs.declared.formats.Version.{Version}
use Rattle.commitlog.specs.declared.limits.TheConstants.{LOG_RECORDS}
use Rattle.commitlog.specs.BodyReading.{record_in}
use Rattle.commitlog.specs.LogBytes.{Fits, body, greatest_value, next_digest, record_bytes, records_bytes}
use Rattle.commitlog.specs.LogReadings.{Fronts, IsBody, IsWhole, after_record, stated_body, stated_length}
use Rattle.commitlog.specs.StoredRecords.{AreSpelled, records_in, with_first}
use Rattle.commitlog.proofs.BodyLaws.{record_again}
use Rattle.commitlog.proofs.OneReadings.{at}

-- the first of records, and what is left behind it
record First (v : Version) (d : Bytes) (r : Record) (rs : List Record) (left bytes : Bytes) : Type 0 where
  fits : Fits v r
  whole : IsWhole bytes
  said : stated_body bytes ≡ body r
  rest : after_record bytes ≡ records_bytes (next_digest d r) rs ++ left
  others : Fronts v (next_digest d r) rs left (after_record bytes)

length-record : (d : Bytes) (r : Record) → length (record_bytes d r) ≡ 4 + length (body r) + 32
length-record d r =
    omega (arith, length-append (big_bytes 4 (length (body r))) (body r ++ next_digest d r), length-bytes_high_first 4 (length (body r)), length-append (body r) (next_digest d r), length-sha256 (d ++ body r))

first_of : (v : Version) (d : Bytes) (r : Record) (rs : List Record) (left bytes : Bytes) → Fronts v d (r ∷ rs) left bytes → First v d r rs left bytes
first_of v d r rs left bytes f =
    let others = records_bytes (next_digest d r) rs ++ left in
    let text : bytes ≡ record_bytes d r ++ others = f.text ∙ append_assoc (record_bytes d r) (records_bytes (next_digest d r) rs) left in
    let a = at v d r others bytes f.records.0 text in
    let behind : 4 + stated_length bytes + 32 ≡ length (record_bytes d r) = omega (arith, a.stated, length-record d r) in
    let rest : after_record bytes ≡ others =
    ap (λ (n : ℕ). drop n bytes) behind ∙ ap (drop (length (record_bytes d r))) text ∙ drop_at (record_bytes d r) others (length (record_bytes d r)) refl in
    record {
      fits = f.records.0;
      whole = omega (arith, a.stated, a.size);
      said = a.said;
      rest = rest;
      others = record { text = rest; records = f.records.1; count = omega (arith, f.count) };
    }

record_read : (v : Version) (r : Record) (bytes : Bytes) → Fits v r → stated_body bytes ≡ body r → record_in (greatest_value v) (stated_body bytes) ≡ Some r
record_read v r bytes fits said = ap (record_in (greatest_value v)) said ∙ record_again v r fits

-- those that are made are those that stand there
pub records_are : (v : Version) (d : Bytes) (rs : List Record) (left bytes : Bytes) → Fronts v d rs left bytes → records_in v (length rs) bytes ≡ rs
records_are v d [] left bytes f = refl
records_are v d (r ∷ rs) left bytes f =
    let a = first_of v d r rs left bytes f in
    ap (λ o. with_first o (records_in v (length rs) (after_record bytes))) (record_read v r bytes a.fits a.said)
    ∙ ap (λ (l : List Record). r ∷ l) (records_are v (next_digest d r) rs left (after_record bytes) a.others)

pub spelled_are : (v : Version) (n : ℕ) (bytes : Bytes) (s : AreSpelled v n bytes) → records_in v n bytes ≡ s.1
spelled_are v n bytes s =
    ap (λ (k : ℕ). records_in v k bytes) (sym s.4) ∙ records_are v s.0 s.1 s.2 bytes s.3

pub how_many : (v : Version) (n : ℕ) (bytes : Bytes) → AreSpelled v n bytes → (length (records_in v n bytes) ≡ n) × (n ≤ LOG_RECORDS)
how_many v n bytes s = (ap (λ (l : List Record). length l) (spelled_are v n bytes s) ∙ s.4, omega (arith, s.3.count, s.4))

-- where n are to come, and that is one at least, it stands whole, and the others behind it
pub record More (v : Version) (n : ℕ) (bytes : Bytes) : Type 0 where
  pub whole : IsWhole bytes
  pub is : IsBody v (stated_body bytes)
  pub others : AreSpelled v (n - 1) (after_record bytes)
  pub first : (r : Record) → Fits v r → body r ≡ stated_body bytes → records_in v n bytes ≡ r ∷ records_in v (n - 1) (after_record bytes)

more_of : (v : Version) (n : ℕ) (bytes d : Bytes) (rs : List Record) (left : Bytes) → 1 ≤ n → Fronts v d rs left bytes → length rs ≡ n → More v n bytes
more_of v n bytes d [] left some f e = absurd (omega (arith, some, e))
more_of v n bytes d (r ∷ rs) left some f e =
    let a = first_of v d r rs left bytes f in
    let one_more : n ≡ suc (n - 1) = omega (arith, some) in
    record {
      whole = a.whole;
      is = (r, a.fits, sym a.said);
      others = (next_digest d r, rs, left, a.others, omega (arith, e));
      first = λ x fits said.
          ap (λ (k : ℕ). records_in v k bytes) one_more ∙ ap (λ o. with_first o (records_in v (n - 1) (after_record bytes))) (record_read v x bytes fits (sym said));
    }

pub more : (v : Version) (n : ℕ) (bytes : Bytes) → 1 ≤ n → AreSpelled v n bytes → More v n bytes
more v n bytes some s = more_of v n bytes s.0 s.1 s.2 some s.3 s.4

-- ---- those from a place on

-- so many were passed, and these are left
pub record Passed (v : Version) (all : List Record) (n passed : ℕ) (rest : Bytes) : Type 0 where
  pub spelled : AreSpelled v n rest
  pub left : records_in v n rest ≡ drop passed all

drop_next : {X : Type 0} (n : ℕ) (all : List X) (x : X) (left : List X) → x ∷ left ≡ drop n all → left ≡ drop (n + 1) all
drop_next n all x left e = ap (drop 1) e ∙ drop-drop 1 n all

pub passed_on : (v : Version) (all : List Record) (n passed : ℕ) (rest after : Bytes) → 1 ≤ n → after ≡ after_record rest → Passed v all n passed rest → Passed v all (n - 1) (passed + 1) after
passed_on v all n passed rest after some same p =
    let m = more v n rest some p.spelled in
    let r = m.is.0 in
    record {
      spelled = subst (AreSpelled v (n - 1)) (sym same) m.others;
      left = ap (records_in v (n - 1)) same
          ∙ drop_next passed all r (records_in v (n - 1) (after_record rest)) (sym (m.first r m.is.1 m.is.2) ∙ p.left);
    }

pub passed_all : (v : Version) (all : List Record) (place n passed : ℕ) (rest : Bytes) → passed ≤ place → (passed < place → n ≡ 0) → Passed v all n passed rest → records_in v n rest ≡ drop place all
passed_all v all place n passed rest le none p =
    elim (cases_lt passed place) [
      | inl lt ↦
          let empty : records_in v n rest ≡ [] = ap (λ (k : ℕ). records_in v k rest) (none lt) in
          let over : length all ≤ passed = omega (arith, ap length (sym p.left ∙ empty), length-drop passed all) in
          empty ∙ sym (drop_all place all (omega (arith, over, le)))
      | inr ge ↦ p.left ∙ ap (λ (k : ℕ). drop k all) (omega (arith, le, ge))
    ]
