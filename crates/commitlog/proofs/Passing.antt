-- Reading past so many values one after another, and what is told of a body without making its record.
use Rattle.std.proofs.Common.{◌≡◌, ℕ, ◌-◌, ◌+◌, ◌≤◌, ◌<◌, List, [], ◌∷◌, ◌++◌, length, Option, Some, None, Ok, Err, refl, sym, ap, subst, ◌∙◌, arith}
use Rattle.std.specs.Result.{IsErrAnd}
use Rattle.std.specs.declared.result.Result.{Result}
use Rattle.std.proofs.lemmas.List.{length-append}
use Rattle.procedure.specs.Bytes.{Bytes}
use Rattle.commitlog.specs.Records.{Record, IsInRange}
use Rattle.commitlog.specs.declared.formats.Version.{Version}
use Rattle.commitlog.specs.declared.bodies.BodyError.{BodyError}
use Rattle.commitlog.specs.declared.bodies.BodyError.TheVariants as errors
use Rattle.commitlog.specs.BodyReading.{IsLawful, PassesMany, Read, many, record_in}
use Rattle.commitlog.specs.LogBytes.{greatest_value}
use Rattle.commitlog.specs.LogReadings.{IsBody}
use Rattle.commitlog.proofs.BodyLaws.{record_again, record_takes}
use Rattle.procedure.proofs.TakenBytes.{IsBytes}
use Rattle.commitlog.proofs.Manys.{ends, goes_on, is_done, with_front}

-- so far i of count were read past, and they were these
pub record PassedSoFar {X : Type 0} (one : Bytes → Read X) (count i : ℕ) (rest bytes : Bytes) : Type 0 where
  pub front : List X
  pub so_many : length front ≡ i
  pub left : with_front front (many one (count - i) rest) ≡ many one count bytes

module _ {X : Type 0} (one : Bytes → Read X) (count : ℕ) (bytes : Bytes) where
  pub none_passed : PassedSoFar one count 0 bytes bytes
  none_passed = record { front = []; so_many = refl; left = ap (λ (k : ℕ). with_front [] (many one k bytes)) (omega arith) ∙ at_start (many one count bytes) } where
    at_start : (read : Read (List X)) → with_front [] read ≡ read
    at_start (Some x) = refl
    at_start None = refl

  pub passes_on : (i : ℕ) (rest after : Bytes) (x : X) → i < count → one rest ≡ Some (x, after) → PassedSoFar one count i rest bytes → PassedSoFar one count (i + 1) after bytes
  passes_on i rest after x lt h s = record {
    front = s.front ++ x ∷ [];
    so_many = omega (arith, s.so_many, length-append s.front (x ∷ []));
    left = goes_on one s.front count i rest x after (many one count bytes) lt h s.left;
  }

  pub stops_short : {Y : Type 0} (view : Y → Bytes) (Q : BodyError → Type 0) (result : Result Y BodyError) (i : ℕ) (rest : Bytes) →
      IsErrAnd result Q → i < count → one rest ≡ None → PassedSoFar one count i rest bytes → PassesMany view result one count bytes
  stops_short view Q (Ok x) i rest failed lt h s = absurd failed
  stops_short view Q (Err e) i rest failed lt h s = ends errors.Malformed one s.front count i rest (many one count bytes) lt h s.left

  pub all_passed : (i : ℕ) (rest : Bytes) → count ≤ i → i ≤ count → PassedSoFar one count i rest bytes → (xs : List X) × (many one count bytes ≡ Some (xs, rest)) × (length xs ≡ count)
  all_passed i rest le ge s = (s.front, is_done one s.front count i rest (many one count bytes) le s.left, omega (arith, s.so_many, le, ge))

-- ---- bodies

lawful_some : (r : Record) (o : Option Record) → o ≡ Some r → IsInRange r → IsLawful o
lawful_some r o e h = subst IsLawful (sym e) h

-- the body of a record is read as one within its ranges
pub body_lawful : (v : Version) (text : Bytes) → IsBody v text → IsLawful (record_in (greatest_value v) text)
body_lawful v text b = lawful_some b.0 (record_in (greatest_value v) text) (ap (record_in (greatest_value v)) (sym b.2) ∙ record_again v b.0 b.1) b.1.0

is_body_of : (v : Version) (text : Bytes) → IsBytes text → (o : Option Record) → record_in (greatest_value v) text ≡ o → IsLawful o → IsBody v text
is_body_of v text fits None e h = absurd h
is_body_of v text fits (Some r) e h =
    let takes = record_takes v text r fits e in
    (r, (h, takes.1), takes.0)

-- and what is read so is one
pub lawful_body : (v : Version) (text : Bytes) → IsBytes text → IsLawful (record_in (greatest_value v) text) → IsBody v text
lawful_body v text fits h = is_body_of v text fits (record_in (greatest_value v) text) refl h
