-- A whole record at the front of bytes.
use Rattle.std.proofs.Common.{◌≡◌, ◌≢◌, ℕ, ◌+◌, ◌≤◌, ◌++◌, inl, inr, length, take, drop, sym, ap, ◌∙◌, append_assoc, arith}
use Rattle.std.proofs.lemmas.List.{take-append-drop, drop-drop, length-take, length-drop}
use Rattle.byteorder.specs.Endian.{big_bytes}
use Rattle.sha2.specs.Sha256.{sha256}
use Rattle.procedure.specs.Bytes.{Bytes}
use Rattle.commitlog.specs.declared.formats.Version.{Version}
use Rattle.commitlog.specs.Records.{Record}
use Rattle.commitlog.specs.LogBytes.{body, next_digest, record_bytes}
use Rattle.commitlog.specs.LogReadings.{stated_length, stated_body, stated_digest, after_record, IsBody, IsForeign, IsWhole, StandsFirst}
use Rattle.procedure.proofs.TakenBytes.{IsBytes, back_4, front_is}

-- behind the length, a body of so many bytes, and the digest
pub behind_all : (n : ℕ) (bytes : Bytes) → drop 32 (drop n (drop 4 bytes)) ≡ drop (4 + n + 32) bytes
behind_all n bytes = drop-drop 32 n (drop 4 bytes) ∙ drop-drop (n + 32) 4 bytes ∙ ap (λ (k : ℕ). drop k bytes) (omega arith)

-- the length, the body, the digest, and what is left
pub in_pieces : (bytes : Bytes) → IsBytes bytes → IsWhole bytes →
    bytes ≡ big_bytes 4 (stated_length bytes) ++ (stated_body bytes ++ (stated_digest bytes ++ after_record bytes))
in_pieces bytes fits whole =
    let long : 4 ≤ length bytes = omega arith in
    let rest = drop 4 bytes in
    let behind = drop (stated_length bytes) rest in
    let left : drop 32 behind ≡ after_record bytes = behind_all (stated_length bytes) bytes in
    sym (take-append-drop 4 bytes)
    ∙ ap (λ (x : Bytes). x ++ rest) (sym (front_is 4 back_4 bytes fits long))
    ∙ ap (λ (x : Bytes). big_bytes 4 (stated_length bytes) ++ x) (sym (take-append-drop (stated_length bytes) rest))
    ∙ ap (λ (x : Bytes). big_bytes 4 (stated_length bytes) ++ (stated_body bytes ++ x)) (sym (take-append-drop 32 behind))
    ∙ ap (λ (x : Bytes). big_bytes 4 (stated_length bytes) ++ (stated_body bytes ++ (stated_digest bytes ++ x))) left

pub body_length : (bytes : Bytes) → IsWhole bytes → length (stated_body bytes) ≡ stated_length bytes
body_length bytes whole =
    omega (arith, whole, length-take (stated_length bytes) (drop 4 bytes), length-drop 4 bytes)

pub whole_is : (d : Bytes) (r : Record) (bytes : Bytes) → IsBytes bytes → IsWhole bytes → body r ≡ stated_body bytes → next_digest d r ≡ stated_digest bytes →
    bytes ≡ record_bytes d r ++ after_record bytes
whole_is d r bytes fits whole text digest =
    let len : stated_length bytes ≡ length (body r) = sym (ap length text ∙ body_length bytes whole) in
    let rest = after_record bytes in
    in_pieces bytes fits whole
    ∙ ap (λ (n : ℕ). big_bytes 4 n ++ (stated_body bytes ++ (stated_digest bytes ++ rest))) len
    ∙ ap (λ (x : Bytes). big_bytes 4 (length (body r)) ++ (x ++ (stated_digest bytes ++ rest))) (sym text)
    ∙ ap (λ (x : Bytes). big_bytes 4 (length (body r)) ++ (body r ++ (x ++ rest))) (sym digest)
    ∙ ap (λ (x : Bytes). big_bytes 4 (length (body r)) ++ x) (sym (append_assoc (body r) (next_digest d r) rest))

-- the text and the digest of a whole record
pub record AreCut (bytes text given : Bytes) : Type 0 where
  pub text_is : text ≡ stated_body bytes
  pub given_is : given ≡ stated_digest bytes

pub are_cut : (n : ℕ) (bytes rest text behind given : Bytes) → n ≡ stated_length bytes → rest ≡ drop 4 bytes → text ≡ take n rest → behind ≡ drop n rest → given ≡ take 32 behind → AreCut bytes text given
are_cut n bytes rest text behind given is_length is_rest is_text is_behind is_given = record {
  text_is = is_text ∙ (λ i. take (is_length i) (is_rest i));
  given_is = is_given ∙ ap (take 32) (is_behind ∙ (λ i. drop (is_length i) (is_rest i)));
}

module _ (v : Version) (d bytes text given after : Bytes) (are : AreCut bytes text given) (digest : after ≡ sha256 (d ++ text)) where
  pub stands : IsBytes bytes → IsWhole bytes → after ≡ given → IsBody v text → StandsFirst v d after bytes (after_record bytes)
  stands fits whole same b =
      let chained : after ≡ next_digest d b.0 = digest ∙ ap (λ (t : Bytes). sha256 (d ++ t)) (sym b.2) in
      (b.0, b.1, chained, whole_is d b.0 bytes fits whole (b.2 ∙ are.text_is) (sym chained ∙ same ∙ are.given_is))

  pub no_body : (IsBody v text → ⊥) → IsForeign v d bytes
  no_body none = inl (λ r fits same. none (r, fits, same ∙ sym are.text_is))

  pub other_digest : after ≢ given → IsForeign v d bytes
  other_digest other = inr (λ same. other (digest ∙ ap (λ (t : Bytes). sha256 (d ++ t)) are.text_is ∙ sym same ∙ sym are.given_is))
