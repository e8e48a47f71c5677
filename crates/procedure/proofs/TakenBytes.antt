-- Bytes that were taken from the front of others, and the numbers that they spell.
use Rattle.std.proofs.Common.{◌≡◌, ℕ, ◌+◌, ◌<◌, ◌≤◌, ◌++◌, length, get_or, take, drop, sym, ap, ◌∙◌, append_assoc, arith, inl, inr}
use Rattle.std.specs.Int.{w16, w32, w64, from_be_bytes}
use Rattle.std.proofs.lemmas.Bool.{cases_lt}
use Rattle.std.proofs.lemmas.List.{length-take, get_or-drop, get_or-take, get_or_past}
use Rattle.std.proofs.lemmas.Nat.{be_bytes_2, be_bytes_4, be_bytes_8}
use Rattle.byteorder.specs.Endian.{big_bytes, big_number}
use Rattle.byteorder.specs.Numbers.{big_from-take}
use Rattle.procedure.specs.Bytes.{Bytes}

abbrev pub IsBytes : Bytes → Type 0
IsBytes bytes = (i : ℕ) → get_or bytes i 0 < 256

pub IsBytes-drop : (n : ℕ) (bytes : Bytes) → IsBytes bytes → IsBytes (drop n bytes)
IsBytes-drop n bytes h i = rw get_or-drop (h (n + i))

pub IsBytes-take : (n : ℕ) (bytes : Bytes) → IsBytes bytes → IsBytes (take n bytes)
IsBytes-take n bytes h i =
    elim (cases_lt i n) [
      | inl lt ↦ rw (get_or-take n bytes i 0 lt) (h i)
      | inr le ↦ rw (get_or_past (take n bytes) i 0 (omega (arith, length-take n bytes))) (omega arith)
    ]

-- what a reader took from the front
pub record Takes (bytes text rest : Bytes) : Type 0 where
  pub parts : bytes ≡ text ++ rest
  pub rest_fits : IsBytes rest

pub Takes-then : (a x b y c : Bytes) → Takes a x b → Takes b y c → Takes a (x ++ y) c
Takes-then a x b y c p q = record { parts = p.parts ∙ ap (λ (t : Bytes). x ++ t) q.parts ∙ sym (append_assoc x y c); rest_fits = q.rest_fits }

-- the bytes of the number that bytes are
abbrev pub SpellsBack : ℕ → Type 0
SpellsBack n = (bytes : Bytes) → length bytes ≡ n → IsBytes bytes → big_bytes n (big_number n bytes) ≡ bytes

pub back_2 : SpellsBack 2
back_2 bytes len fits =
    let e : big_number 2 bytes ≡ from_be_bytes w16 bytes = omega arith in
    be_bytes_2 bytes (big_number 2 bytes) len fits e

pub back_4 : SpellsBack 4
back_4 bytes len fits =
    let e : big_number 4 bytes ≡ from_be_bytes w32 bytes = omega arith in
    be_bytes_4 bytes (big_number 4 bytes) len fits e

pub back_8 : SpellsBack 8
back_8 bytes len fits =
    let e : big_number 8 bytes ≡ from_be_bytes w64 bytes = omega arith in
    be_bytes_8 bytes (big_number 8 bytes) len fits e

-- a number at the front of bytes, spelled
pub front_is : (n : ℕ) → SpellsBack n → (bytes : Bytes) → IsBytes bytes → n ≤ length bytes → big_bytes n (big_number n bytes) ≡ take n bytes
front_is n back bytes fits long =
    ap (big_bytes n) (sym (big_from-take 0 n n bytes (omega arith))) ∙ back (take n bytes) (omega (arith, length-take n bytes)) (IsBytes-take n bytes fits)
