-- Decimals and values.
use Rattle.std.specs.Prelude.{ℕ, ◌+◌, ◌-◌, ◌*◌, ◌^◌, ◌==◌, ◌&&◌, if◌then◌else◌, nat_le, nat_lt, [], ◌∷◌, length, Option, Some, None}
use Rattle.std.specs.Result.{result_ok}
use Rattle.byteorder.specs.Endian.{big_bytes}
use Rattle.hex.specs.Hex.{decode_of}
use Rattle.procedure.specs.Bytes.{Bytes}
use Rattle.procedure.specs.declared.limits.TheConstants.{KEY_BYTES, VALUE_BYTES}
use Rattle.calcdb.specs.Reads.{◌>>=◌}

-- the value of a decimal digit
abbrev pub digit_of : ℕ → Option ℕ
digit_of b = if nat_le 48 b && nat_le b 57 then Some (b - 48) else None

-- the number whose first digits are n and whose others these are
unfoldable pub decimal_after : ℕ → Bytes → Option ℕ
decimal_after n [] = Some n
decimal_after n (b ∷ bs) = do
  d ← digit_of b
  decimal_after (n * 10 + d) bs

abbrev pub at_most : ℕ → ℕ → Option ℕ
at_most most n = if nat_le n most then Some n else None

abbrev pub number_of_digits : ℕ → Bytes → Option ℕ
number_of_digits most digits = decimal_after 0 digits >>= at_most most

-- a decimal of one or more digits, at most this
unfoldable pub decimal_of : ℕ → Bytes → Option ℕ
decimal_of most word = if length word == 0 then None else number_of_digits most word

-- `#`, and 1 to 20 digits of a number of 8 bytes
unfoldable pub number_value_of : Bytes → Option Bytes
number_value_of digits = do
  n ← if nat_le (length digits) 20 then decimal_of (2 ^ 64 - 1) digits else None
  Some (big_bytes 8 n)

-- an even number of hexadecimal digits, of either case
abbrev pub hex_of : Bytes → Option Bytes
hex_of digits = result_ok (decode_of digits)

-- a value: `#` and a number, `'` and its bytes, or `x` and hexadecimal digits
unfoldable pub value_of : Bytes → Option Bytes
value_of [] = None
value_of (b ∷ bs) = if b == 35 then number_value_of bs else if b == 39 then Some bs else if b == 120 then hex_of bs else None

-- a key has 1 to 32 bytes
abbrev pub as_key : Bytes → Option Bytes
as_key bytes = if nat_lt 0 (length bytes) && nat_le (length bytes) KEY_BYTES then Some bytes else None

abbrev pub key_of : Bytes → Option Bytes
key_of word = value_of word >>= as_key

-- what a key holds has at most 65,535 bytes
abbrev pub as_held : Bytes → Option Bytes
as_held bytes = if nat_le (length bytes) VALUE_BYTES then Some bytes else None

abbrev pub held_value_of : Bytes → Option Bytes
held_value_of word = value_of word >>= as_held
