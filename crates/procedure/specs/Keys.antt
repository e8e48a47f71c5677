-- How a key holds its bytes: in the first of 32 places, of which the rest are 0.
use Rattle.std.specs.Prelude.{◌≡◌, ℕ, ◌<◌, ◌≤◌, ◌++◌, length, take, drop, replicate}
use Rattle.std.proofs.Common.{sym, ◌∙◌, ap}
use Rattle.procedure.specs.Bytes.{Bytes}
use Rattle.procedure.specs.declared.keys.Key.TheInside.{Inside}

-- a key's 32 places
abbrev pub padded : Bytes → Bytes
padded b = b ++ drop (length b) (replicate 32 0)

-- the bytes that a key stands for
abbrev pub key_bytes : Inside → Bytes
key_bytes k = take k.len k.bytes

pub record IsPacked (k : Inside) : Type 0 where
  pub not_empty : 0 < k.len
  pub fits : k.len ≤ 32
  pub len_is : k.len ≡ length (key_bytes k)
  pub rest_is_zero : k.bytes ≡ padded (key_bytes k)

abbrev pub packed : Bytes → Inside
packed b = record { bytes = padded b; len = length b }

with_places : ℕ → Bytes → Inside
with_places n b = record { bytes = b; len = n }

-- a key's bytes give the key back
pub packed-key_bytes : (k : Inside) → IsPacked k → packed (key_bytes k) ≡ k
unfolding with_places
packed-key_bytes k h = ap (with_places (length (key_bytes k))) (sym h.rest_is_zero) ∙ ap (λ (n : ℕ). with_places n k.bytes) (sym h.len_is)
