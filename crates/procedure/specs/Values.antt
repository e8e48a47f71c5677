-- How a value holds its bytes: a short one in itself, a longer one in memory of its own.
use Rattle.std.specs.Prelude.{◌<◌, ◌≤◌, length, take}
use Rattle.procedure.specs.Bytes.{Bytes}
use Rattle.procedure.specs.declared.limits.TheConstants.{VALUE_BYTES}
use Rattle.procedure.specs.declared.values.TheConstants.{INLINE_BYTES}
use Rattle.procedure.specs.declared.values.Held.{Held}
use Rattle.procedure.specs.declared.values.Held.TheVariants.{Inline, Heap}

-- the bytes that a value stands for
abbrev pub held_bytes : {A : Type 0} → Held A → Bytes
held_bytes (Inline n places) = take n places
held_bytes (Heap bytes) = bytes.items

-- a short value is within its places, and a longer one within the limit
abbrev pub IsHeld : {A : Type 0} → Held A → Type 0
IsHeld (Inline n places) = n ≤ INLINE_BYTES
IsHeld (Heap bytes) = (INLINE_BYTES < length bytes.items) × (length bytes.items ≤ VALUE_BYTES)
