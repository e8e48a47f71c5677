-- Bytes that are taken in pieces.
use Rattle.std.specs.Prelude.{◌≡◌, ◌≤◌, ◌+◌, ◌++◌, Bool, true, Option, length}
use Rattle.std.specs.Io.KnownBytes.{Appends, Keeps}
use Rattle.procedure.specs.Bytes.{Bytes}
use Rattle.procedure.specs.Streams.{IsBegun}

-- some of the bytes came to be there, and all of them where there are as many more
pub record Grows (old new x : Bytes) : Type 0 where
  pub most : length new ≤ length old + length x
  pub whole : length new ≡ length old + length x → new ≡ old ++ x

-- the bytes go out; at the first fault a beginning of them has gone, and from then on nothing goes
pub record Sends (was is : Option Bytes) (was_faulty is_faulty : Bool) (x : Bytes) : Type 0 where
  pub begun : IsBegun was is x
  pub whole : (is_faulty ≡ true → ⊥) → Appends was is x
  pub faulty : was_faulty ≡ true → (is_faulty ≡ true) × Keeps was is
