-- What is read of lines, line by line.
use Rattle.std.proofs.Common.{◌≡◌, ℕ, Option, None, Ok, refl}
use Rattle.procedure.specs.Bytes.{Bytes}
use Rattle.calcdb.specs.LineByLine.{after_lines}
use Rattle.calcdb.specs.Lines.{left_lines}

module _ {S : Type 0} (after : S → Bytes → Option S) where
  pub nothing_left : (s : S) (n : ℕ) (o : Option Bytes) → o ≡ None → after_lines after s n (left_lines o) ≡ Ok s
  unfolding after_lines
  nothing_left s n o is = rw is refl
