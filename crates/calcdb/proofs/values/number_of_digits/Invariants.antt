use Rattle.std.proofs.Common.{◌≡◌, ◌≤◌, drop}
use Rattle.calcdb.specs.Reads.{◌>>=◌}
use Rattle.calcdb.specs.Values.{at_most, decimal_after, number_of_digits}
use Rattle.calcdb.proofs.values.number_of_digits.Given as goal

-- the number so far with the digits that are left makes the number
abbrev pub invariant-loop-byte : goal.invariant-loop-byte
invariant-loop-byte l = record {
  whole : (decimal_after l.number (drop l.byte-index l.digits) >>= at_most l.most) ≡ number_of_digits l.most l.digits;
  fits : l.number ≤ l.most;
}
