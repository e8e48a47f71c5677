use Rattle.std.proofs.Common.{◌≡◌, drop}
use Rattle.calcdb.specs.Lines.{all_pass}
use Rattle.calcdb.specs.Commands.{is_letter_or_digit}
use Rattle.calcdb.proofs.names.is_letter_or_digit.Given as goal

-- the bytes that are left decide
abbrev pub invariant-loop-byte : goal.invariant-loop-byte
invariant-loop-byte l = all_pass is_letter_or_digit (drop l.byte-index l.word) ≡ all_pass is_letter_or_digit l.word
