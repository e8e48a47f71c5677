use Rattle.std.proofs.Common.{◌≡◌, drop}
use Rattle.calcdb.specs.Lines.{all_pass}
use Rattle.calcdb.specs.Output.{is_graphic}
use Rattle.calcdb.proofs.output.is_graphic.Given as goal

-- the bytes that are left decide
abbrev pub invariant-loop-byte : goal.invariant-loop-byte
invariant-loop-byte l = all_pass is_graphic (drop l.byte-index l.bytes) ≡ all_pass is_graphic l.bytes
