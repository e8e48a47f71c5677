use Rattle.std.proofs.Common.{◌≡◌, ◌&&◌, drop}
use Rattle.calcdb.specs.Lines.{all_pass, is_allowed}
use Rattle.calcdb.proofs.lines.all_may_stand.Given as goal

-- the bytes so far and those that are left decide
abbrev pub invariant-loop-byte : goal.invariant-loop-byte
invariant-loop-byte l = (l.all && all_pass is_allowed (drop l.byte-index l.bytes)) ≡ all_pass is_allowed l.bytes
