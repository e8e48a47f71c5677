use Rattle.std.proofs.Common.{◌≡◌, drop, nat_eq}
use Rattle.std.specs.Cmp.Lexicographic.{pointwise}
use Rattle.calcdb.proofs.instructions.is_word.Given as goal

-- the bytes that are left decide
abbrev pub invariant-loop-at : goal.invariant-loop-at
invariant-loop-at l = pointwise nat_eq (drop l.at l.word) (drop l.at l.name) ≡ pointwise nat_eq l.word l.name
