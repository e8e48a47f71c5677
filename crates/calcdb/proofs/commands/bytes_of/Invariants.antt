use Rattle.std.proofs.Common.{◌≡◌, length, map}
use Rattle.calcdb.specs.Lines.{words}
use Rattle.calcdb.specs.Commands.{values_by}
use Rattle.calcdb.specs.Values.{value_of}
use Rattle.calcdb.proofs.Readers.{behind}
use Rattle.calcdb.proofs.commands.bytes_of.Given as goal

-- the values so far and those of the words that are left are all of them
abbrev pub invariant-loop-word : goal.invariant-loop-word
invariant-loop-word g l = behind (map (λ v. v.items) l.values.items) (values_by value_of (words l.rest)) ≡ values_by value_of (words l.line)

abbrev pub decreases-loop-word : goal.decreases-loop-word
decreases-loop-word g l = length l.rest
