use Rattle.std.proofs.Common.{◌≡◌, length}
use Rattle.calcdb.specs.Lines.{words}
use Rattle.calcdb.specs.Commands.{values_by}
use Rattle.calcdb.specs.Values.{held_value_of}
use Rattle.calcdb.proofs.Readers.{behind}
use Rattle.calcdb.proofs.commands.values_of.Given as goal

-- the values so far and those of the words that are left are all of them
abbrev pub invariant-loop-word : goal.invariant-loop-word
invariant-loop-word g l = behind l.values.items (values_by held_value_of (words l.rest)) ≡ values_by held_value_of (words l.line)

abbrev pub decreases-loop-word : goal.decreases-loop-word
decreases-loop-word g l = length l.rest
