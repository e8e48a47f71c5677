use Rattle.std.proofs.Common.{◌≡◌, ◌++◌, take}
use Rattle.calcdb.specs.Showing.{arguments_text}
use Rattle.calcdb.proofs.show.push_arguments.Given as goal

-- the text so far has the arguments so far
abbrev pub invariant-loop-argument : goal.invariant-loop-argument
invariant-loop-argument g l = l.out.items ≡ l.fn.out.items ++ arguments_text (take l.argument-index l.arguments)
