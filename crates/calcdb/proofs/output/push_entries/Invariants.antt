use Rattle.std.proofs.Common.{◌≡◌, ◌++◌, take}
use Rattle.calcdb.specs.Output.{entries_text}
use Rattle.calcdb.proofs.output.push_entries.Given as goal

-- the text so far has the entries so far
abbrev pub invariant-loop-entry : goal.invariant-loop-entry
invariant-loop-entry g l = l.out.items ≡ l.fn.out.items ++ entries_text (take l.entry-index l.entries)
