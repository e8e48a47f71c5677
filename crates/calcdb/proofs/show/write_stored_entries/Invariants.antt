use Rattle.std.proofs.Common.{length}
use Rattle.calcdb.specs.Output.{entries_text}
use Rattle.procedure.proofs.WriteProgress.{Gone}
use Rattle.calcdb.proofs.show.write_stored_entries.Given as goal

-- the lines of the entries that are left are left to go
abbrev pub invariant-loop-entry : goal.invariant-loop-entry
invariant-loop-entry g l = Gone (g.W.Write.contents l.fn.writer) (g.W.Write.contents l.writer) (entries_text l.fn.entries) (entries_text l.entries)

abbrev pub decreases-loop-entry : goal.decreases-loop-entry
decreases-loop-entry g l = length l.entries
