use Rattle.std.proofs.Common.{◌≡◌, ◌+◌, length}
use Rattle.calcdb.specs.Showing.{records_text}
use Rattle.procedure.proofs.WriteProgress.{Gone}
use Rattle.calcdb.proofs.show.write_records.Given as goal

-- the lines of the records that are left are left to go
abbrev pub invariant-loop-found : goal.invariant-loop-found
invariant-loop-found g l = record {
  gone : Gone (g.W.Write.contents l.fn.writer) (g.W.Write.contents l.writer) (records_text 0 l.fn.records) (records_text l.place l.records);
  count : l.place + length l.records ≡ length l.fn.records;
}

abbrev pub decreases-loop-found : goal.decreases-loop-found
decreases-loop-found g l = length l.records
