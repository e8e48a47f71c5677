use Rattle.std.proofs.Common.{drop}
use Rattle.commitlog.specs.LogBytes.{records_bytes}
use Rattle.procedure.proofs.WriteProgress.{Gone}
use Rattle.commitlog.proofs.streams.write_out_records.Given as goal

abbrev pub invariant-loop-record : goal.invariant-loop-record
invariant-loop-record g l =
    Gone (g.W.Write.contents l.fn.writer) (g.W.Write.contents l.writer) (records_bytes l.fn.digest l.records) (records_bytes l.digest (drop l.record-index l.records))
