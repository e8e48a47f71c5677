use Rattle.std.proofs.Common.{length}
use Rattle.replay.proofs.Auditing.{PassSoFar}
use Rattle.replay.proofs.audits.audit_records.Given as goal

-- the records so far pass
abbrev pub invariant-loop-table : goal.invariant-loop-table
invariant-loop-table g l = PassSoFar l.catalog l.fn.table l.fn.records l.records l.table l.order l.calls l.place

abbrev pub decreases-loop-table : goal.decreases-loop-table
decreases-loop-table g l = length l.records
