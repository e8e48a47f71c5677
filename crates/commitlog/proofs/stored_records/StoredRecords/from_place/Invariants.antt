use Rattle.std.proofs.Common.{◌-◌, ◌≤◌}
use Rattle.commitlog.proofs.Standing.{Passed}
use Rattle.commitlog.proofs.stored_records.StoredRecords.from_place.Given as goal

-- so many of the records were passed
abbrev pub invariant-loop-passed : goal.invariant-loop-passed
invariant-loop-passed l = record {
  few : l.passed ≤ l.place;
  passed : Passed l.self-inside.version l.self l.count l.passed l.rest;
}

abbrev pub decreases-loop-passed : goal.decreases-loop-passed
decreases-loop-passed l = l.place - l.passed
