use Rattle.std.proofs.Common.{arith}
use Rattle.commitlog.proofs.Standing.{more, passed_on}
use Rattle.commitlog.proofs.stored_records.StoredRecords.from_place.Goals as goal

pub split_first-requires : goal.split_first-requires
split_first-requires c =
    let l = c.loop-passed in
    (more c.self.inside.version l.count l.rest.now (omega (arith, c.if-count-gt0.true)) l.invariant.passed.spelled).whole

pub loop-passed-preserved : goal.loop-passed-preserved
loop-passed-preserved c =
    let l = c.loop-passed in
    record {
      few = omega (arith, c.loop-passed-test.true);
      passed = passed_on c.self.inside.version c.args.self.now l.count l.passed l.rest.now c.split_first.result.1.now (omega (arith, c.if-count-gt0.true)) c.split_first.ensures.rest l.invariant.passed;
    }
