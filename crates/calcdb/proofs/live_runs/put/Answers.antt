use Rattle.std.proofs.Common.{◌++◌, length, Some, []}
use Rattle.calcdb.proofs.LiveRuns.{no_less, on_err, on_ok, sent_is_front, stopped_is_front}
use Rattle.calcdb.proofs.live_runs.put.Goals as goal

pub returns-in_err-append_all-clause-err : goal.returns-in_err-append_all-clause-err
returns-in_err-append_all-clause-err g c = λ h rs was.
    on_err c.from_residual.result (stopped_is_front c.append_all.new.self h rs c.args.records.now (c.in_err-append_all.ensures.err (Some []) h rs was))

pub returns-clause-ok : goal.returns-clause-ok
returns-clause-ok g c = λ h rs was. on_ok c.synced.result (c.in_ok-append_all.ensures.ok (Some []) h rs was)

pub returns-clause-err : goal.returns-clause-err
returns-clause-err g c = λ h rs was.
    on_err c.synced.result (sent_is_front c.append_all.new.self h (rs ++ c.args.records.now) (length rs) (no_less rs c.args.records.now) (c.in_ok-append_all.ensures.ok (Some []) h rs was))
