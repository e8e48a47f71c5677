use Rattle.commitlog.proofs.Sending.{if_err, sent_so_far, stops_in}
use Rattle.commitlog.proofs.log_writer.LogWriter.append_all.Goals as goal

pub loop-record-preserved : goal.loop-record-preserved
loop-record-preserved g c = λ start h rs was.
    let l = c.loop-record in
    sent_so_far start c.append.new.self h rs c.args.records.now l.record-index c.record-item.result c.loop-record-test.true c.record-item.is (c.in_ok-append.ensures.ok start h _ (l.invariant start h rs was))

pub returns-in_err-append-clause-err : goal.returns-in_err-append-clause-err
returns-in_err-append-clause-err g c = λ start h rs was.
    let l = c.loop-record in
    if_err c.from_residual.result
    (stops_in start c.append.new.self h rs c.args.records.now l.record-index c.record-item.result c.loop-record-test.true c.record-item.is (c.in_err-append.ensures.err start h _ (l.invariant start h rs was)))
