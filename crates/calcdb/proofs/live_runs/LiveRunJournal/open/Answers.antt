use Rattle.calcdb.proofs.LiveRuns.{cut_at_header}
use Rattle.calcdb.proofs.live_runs.LiveRunJournal.open.Goals as goal

pub returns-in-Err-clause-err : goal.returns-in-Err-clause-err
returns-in-Err-clause-err g c =
    let made = g.F.RunFolder.made in
    cut_at_header (made c.args.self.now.folder) (made c.begin_log.new.self) (made c.make_opening.new.folder) c.args.core.now c.opening.result.now c.opening.ensures.value c.begin_log.ensures.same
    c.in_ok-opening.ensures.ok
