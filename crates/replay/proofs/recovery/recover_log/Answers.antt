use Rattle.replay.proofs.Recovering.{runs_of_log}
use Rattle.replay.proofs.Sizes.{few_again}
use Rattle.replay.proofs.recovery.recover_log.Goals as goal

pub returns-clause-answer : goal.returns-clause-answer
returns-clause-answer g c =
    let log = c.args.log.now in
    runs_of_log c.args.catalog.now c.args.image log.version log.header log.records log.ending c.in_ok-check_start.ensures.ok c.in_ok-table.table c.place-from.result
    c.is_torn-torn.result c.run_again.result
    c.in_ok-table.ensures.table c.place-from.ensures c.is_torn-torn.ensures c.run_again.ensures

pub returns-clause-few : goal.returns-clause-few
returns-clause-few g c =
    few_again c.args.catalog.now c.in_ok-table.table c.place-from.result c.args.log.now.records c.is_torn-torn.result c.run_again.result c.run_again.ensures c.in_ok-table.ensures.few
