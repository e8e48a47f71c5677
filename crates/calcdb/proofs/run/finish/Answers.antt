use Rattle.calcdb.proofs.Carrying.{finish_refused, finished}
use Rattle.calcdb.proofs.run.finish.Goals as goal

pub returns-in-Ok : goal.returns-in-Ok
returns-in-Ok g c =
    let h = c.finish_in_log.ensures in
    finished c.args.session c.args.core.now c.finish_in_log.new.self c.finish_in_log.result c.in-Ok.place
    (record { finished = h.finished; place = h.place; refused = h.refused; refusal = h.refusal }) c.in-Ok.is

pub returns-in-Err : goal.returns-in-Err
returns-in-Err g c =
    let h = c.finish_in_log.ensures in
    finish_refused c.args.session c.args.core.now c.finish_in_log.new.self c.finish_in_log.result c.in-Err.refused
    (record { finished = h.finished; place = h.place; refused = h.refused; refusal = h.refusal }) c.in-Err.is
