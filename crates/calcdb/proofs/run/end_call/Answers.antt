use Rattle.calcdb.proofs.Carrying.{end_refused, ended}
use Rattle.calcdb.proofs.run.end_call.Goals as goal

pub returns-in-Ok : goal.returns-in-Ok
returns-in-Ok g c =
    let h = c.finish_in_log.ensures in
    ended c.args.session c.args.core.now c.finish_in_log.new.self c.finish_in_log.result c.in-Ok.place
    (record { finished = h.finished; place = h.place; refused = h.refused; refusal = h.refusal }) c.in-Ok.is

pub returns-in-Err : goal.returns-in-Err
returns-in-Err g c =
    let h = c.finish_in_log.ensures in
    let u = c.give_up-given_up.ensures in
    end_refused c.args.session c.args.core.now c.finish_in_log.new.self c.give_up-given_up.new.self c.finish_in_log.result c.in-Err.refused c.give_up-given_up.result
    (record { finished = h.finished; place = h.place; refused = h.refused; refusal = h.refusal }) c.in-Err.is
    (record { given_up = u.given_up; refused = u.refused; active = u.active })
