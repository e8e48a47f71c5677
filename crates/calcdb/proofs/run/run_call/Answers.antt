use Rattle.std.proofs.Common.{refl}
use Rattle.steps.specs.declared.schedules.Event.TheVariants as event
use Rattle.calcdb.specs.Runs.{images_shown, shown_text}
use Rattle.calcdb.proofs.Carrying.{call_begun, call_refused}
use Rattle.calcdb.proofs.run.run_call.Goals as goal

pub returns-in-Ok : goal.returns-in-Ok
returns-in-Ok g c =
    let n = c.args.call in
    let h = c.begin.ensures in
    call_begun c.args.core.now.catalog n (event.Begin n.session n.number n.procedure n.args) c.args.core.now c.begin.new.self c.go_on.new.core c.begin.result c.count_of-count.result
    (shown_text c.go_on.new.core.log c.go_on.result) (images_shown c.go_on.result)
    (refl, refl, refl, refl) (c.begin.result, refl, record { begun = h.begun; refused = h.refused; refusal = h.refusal }) c.in-Ok.is c.count_of-count.ensures c.go_on.ensures

pub returns-in-Err : goal.returns-in-Err
returns-in-Err g c =
    let n = c.args.call in
    let h = c.begin.ensures in
    call_refused c.args.core.now.catalog n (event.Begin n.session n.number n.procedure n.args) c.args.core.now c.begin.new.self c.begin.result c.in-Err.refused
    (refl, refl, refl, refl) (c.begin.result, refl, record { begun = h.begun; refused = h.refused; refusal = h.refusal }) c.in-Err.is
