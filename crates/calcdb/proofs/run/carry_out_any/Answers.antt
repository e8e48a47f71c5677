use Rattle.std.proofs.Common.{List, [], refl, subst, sym}
use Rattle.procedure.specs.Bytes.{Bytes}
use Rattle.steps.specs.Schedules.{BeginsAs, without_image}
use Rattle.steps.specs.declared.schedules.Event.TheVariants as event
use Rattle.steps.specs.declared.schedules.Reply.TheVariants as reply
use Rattle.calcdb.specs.Runs.{Carried, Carries, images_shown, reply_text, shown_text}
use Rattle.calcdb.specs.declared.commands.Command.{Command}
use Rattle.calcdb.specs.declared.commands.Command.TheVariants as command
use Rattle.calcdb.proofs.Carrying.{one, one_begin, one_event}
use Rattle.calcdb.proofs.run.carry_out_any.Goals as goal

pub returns-in-Step : goal.returns-in-Step
returns-in-Step g c =
    let e = c.step.ensures in
    one_event c.args.core.now.catalog c.args.command (command.Step c.in-Step.session) (event.Step c.in-Step.session) c.args.core.now c.step.new.self (reply.Step c.step.result) c.in-Step.is (λ es rs text h. h)
    (c.step.result, refl, record { stepped = e.stepped; ready = e.ready; refused = e.refused; refusal = e.refusal })

pub returns-in-Finish : goal.returns-in-Finish
returns-in-Finish g c =
    let old = c.args.core.now in
    let new = c.finish.new.core in
    subst (λ (x : Command (List Bytes)). Carried {A = g.row.A.Denot} (Carries old.catalog x) old new (shown_text new.log c.finish.result) (images_shown c.finish.result)) (sym c.in-Finish.is) c.finish.ensures

pub returns-in-GiveUp : goal.returns-in-GiveUp
returns-in-GiveUp g c =
    let e = c.give_up.ensures in
    one_event c.args.core.now.catalog c.args.command (command.GiveUp c.in-GiveUp.session) (event.GiveUp c.in-GiveUp.session) c.args.core.now c.give_up.new.self (reply.GiveUp c.give_up.result) c.in-GiveUp.is (λ es rs text h. h)
    (c.give_up.result, refl, record { given_up = e.given_up; refused = e.refused; active = e.active })

pub returns-in-Start : goal.returns-in-Start
returns-in-Start g c =
    let e = c.start.ensures in
    one_event c.args.core.now.catalog c.args.command (command.Start c.in-Start.kind) (event.Start c.in-Start.kind) c.args.core.now c.start.new.self (reply.Start c.start.result) c.in-Start.is (λ es rs text h. h)
    (c.start.result, refl, record { started = e.started; number = e.number; refused = e.refused; refusal = e.refusal })

pub returns-in-Advance : goal.returns-in-Advance
returns-in-Advance g c =
    let e = c.advance.ensures in
    one_event c.args.core.now.catalog c.args.command command.Advance event.Advance c.args.core.now c.advance.new.self (reply.Advance c.advance.result) c.in-Advance.is (λ es rs text h. h)
    (c.advance.result, refl, record { advanced = e.advanced; phase = e.phase; refused = e.refused; refusal = e.refusal })

pub returns-in-Capture : goal.returns-in-Capture
returns-in-Capture g c =
    let e = c.capture.ensures in
    one_event c.args.core.now.catalog c.args.command command.Capture event.Capture c.args.core.now c.capture.new.self (reply.Capture c.capture.result) c.in-Capture.is (λ es rs text h. h)
    (c.capture.result, refl, record { captured = e.captured; refused = e.refused; refusal = e.refusal })

pub returns-in-Reclaim : goal.returns-in-Reclaim
returns-in-Reclaim g c =
    let e = c.reclaim.ensures in
    one_event c.args.core.now.catalog c.args.command command.Reclaim event.Reclaim c.args.core.now c.reclaim.new.self (reply.Reclaim c.reclaim.result) c.in-Reclaim.is (λ es rs text h. h)
    (c.reclaim.result, refl, record { key = e.key; reclaimed = e.reclaimed })

pub returns-in-Abandon : goal.returns-in-Abandon
returns-in-Abandon g c =
    let e = c.abandon.ensures in
    one_event c.args.core.now.catalog c.args.command command.Abandon event.Abandon c.args.core.now c.abandon.new.self (reply.Abandon c.abandon.result) c.in-Abandon.is (λ es rs text h. h)
    (c.abandon.result, refl, record { abandoned = e.abandoned; number = e.number; refused = e.refused; refusal = e.refusal })

pub returns-in-Begin : goal.returns-in-Begin
returns-in-Begin g c =
    let n = c.in-Begin.call in
    let e = c.begin-begun.ensures in
    let old = c.args.core.now in
    let new = c.begin-begun.new.self in
    let r = c.begin-begun.result in
    let h : BeginsAs old new n.session n.number n.procedure n.args r = record { begun = e.begun; refused = e.refused; refusal = e.refusal } in
    let v = event.Begin n.session n.number n.procedure n.args in
    subst (λ (x : Command (List Bytes)). Carried {A = g.row.A.Denot} (Carries old.catalog x) old new (reply_text {A = g.row.A.Denot} (reply.Begin r)) []) (sym c.in-Begin.is)
    (one_begin old.catalog n v old new (reply_text {A = g.row.A.Denot} (reply.Begin r)) [] (refl, refl, refl, refl) (one v old new (without_image (reply.Begin r)) (r, refl, h)))
