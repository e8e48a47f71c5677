use Rattle.std.proofs.Common.{◌≡◌, List, [], ℕ, suc, ◌+◌, ◌-◌, Ok, Err, subst, ap, ◌∙◌, arith}
use Rattle.steps.specs.CoreViews.{CoreView}
use Rattle.procedure.specs.Bytes.{Bytes}
use Rattle.image.specs.Images.{Image}
use Rattle.steps.specs.declared.schedules.Reply.TheVariants as reply
use Rattle.calcdb.specs.Runs.{Carried, GoesOn, images_shown, reply_text, shown_text}
use Rattle.calcdb.proofs.Carrying.{made_ready, ran, step_refused}
use Rattle.calcdb.proofs.run.go_on.Goals as goal

pub returns-in-Ok-Ready : goal.returns-in-Ok-Ready
returns-in-Ok-Ready g c =
    let l = c.loop in
    let h = c.step.ensures in
    let s = c.args.session in
    let text : Bytes = shown_text c.end_call.new.core.log c.end_call.result in
    let images : List Image = images_shown c.end_call.result in
    let new : CoreView = c.end_call.new.core in
    let n : ℕ = c.args.count - (l.counter + 1) in
    let k : suc n ≡ c.args.count - l.counter = omega (arith, c.loop-test.true) in
    l.invariant new text images
    (subst (λ m. Carried {A = g.row.A.Denot} (GoesOn m s) l.core new text images) k
    (made_ready n s l.core c.step.new.self new c.step.result text images (record { stepped = h.stepped; ready = h.ready; refused = h.refused; refusal = h.refusal })
    (c.in-Ok-Ready.is ∙ ap Ok c.in-Ok-Ready.field-0-is) c.end_call.ensures))

pub returns-in-Err : goal.returns-in-Err
returns-in-Err g c =
    let l = c.loop in
    let h = c.step.ensures in
    let u = c.give_up-given_up.ensures in
    let s = c.args.session in
    let text : Bytes = reply_text {A = g.row.A.Denot} (reply.Step (Err c.in-Err.refused)) in
    let new : CoreView = c.give_up-given_up.new.self in
    let n : ℕ = c.args.count - (l.counter + 1) in
    let k : suc n ≡ c.args.count - l.counter = omega (arith, c.loop-test.true) in
    l.invariant new text []
    (subst (λ m. Carried {A = g.row.A.Denot} (GoesOn m s) l.core new text []) k
    (step_refused n s l.core c.step.new.self new c.step.result c.in-Err.refused c.give_up-given_up.result (record { stepped = h.stepped; ready = h.ready; refused = h.refused; refusal = h.refusal })
    c.in-Err.is
    (record { given_up = u.given_up; refused = u.refused; active = u.active })))

pub loop-preserved : goal.loop-preserved
loop-preserved g c = λ new text images on.
    let l = c.loop in
    let h = c.step.ensures in
    let s = c.args.session in
    let n : ℕ = c.args.count - (l.counter + 1) in
    let k : suc n ≡ c.args.count - l.counter = omega (arith, c.loop-test.true) in
    l.invariant new text images
    (subst (λ m. Carried {A = g.row.A.Denot} (GoesOn m s) l.core new text images) k
    (ran n s l.core c.step.new.self new c.step.result text images (record { stepped = h.stepped; ready = h.ready; refused = h.refused; refusal = h.refusal })
    (c.in-Ok-Ran.is ∙ ap Ok c.in-Ok-Ran.field-0-is) on))

pub returns : goal.returns
returns g c =
    let l = c.loop in
    let text : Bytes = shown_text c.end_call-2.new.core.log c.end_call-2.result in
    let images : List Image = images_shown c.end_call-2.result in
    let k : 0 ≡ c.args.count - l.counter = omega (arith, c.loop-test.false) in
    l.invariant c.end_call-2.new.core text images (subst (λ m. Carried {A = g.row.A.Denot} (GoesOn m c.args.session) l.core c.end_call-2.new.core text images) k c.end_call-2.ensures)
