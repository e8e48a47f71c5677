use Rattle.std.proofs.Common.{◌∙◌, ap, subst, Err}
use Rattle.workers.specs.Sessions.{Executes, begins, finishes, not_begun, met_conflict, not_executed, not_finished, answered}
use Rattle.workers.proofs.calls.attempt.Goals as goal

pub returns-in-Err : goal.returns-in-Err
returns-in-Err g c = not_begun (subst (λ x. g.S.Session.does (begins c.args.call.now x) c.args.session.now c.begin.new.self) c.in-Err.is c.begin.ensures)

pub returns-in-Conflict : goal.returns-in-Conflict
returns-in-Conflict g c = met_conflict (subst (λ x. g.S.Session.does (begins c.args.call.now x) c.args.session.now c.begin.new.self) c.in_default.is c.begin.ensures) (subst (λ x. Executes g.S.Session.does _ c.begin.new.self c.execute.new.session x) (c.in-Err-execute.is ∙ ap (λ x. Err x) c.in-Conflict.is) c.execute.ensures) c.give_up.ensures

pub returns-in_default-refusal : goal.returns-in_default-refusal
returns-in_default-refusal g c = not_executed c.in_default-refusal.not-Conflict (subst (λ x. g.S.Session.does (begins c.args.call.now x) c.args.session.now c.begin.new.self) c.in_default.is c.begin.ensures) (subst (λ x. Executes g.S.Session.does _ c.begin.new.self c.execute.new.session x) c.in-Err-execute.is c.execute.ensures) c.give_up.ensures

pub returns-in-Ok : goal.returns-in-Ok
returns-in-Ok g c = answered (subst (λ x. g.S.Session.does (begins c.args.call.now x) c.args.session.now c.begin.new.self) c.in_default.is c.begin.ensures) (subst (λ x. Executes g.S.Session.does _ c.begin.new.self c.execute.new.session x) c.in_default-execute.is c.execute.ensures) (subst (λ x. g.S.Session.does (finishes x) c.execute.new.session c.finish.new.self) c.in-Ok.is c.finish.ensures)

pub returns-in-Err-finish : goal.returns-in-Err-finish
returns-in-Err-finish g c = not_finished (subst (λ x. g.S.Session.does (begins c.args.call.now x) c.args.session.now c.begin.new.self) c.in_default.is c.begin.ensures) (subst (λ x. Executes g.S.Session.does _ c.begin.new.self c.execute.new.session x) c.in_default-execute.is c.execute.ensures) (subst (λ x. g.S.Session.does (finishes x) c.execute.new.session c.finish.new.self) c.in-Err-finish.is c.finish.ensures) c.give_up-in-Err-finish.ensures
