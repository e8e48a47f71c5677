use Rattle.std.proofs.Common.{refl, ◌≡◌, IfOk, OnErr, sym, ap, ◌∙◌, subst}
use Rattle.procedure.specs.Needs.{HasValue}
use Rattle.procedure.specs.Runs.{Execution, next_need}
use Rattle.procedure.proofs.Steps.{need_here, need_past}
use Rattle.procedure.proofs.machines.Machine.next.Goals as goal

pub returns-in-Some-clause-value : goal.returns-in-Some-clause-value
returns-in-Some-clause-value g c =
    let m = c.self.inside in
    let e = need_here m.args m.code m.place m.registers m.replies.items m.outcome c.in-Some.instruction.now c.in-Some.ensures.value
    c.as_slice-args.result.now c.as_slice-args.ensures m.registers refl in
    subst (λ (x : Execution). IfOk c.need_of.result (λ n. n ≡ next_need x.args x.progress)) c.self.view_is
    (subst (λ y. IfOk c.need_of.result (λ n. n ≡ y)) e c.need_of.ensures.value)

pub returns-in-Some-clause-memory : goal.returns-in-Some-clause-memory
returns-in-Some-clause-memory g c =
    let m = c.self.inside in
    let e = need_here m.args m.code m.place m.registers m.replies.items m.outcome c.in-Some.instruction.now c.in-Some.ensures.value
    c.as_slice-args.result.now c.as_slice-args.ensures m.registers refl in
    subst (λ (x : Execution). OnErr c.need_of.result (HasValue (next_need x.args x.progress))) c.self.view_is
    (subst (λ y. OnErr c.need_of.result (HasValue y)) e c.need_of.ensures.memory)

pub returns-in-None-clause-value : goal.returns-in-None-clause-value
returns-in-None-clause-value g c =
    let m = c.self.inside in
    let e = need_past m.args m.code m.place m.registers m.replies.items m.outcome c.in-None.ensures.value in
    sym e ∙ ap (λ (x : Execution). next_need x.args x.progress) c.self.view_is
