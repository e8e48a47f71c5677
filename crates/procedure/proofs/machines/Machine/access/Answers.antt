use Rattle.std.proofs.Common.{refl, sym, ap, ◌∙◌}
use Rattle.procedure.specs.Needs.{accessed}
use Rattle.procedure.specs.Runs.{Execution, next_need}
use Rattle.procedure.proofs.Steps.{need_here, need_past}
use Rattle.procedure.proofs.machines.Machine.access.Goals as goal

pub returns-in-Some : goal.returns-in-Some
returns-in-Some g c =
    let m = c.self.inside in
    let e = need_here m.args m.code m.place m.registers m.replies.items m.outcome c.in-Some.instruction.now c.in-Some.ensures.value
    c.as_slice-args.result.now c.as_slice-args.ensures m.registers refl in
    c.access_of.ensures ∙ ap accessed e ∙ ap (λ (x : Execution). accessed (next_need x.args x.progress)) c.self.view_is

pub returns-in-None : goal.returns-in-None
returns-in-None g c =
    let m = c.self.inside in
    let e = need_past m.args m.code m.place m.registers m.replies.items m.outcome c.in-None.ensures.value in
    ap accessed (sym e) ∙ ap (λ (x : Execution). accessed (next_need x.args x.progress)) c.self.view_is
