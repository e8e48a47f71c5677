use Rattle.std.proofs.Common.{refl, None, is_some, sym, ap, ◌∙◌}
use Rattle.procedure.specs.Bytes.{Bytes}
use Rattle.procedure.specs.Needs.{Need, becomes_of}
use Rattle.procedure.specs.Runs.{Execution, next_need}
use Rattle.procedure.proofs.Steps.{need_here, need_past}
use Rattle.procedure.proofs.machines.Machine.gives_value.Goals as goal

pub returns-in-Some : goal.returns-in-Some
returns-in-Some g c =
    let m = c.self.inside in
    let e = need_here m.args m.code m.place m.registers m.replies.items m.outcome c.in-Some.instruction.now c.in-Some.ensures.value
    c.as_slice-args.result.now c.as_slice-args.ensures m.registers refl in
    c.gives_value.ensures ∙ ap (λ (n : Need Bytes). is_some (becomes_of n None)) e ∙ ap (λ (x : Execution). is_some (becomes_of (next_need x.args x.progress) None)) c.self.view_is

pub returns-in-None : goal.returns-in-None
returns-in-None g c =
    let m = c.self.inside in
    let e = need_past m.args m.code m.place m.registers m.replies.items m.outcome c.in-None.ensures.value in
    ap (λ (n : Need Bytes). is_some (becomes_of n None)) (sym e) ∙ ap (λ (x : Execution). is_some (becomes_of (next_need x.args x.progress) None)) c.self.view_is
