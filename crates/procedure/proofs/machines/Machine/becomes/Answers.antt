use Rattle.std.proofs.Common.{refl, ◌≡◌, IfOk, OnErr, sym, ap, ◌∙◌, subst, option_copied}
use Rattle.procedure.specs.Bytes.{Bytes}
use Rattle.procedure.specs.Needs.{HasValue, Need, becomes_of}
use Rattle.procedure.specs.Runs.{Execution, next_need}
use Rattle.procedure.proofs.Steps.{need_here, need_past}
use Rattle.procedure.proofs.machines.Machine.becomes.Goals as goal

pub returns-in-Some-clause-value : goal.returns-in-Some-clause-value
returns-in-Some-clause-value g c =
    let m = c.self.inside in
    let found = option_copied c.args.found in
    let e = need_here m.args m.code m.place m.registers m.replies.items m.outcome c.in-Some.instruction.now c.in-Some.ensures.value
    c.as_slice-args.result.now c.as_slice-args.ensures m.registers refl in
    subst (λ (x : Execution). IfOk c.becomes.result (λ b. b ≡ becomes_of (next_need x.args x.progress) found)) c.self.view_is
    (subst (λ (n : Need Bytes). IfOk c.becomes.result (λ b. b ≡ becomes_of n found)) e c.becomes.ensures.value)

pub returns-in-Some-clause-memory : goal.returns-in-Some-clause-memory
returns-in-Some-clause-memory g c =
    let m = c.self.inside in
    let e = need_here m.args m.code m.place m.registers m.replies.items m.outcome c.in-Some.instruction.now c.in-Some.ensures.value
    c.as_slice-args.result.now c.as_slice-args.ensures m.registers refl in
    subst (λ (x : Execution). OnErr c.becomes.result (HasValue (next_need x.args x.progress))) c.self.view_is
    (subst (λ (n : Need Bytes). OnErr c.becomes.result (HasValue n)) e c.becomes.ensures.memory)

pub returns-in-None-clause-value : goal.returns-in-None-clause-value
returns-in-None-clause-value g c =
    let m = c.self.inside in
    let found = option_copied c.args.found in
    let e = need_past m.args m.code m.place m.registers m.replies.items m.outcome c.in-None.ensures.value in
    ap (λ (n : Need Bytes). becomes_of n found) (sym e) ∙ ap (λ (x : Execution). becomes_of (next_need x.args x.progress) found) c.self.view_is
