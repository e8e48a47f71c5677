use Rattle.std.proofs.Common.{◌<◌, ◌≤◌, length, sym, ap, ◌∙◌, arith}
use Rattle.procedure.specs.Runs.{Execution, ended}
use Rattle.procedure.proofs.Steps.{goes_on, ended_past}
use Rattle.procedure.proofs.machines.Machine.ended.Goals as goal

pub returns-then-self-len : goal.returns-then-self-len
returns-then-self-len g c =
    let m = c.self.inside in
    let here : m.place < length m.code = omega arith in
    sym (goes_on m.args m.code m.place m.registers m.replies.items m.outcome here) ∙ ap (λ (x : Execution). ended x.progress) c.self.view_is

pub returns-else-self-len : goal.returns-else-self-len
returns-else-self-len g c =
    let m = c.self.inside in
    let past : length m.code ≤ m.place = omega arith in
    sym (ended_past m.args m.code m.place m.registers m.replies.items m.outcome past) ∙ ap (λ (x : Execution). ended x.progress) c.self.view_is
