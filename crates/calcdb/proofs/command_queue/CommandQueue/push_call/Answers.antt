use Rattle.std.proofs.Common.{List, [], ◌∷◌, ◌++◌, length, sym, ap, ◌∙◌}
use Rattle.procedure.specs.Bytes.{Bytes}
use Rattle.calcdb.specs.declared.command_queue.Head.{Head}
use Rattle.calcdb.specs.declared.commands.Command.{Command}
use Rattle.calcdb.specs.declared.commands.NewCall.{NewCall}
use Rattle.calcdb.specs.inside.Queues.{beginning, calls_of, joined}
use Rattle.calcdb.proofs.Queues.{call_behind, call_counted}
use Rattle.calcdb.proofs.command_queue.CommandQueue.push_call.Goals as goal

pub invariant_of-self-2 : goal.invariant_of-self-2
invariant_of-self-2 g c =
    let heads = c.push_back_reserved-2.ensures.items ∙ ap (λ (l : List Head). l ++ c.args.head ∷ []) c.reserve.ensures.items in
    let calls = c.push_back_reserved.ensures.items ∙ ap (λ (l : List (NewCall (List Bytes))). l ++ c.args.call ∷ []) c.reserve-2.ensures.items in
    ap calls_of heads
    ∙ call_counted c.self.inside.heads.items c.self.inside.calls.items c.args.head c.self.invariant c.args.call c.requires
    ∙ sym (ap (λ (l : List (NewCall (List Bytes))). length l) calls)

pub returns : goal.returns
returns g c =
    let heads = c.push_back_reserved-2.ensures.items ∙ ap (λ (l : List Head). l ++ c.args.head ∷ []) c.reserve.ensures.items in
    let calls = c.push_back_reserved.ensures.items ∙ ap (λ (l : List (NewCall (List Bytes))). l ++ c.args.call ∷ []) c.reserve-2.ensures.items in
    (λ i. joined (heads i) (calls i))
    ∙ call_behind c.self.inside.heads.items c.self.inside.calls.items c.args.head c.self.invariant c.args.call c.requires
    ∙ ap (λ (l : List (Command (List Bytes))). l ++ beginning c.args.head c.args.call ∷ []) c.self.view_is
