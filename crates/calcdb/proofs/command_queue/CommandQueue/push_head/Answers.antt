use Rattle.std.proofs.Common.{List, [], ◌∷◌, ◌++◌, ap, ◌∙◌}
use Rattle.procedure.specs.Bytes.{Bytes}
use Rattle.calcdb.specs.declared.command_queue.Head.{Head}
use Rattle.calcdb.specs.declared.commands.Command.{Command}
use Rattle.calcdb.specs.inside.Queues.{calls_of, joined}
use Rattle.calcdb.proofs.Queues.{head_behind, head_counted}
use Rattle.calcdb.proofs.command_queue.CommandQueue.push_head.Goals as goal

pub invariant_of-self-2 : goal.invariant_of-self-2
invariant_of-self-2 g c =
    ap calls_of c.in_ok-push_back.ensures.items ∙ head_counted c.self.inside.heads.items c.self.inside.calls.items c.args.head c.self.invariant c.requires

pub returns : goal.returns
returns g c = λ command is.
    ap (λ (hs : List Head). joined hs c.self.inside.calls.items) c.in_ok-push_back.ensures.items
    ∙ head_behind c.self.inside.heads.items c.self.inside.calls.items c.args.head c.self.invariant command is
    ∙ ap (λ (l : List (Command (List Bytes))). l ++ command ∷ []) c.self.view_is
