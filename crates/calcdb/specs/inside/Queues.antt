-- Commands whose calls stand apart from them.
use Rattle.std.specs.Prelude.{ℕ, ◌+◌, List, [], ◌∷◌, Option, Some, None}
use Rattle.procedure.specs.Bytes.{Bytes}
use Rattle.calcdb.specs.declared.command_queue.Head.{Head}
use Rattle.calcdb.specs.declared.command_queue.Head.TheVariants as head
use Rattle.calcdb.specs.declared.commands.Command.{Command}
use Rattle.calcdb.specs.declared.commands.Command.TheVariants as command
use Rattle.calcdb.specs.declared.commands.NewCall.{NewCall}

-- the command, where it begins no call
abbrev pub plain : Head → Option (Command (List Bytes))
plain h =
    elim h [
      | head.Begin ↦ None
      | head.Step s ↦ Some (command.Step s)
      | head.Finish s ↦ Some (command.Finish s)
      | head.GiveUp s ↦ Some (command.GiveUp s)
      | head.Call ↦ None
      | head.Start k ↦ Some (command.Start k)
      | head.Advance ↦ Some command.Advance
      | head.Capture ↦ Some command.Capture
      | head.Scan ↦ Some command.Scan
      | head.TakeImage ↦ Some command.TakeImage
      | head.Reclaim ↦ Some command.Reclaim
      | head.Abandon ↦ Some command.Abandon
    ]

-- the command that begins a call
abbrev pub beginning : Head → NewCall (List Bytes) → Command (List Bytes)
beginning h c =
    elim h [
      | head.Begin ↦ command.Begin c
      | head.Step s ↦ command.Step s
      | head.Finish s ↦ command.Finish s
      | head.GiveUp s ↦ command.GiveUp s
      | head.Call ↦ command.Call c
      | head.Start k ↦ command.Start k
      | head.Advance ↦ command.Advance
      | head.Capture ↦ command.Capture
      | head.Scan ↦ command.Scan
      | head.TakeImage ↦ command.TakeImage
      | head.Reclaim ↦ command.Reclaim
      | head.Abandon ↦ command.Abandon
    ]

-- the command of a head, which takes the first of the calls where it begins one; and the commands behind it
abbrev pub put_first : Option (Command (List Bytes)) → (NewCall (List Bytes) → Command (List Bytes)) → List (NewCall (List Bytes)) → (List (NewCall (List Bytes)) → List (Command (List Bytes))) →
    List (Command (List Bytes))
put_first (Some c) begins cs behind = c ∷ behind cs
put_first None begins [] behind = []
put_first None begins (d ∷ ds) behind = begins d ∷ behind ds

-- the commands of heads and calls
abbrev pub joined : List Head → List (NewCall (List Bytes)) → List (Command (List Bytes))
joined [] cs = []
joined (h ∷ hs) cs = put_first (plain h) (beginning h) cs (joined hs)

abbrev pub one_unless : Option (Command (List Bytes)) → ℕ
one_unless None = 1
one_unless (Some c) = 0

-- how many calls the heads begin
abbrev pub calls_of : List Head → ℕ
calls_of [] = 0
calls_of (h ∷ hs) = one_unless (plain h) + calls_of hs
