-- Lines of commands that are carried out in threads.
use Rattle.std.specs.Prelude.{codes, List, [], ◌∷◌, Option, Some}
use Rattle.procedure.specs.Bytes.{Bytes}
use Rattle.calcdb.specs.Reads.{◌>>=◌}
use Rattle.calcdb.specs.Lines.{alone_as, word_as}
use Rattle.calcdb.specs.Values.{held_value_of, key_of}
use Rattle.calcdb.specs.Instructions.{named_in}
use Rattle.calcdb.specs.Commands.{Names, kind_in, new_call_of}
use Rattle.calcdb.specs.declared.thread_commands.ThreadCommand.{ThreadCommand}
use Rattle.calcdb.specs.declared.thread_commands.ThreadCommand.TheVariants.{Call, Checkpoint, View}
use Rattle.calcdb.specs.declared.thread_commands.ThreadCommandName.{ThreadCommandName}
use Rattle.calcdb.specs.declared.thread_commands.ThreadCommandName.TheVariants as named

-- a key alone
unfoldable pub key_alone : List Bytes → Option Bytes
key_alone = alone_as key_of

abbrev pub thread_command_name : Bytes → Option ThreadCommandName
thread_command_name = named_in ((codes "call", named.Call) ∷ (codes "checkpoint", named.Checkpoint) ∷ (codes "view", named.View) ∷ [])

-- a call of a session from 0 to 63, whose arguments are such as keys may hold; a kind of checkpoint; or a key
unfoldable pub thread_command_of : Names → List Bytes → Option (ThreadCommand (List Bytes))
thread_command_of names ws = do
  c ← word_as thread_command_name ws
  elim c.0 [
    | named.Call ↦ (new_call_of 63 held_value_of names c.1 >>= λ n. Some (Call n))
    | named.Checkpoint ↦ (kind_in c.1 >>= λ k. Some (Checkpoint k))
    | named.View ↦ (key_alone c.1 >>= λ k. Some (View k))
  ]
