-- A script: its procedures, and after them its commands, or the first line that is faulty.
use Rattle.std.specs.Prelude.{List, [], if◌then◌else◌, Option, Some, None, Result, Ok, Err}
use Rattle.procedure.specs.Bytes.{Bytes}
use Rattle.procedure.specs.Procedures.{Procedure}
use Rattle.calcdb.specs.Reads.{◌>>=◌}
use Rattle.calcdb.specs.LineByLine.{after_lines}
use Rattle.calcdb.specs.Lines.{all_pass, is_allowed, is_skipped, words}
use Rattle.calcdb.specs.Commands.{Names, command_of, with_more}
use Rattle.calcdb.specs.Preambles.{Preamble, preamble_of}
use Rattle.calcdb.specs.ThreadCommands.{thread_command_of}
use Rattle.calcdb.specs.declared.commands.Command.{Command}
use Rattle.calcdb.specs.declared.thread_commands.ThreadCommand.{ThreadCommand}
use Rattle.calcdb.specs.declared.scripts.ScriptFault.{ScriptFault}

-- a script: its procedures, and its commands in order
pub record Script (L : Type 0) : Type 0 where
  pub catalog : List Procedure
  pub commands : L

-- what lines have said: the commands, with the number of each procedure by its name
pub record Commands (L : Type 0) : Type 0 where
  pub names : Names
  pub list : L

-- where a line's words add a command so
module _ {L : Type 0} (added : Names → L → List Bytes → Option L) where
  abbrev pub with_command : Commands L → List Bytes → Option (Commands L)
  with_command s ws = added s.names s.list ws >>= λ l. Some (record s { list = l })

  abbrev pub commands_after_words : Commands L → List Bytes → Option (Commands L)
  commands_after_words s ws = if is_skipped ws then Some s else with_command s ws

  -- the commands after one line more
  abbrev pub commands_after : Commands L → Bytes → Option (Commands L)
  commands_after s line = if all_pass is_allowed line then commands_after_words s (words line) else None

-- the script with this preamble, or the fault of a line behind it
abbrev pub script_after : {L : Type 0} → (Names → L → List Bytes → Option L) → L → Preamble → Result (Script L) ScriptFault
script_after added none p =
    elim (after_lines (commands_after added) (record { names = p.names; list = none }) p.line p.left) [ Ok s ↦ Ok (record { catalog = p.catalog; commands = s.list }) | Err e ↦ Err e ]

-- the script that a text is, or its fault
abbrev pub script_of : {L : Type 0} → (Names → L → List Bytes → Option L) → L → Bytes → Result (Script L) ScriptFault
script_of added none text = elim (preamble_of text) [ Ok p ↦ script_after added none p | Err e ↦ Err e ]

-- a script of commands that are carried out one after another
abbrev pub Schedule : Type 0
Schedule = Script (List (Command (List Bytes)))

abbrev pub schedule_of : Bytes → Result Schedule ScriptFault
schedule_of text = script_of (with_more command_of) [] text

-- a script of calls and checkpoints that are made in threads
abbrev pub ThreadScript : Type 0
ThreadScript = Script (List (ThreadCommand (List Bytes)))

abbrev pub thread_script_of : Bytes → Result ThreadScript ScriptFault
thread_script_of text = script_of (with_more thread_command_of) [] text
