use Rattle.std.proofs.Common.{◌≡◌, [], ◌++◌, List, length}
use Rattle.std.specs.Io.KnownBytes.{Appends}
use Rattle.procedure.specs.Bytes.{Bytes}
use Rattle.calcdb.specs.Journals.{taken_of}
use Rattle.calcdb.specs.Runs.{Carried, CarriesAll, Images}
use Rattle.calcdb.specs.declared.commands.Command.{Command}
use Rattle.calcdb.proofs.run.run_commands.Given as goal

-- the commands that were carried out and those that are left are all of them
abbrev pub invariant-loop-command : goal.invariant-loop-command
invariant-loop-command g l = record {
  front : List (Command (List Bytes));
  text : Bytes;
  images : Images;
  has : g.P.Sink.Has l.sink images;
  parts : l.fn.commands ≡ front ++ l.commands;
  carried : Carried {A = g.row.A.Denot} (CarriesAll l.initial.core.catalog front) l.initial.core l.core text images;
  sent : Appends (g.W.Write.contents l.initial.writer) (g.W.Write.contents l.writer) text;
  catalog : l.core.catalog ≡ l.initial.core.catalog;
  kept : (start : g.row.J.Denot) → g.J.Journal.Has start l.initial.journal (taken_of l.initial.core []) → g.J.Journal.Has start l.journal (taken_of l.core images);
}

abbrev pub decreases-loop-command : goal.decreases-loop-command
decreases-loop-command g l = length l.commands
