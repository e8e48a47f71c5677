use Rattle.std.proofs.Common.{take}
use Rattle.std.specs.Io.KnownBytes.{Appends}
use mathlib.Core.List.{IsPrefix}
use Rattle.procedure.specs.Bytes.{Bytes}
use Rattle.calcdb.specs.ThreadRuns.{ShowsEach}
use Rattle.calcdb.proofs.threads.look_each.Given as goal

-- the lines of the keys so far were written
abbrev pub invariant-loop-key : goal.invariant-loop-key
invariant-loop-key g l = record {
  text : Bytes;
  shows : ShowsEach l.fn.reader.seen (take l.key-index l.keys) text;
  sent : Appends (g.W.Write.contents l.fn.writer) (g.W.Write.contents l.writer) text;
  later : IsPrefix l.fn.reader.seen l.reader.seen;
}
