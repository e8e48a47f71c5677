use Rattle.std.proofs.Common.{◌-◌, ◌^◌, length}
use Rattle.std.specs.Io.KnownBytes.{Consumes}
use Rattle.procedure.proofs.streams.read_past.Given as goal

-- what was read so far
abbrev pub invariant-loop-chunk : goal.invariant-loop-chunk
invariant-loop-chunk g l = Consumes (g.R.Read.remaining l.fn.reader) (g.R.Read.remaining l.reader) l.text.items

abbrev pub decreases-loop-chunk : goal.decreases-loop-chunk
decreases-loop-chunk g l = 2 ^ 64 - length l.text.items
