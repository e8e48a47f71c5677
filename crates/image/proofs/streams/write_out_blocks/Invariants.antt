use Rattle.std.proofs.Common.{◌≤◌, length}
use Rattle.std.specs.List.{AllByRecursion}
use Rattle.std.specs.Vec.{vec_capacity}
use Rattle.procedure.specs.declared.limits.TheConstants.{VALUE_BYTES}
use Rattle.image.specs.ImageBytes.{IsWithin, block_count, blocks_bytes}
use Rattle.image.specs.Streams.{BlocksFit}
use Rattle.procedure.proofs.WriteProgress.{Gone}
use Rattle.image.proofs.streams.write_out_blocks.Given as goal

-- what went out and the blocks of the entries that are left make the whole
abbrev pub invariant-loop-rest : goal.invariant-loop-rest
invariant-loop-rest g l = record {
  gone : Gone (g.W.Write.contents l.fn.writer) (g.W.Write.contents l.writer) (blocks_bytes (block_count (length l.entries)) l.fn.before l.entries)
      (blocks_bytes (block_count (length l.rest)) l.digest l.rest);
  room : BlocksFit (vec_capacity l.fn.buffer) (block_count (length l.rest)) l.rest;
  capacity : vec_capacity l.fn.buffer ≤ vec_capacity l.buffer;
  fits : AllByRecursion (IsWithin VALUE_BYTES) l.rest → AllByRecursion (IsWithin VALUE_BYTES) l.entries;
}

abbrev pub decreases-loop-rest : goal.decreases-loop-rest
decreases-loop-rest g l = length l.rest
