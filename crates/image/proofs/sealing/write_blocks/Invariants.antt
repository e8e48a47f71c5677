use Rattle.std.proofs.Common.{◌≡◌, ◌++◌, length}
use Rattle.std.specs.List.{AllByRecursion}
use Rattle.procedure.specs.declared.limits.TheConstants.{VALUE_BYTES}
use Rattle.image.specs.ImageBytes.{IsWithin, block_count, blocks_bytes}
use Rattle.image.proofs.sealing.write_blocks.Given as goal

-- what is out and the blocks of the entries that are left make the whole
abbrev pub invariant-loop-rest : goal.invariant-loop-rest
invariant-loop-rest g l = record {
  bytes : l.out.items ++ blocks_bytes (block_count (length l.rest)) l.digest l.rest ≡ l.fn.out.items ++ blocks_bytes (block_count (length l.entries)) l.fn.before l.entries;
  fits : AllByRecursion (IsWithin VALUE_BYTES) l.rest → AllByRecursion (IsWithin VALUE_BYTES) l.entries;
}

abbrev pub decreases-loop-rest : goal.decreases-loop-rest
decreases-loop-rest g l = length l.rest
