use Rattle.std.proofs.Common.{◌≡◌, ◌+◌, ◌≤◌}
use Rattle.image.specs.Fronts.{behind_ok, blocks_at}
use Rattle.image.specs.ImageBytes.{block_count}
use Rattle.image.proofs.fronts.past_blocks.Given as goal

-- what stands behind the blocks that are left stands behind all
abbrev pub invariant-loop-left : goal.invariant-loop-left
invariant-loop-left l = record {
  whole : behind_ok (blocks_at (block_count l.left) l.block l.left l.digest l.rest) ≡ behind_ok (blocks_at (block_count l.fn.count) 0 l.fn.count l.fn.digest l.fn.bytes);
  counted : l.block + l.left ≤ l.fn.count;
}

abbrev pub decreases-loop-left : goal.decreases-loop-left
decreases-loop-left l = l.left
