use Rattle.std.proofs.Common.{ℕ, ◌≤◌, length}
use Rattle.image.specs.ImageBytes.{block_count}
use Rattle.image.specs.Streams.{BlocksFit}
use Rattle.image.proofs.streams.longest_block.Given as goal

-- what the longest block so far and those that are left fit in, all of them fit in
abbrev pub invariant-loop-rest : goal.invariant-loop-rest
invariant-loop-rest g l = (most : ℕ) → l.longest ≤ most → BlocksFit most (block_count (length l.rest)) l.rest → BlocksFit most (block_count (length l.entries)) l.entries

abbrev pub decreases-loop-rest : goal.decreases-loop-rest
decreases-loop-rest g l = length l.rest
