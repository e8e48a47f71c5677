use Rattle.std.proofs.Common.{◌≡◌, ℕ, zero, suc, ◌<◌, false, length, sym, true≢false, arith}
use Rattle.std.specs.Prelude.{◌==◌}
use Rattle.image.proofs.Rooms.{fits_all}
use Rattle.image.proofs.streams.longest_block.Goals as goal

some_left : (n : ℕ) → false ≡ (n == 0) → 0 < n
some_left zero none = absurd (true≢false (sym none))
some_left (suc n) some = omega arith

pub loop-rest-preserved : goal.loop-rest-preserved
loop-rest-preserved g c = λ most le left.
    c.loop-rest.invariant most (omega (arith, le, c.max-longest.ensures))
    (fits_all most c.loop-rest.rest.now c.first_block.result.0.now c.first_block.result.1.now (some_left (length c.loop-rest.rest.now) c.loop-rest-test.ensures)
    c.first_block.ensures.block c.first_block.ensures.after
    (omega (arith, le, c.max-longest.ensures, c.block_length.ensures)) left)
