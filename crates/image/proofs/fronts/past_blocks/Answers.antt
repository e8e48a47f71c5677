use Rattle.std.proofs.Common.{sym, ◌∙◌, arith}
use Rattle.image.proofs.FrontLoops.{all_blocks, block_past, no_block}
use Rattle.image.proofs.fronts.past_blocks.Goals as goal

pub returns-in-None : goal.returns-in-None
returns-in-None c =
    let l = c.loop-left in
    sym l.invariant.whole ∙ no_block l.left c.min.result l.block l.digest l.rest.now (omega (arith, c.loop-left-test.true)) c.min.ensures c.in-None.ensures

pub loop-left-preserved : goal.loop-left-preserved
loop-left-preserved c =
    let l = c.loop-left in
    record {
      whole =
          block_past l.left c.min.result c.saturating_sub-left.result l.block l.digest c.past_block.new.digest l.rest.now c.in-Some.behind.now
          (omega (arith, c.loop-left-test.true)) c.min.ensures c.saturating_sub-left.ensures c.in-Some.ensures
          ∙ l.invariant.whole;
      counted = omega (arith, l.invariant.counted, c.loop-left-test.true, c.saturating_sub-left.ensures);
    }

pub returns : goal.returns
returns c = sym c.loop-left.invariant.whole ∙ all_blocks c.loop-left.left c.loop-left.block c.loop-left.digest c.loop-left.rest.now (omega (arith, c.loop-left-test.false))
