use Rattle.std.proofs.Common.{refl, ◌++◌, length}
use Rattle.procedure.specs.declared.limits.TheConstants.{VALUE_BYTES}
use Rattle.image.specs.ImageBytes.{IsWithin, block_count, blocks_bytes}
use Rattle.image.proofs.Blocks.{all_out, all_parts, block_out, none_unfit, some_left}
use Rattle.image.proofs.sealing.write_blocks.Goals as goal

pub loop-rest-preserved : goal.loop-rest-preserved
loop-rest-preserved g c =
    let es = c.loop-rest.rest.now in
    record {
      bytes =
          block_out c.loop-rest.digest c.in_ok-digest.digest es c.first_block.result.0.now c.first_block.result.1.now c.loop-rest.out.items c.write_block.new.out.items
          (c.args.out.now.items ++ blocks_bytes (block_count (length c.args.entries.now)) c.args.before c.args.entries.now)
          (some_left c.is_empty.result es c.is_empty.ensures c.loop-rest-test.true) c.first_block.ensures.block c.first_block.ensures.after c.in_ok-digest.ensures.bytes c.in_ok-digest.ensures.digest
          c.loop-rest.invariant.bytes;
      fits = λ rest.
          c.loop-rest.invariant.fits (all_parts (IsWithin VALUE_BYTES) es c.first_block.result.0.now c.first_block.result.1.now 64 c.first_block.ensures.block c.first_block.ensures.after
          c.in_ok-digest.ensures.fits rest);
    }

pub loop-rest-init : goal.loop-rest-init
loop-rest-init g c = record { bytes = refl; fits = λ all. all }

pub loop-rest-smaller : goal.loop-rest-smaller
loop-rest-smaller g c = c.first_block.ensures.fewer (some_left c.is_empty.result c.loop-rest.rest.now c.is_empty.ensures c.loop-rest-test.true)

pub returns-clause-bytes : goal.returns-clause-bytes
returns-clause-bytes g c =
    all_out c.is_empty.result c.loop-rest.rest.now c.is_empty.ensures c.loop-rest-test.false c.loop-rest.digest c.loop-rest.out.items
    (c.args.out.now.items ++ blocks_bytes (block_count (length c.args.entries.now)) c.args.before c.args.entries.now) c.loop-rest.invariant.bytes

pub returns-clause-fits : goal.returns-clause-fits
returns-clause-fits g c = c.loop-rest.invariant.fits (none_unfit c.is_empty.result c.loop-rest.rest.now c.is_empty.ensures c.loop-rest-test.false (IsWithin VALUE_BYTES))
