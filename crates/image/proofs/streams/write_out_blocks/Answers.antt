use Rattle.std.proofs.Common.{arith, ◌≡◌, ◌≤◌, ℕ, length, sym, subst}
use Rattle.std.proofs.lemmas.Result.{err_from_is_err_and}
use Rattle.std.specs.Prelude.{IfErr}
use Rattle.std.specs.Vec.{vec_capacity}
use Rattle.procedure.specs.Bytes.{Bytes}
use Rattle.procedure.specs.declared.limits.TheConstants.{VALUE_BYTES}
use Rattle.image.specs.ImageBytes.{IsWithin, block_count, blocks_bytes}
use Rattle.procedure.specs.declared.streams.WriteError.TheVariants.{WriteFault}
use Rattle.image.proofs.Blocks.{all_parts, block_split, no_blocks, none_unfit, some_left}
use Rattle.procedure.proofs.WriteProgress.{Gone, all_gone, begun_on, more_gone, nothing_gone}
use Rattle.image.proofs.Results.{err_of}
use Rattle.image.proofs.Rooms.{fits_first}
use Rattle.image.proofs.streams.write_out_blocks.Goals as goal

no_less_than : (n : ℕ) → n ≤ n
no_less_than n = omega arith

pub write_out_block-requires : goal.write_out_block-requires
write_out_block-requires g c =
    let l = c.loop-rest in
    let room = fits_first (vec_capacity c.args.buffer.now) l.rest.now c.first_block.result.0.now c.first_block.result.1.now
    (some_left c.is_empty.result l.rest.now c.is_empty.ensures c.loop-rest-test.true) c.first_block.ensures.block c.first_block.ensures.after l.invariant.room in
    omega (arith, room.0, l.invariant.capacity)

pub loop-rest-init : goal.loop-rest-init
loop-rest-init g c = record {
  gone = nothing_gone (g.W.Write.contents c.args.writer.now) (blocks_bytes (block_count (length c.args.entries.now)) c.args.before c.args.entries.now);
  room = c.requires;
  capacity = no_less_than (vec_capacity c.args.buffer.now);
  fits = λ all. all;
}

pub returns-in_err-digest-clause-err : goal.returns-in_err-digest-clause-err
returns-in_err-digest-clause-err g c =
    let p = err_from_is_err_and c.from_residual.result c.from_residual.ensures.1 in
    let l = c.loop-rest in
    let some = some_left c.is_empty.result l.rest.now c.is_empty.ensures c.loop-rest-test.true in
    rw p.1 (begun_on _ _ _ _ _ _ _ l.invariant.gone (block_split l.digest _ _ _ some c.first_block.ensures.block c.first_block.ensures.after) c.in_err-digest.ensures.err)

pub loop-rest-preserved : goal.loop-rest-preserved
loop-rest-preserved g c =
    let contents = g.W.Write.contents in
    let l = c.loop-rest in
    let es = l.rest.now in
    let b = c.first_block.result.0.now in
    let r = c.first_block.result.1.now in
    let text = blocks_bytes (block_count (length c.args.entries.now)) c.args.before c.args.entries.now in
    let some = some_left c.is_empty.result es c.is_empty.ensures c.loop-rest-test.true in
    record {
      gone =
          subst (λ (d : Bytes). Gone (contents c.args.writer.now) (contents c.write_out_block.new.writer) text (blocks_bytes (block_count (length r)) d r))
          (sym c.in_ok-digest.ensures.digest)
          (more_gone _ _ _ _ _ _ _ l.invariant.gone (block_split l.digest es b r some c.first_block.ensures.block c.first_block.ensures.after) c.in_ok-digest.ensures.ok);
      room = (fits_first _ es b r some c.first_block.ensures.block c.first_block.ensures.after l.invariant.room).1;
      capacity = omega (arith, l.invariant.capacity, c.in_ok-digest.ensures.capacity);
      fits = λ left_fit. l.invariant.fits (all_parts (IsWithin VALUE_BYTES) es b r 64 c.first_block.ensures.block c.first_block.ensures.after c.in_ok-digest.ensures.fits left_fit);
    }

pub loop-rest-smaller : goal.loop-rest-smaller
loop-rest-smaller g c = c.first_block.ensures.fewer (some_left c.is_empty.result c.loop-rest.rest.now c.is_empty.ensures c.loop-rest-test.true)

pub returns-in_err-digest-clause-fault : goal.returns-in_err-digest-clause-fault
returns-in_err-digest-clause-fault g c = err_of (λ r. IfErr r (λ e. e ≡ WriteFault)) c.from_residual.result c.in_err-digest.field-0.0 c.from_residual.ensures.1 c.in_err-digest.ensures.fault

pub returns-clause-ok : goal.returns-clause-ok
returns-clause-ok g c =
    let l = c.loop-rest in
    let contents = g.W.Write.contents in
    let text = blocks_bytes (block_count (length c.args.entries.now)) c.args.before c.args.entries.now in
    all_gone (contents c.args.writer.now) (contents l.writer) text
    (subst (Gone (contents c.args.writer.now) (contents l.writer) text) (no_blocks c.is_empty.result l.rest.now c.is_empty.ensures c.loop-rest-test.false l.digest) l.invariant.gone)

pub returns-clause-fits : goal.returns-clause-fits
returns-clause-fits g c = c.loop-rest.invariant.fits (none_unfit c.is_empty.result c.loop-rest.rest.now c.is_empty.ensures c.loop-rest-test.false (IsWithin VALUE_BYTES))
