use Rattle.std.proofs.Common.{arith}
use Rattle.std.specs.Vec.{vec_capacity}
use Rattle.procedure.specs.declared.limits.TheConstants.{VALUE_BYTES}
use Rattle.image.specs.EntryBytes.{entry_bytes}
use Rattle.image.specs.ImageBytes.{IsWithin}
use Rattle.std.proofs.lemmas.Result.{err_from_is_err_and}
use Rattle.image.proofs.Rooms.{entry_among}
use Rattle.procedure.proofs.Passes.{written_all, written_more}
use Rattle.image.proofs.Walks.{all_past, all_with}
use Rattle.image.proofs.Written.{no_less}
use Rattle.image.proofs.sealing.write_entries.Goals as goal

pub returns-in_err-write_entry-clause-full : goal.returns-in_err-write_entry-clause-full
returns-in_err-write_entry-clause-full g c =
    let p = err_from_is_err_and c.from_residual.result c.from_residual.ensures.1 in
    let l = c.loop-entry in
    let among = entry_among c.args.entries.now l.entry-index c.entry-item.result l.out.items c.args.out.now.items c.loop-entry-test.true c.entry-item.is l.invariant.bytes in
    rw p.1 (omega (arith, among, l.invariant.capacity, c.in_err-write_entry.ensures.full, l.out.ok.0, c.args.out.now.ok.0))

pub loop-entry-preserved : goal.loop-entry-preserved
loop-entry-preserved g c =
    let l = c.loop-entry in
    let es = c.args.entries.now in
    let e = c.entry-item.result in
    record {
      bytes = written_more es l.entry-index e c.loop-entry-test.true c.entry-item.is entry_bytes _ _ _ l.invariant.bytes c.in_ok-write_entry.ensures.bytes;
      capacity = no_less (vec_capacity c.args.out.now) (vec_capacity l.out) (vec_capacity c.write_entry.new.out) l.invariant.capacity c.in_ok-write_entry.ensures.capacity;
      fits = λ rest. l.invariant.fits (all_with (IsWithin VALUE_BYTES) es l.entry-index e c.loop-entry-test.true c.entry-item.is c.in_ok-write_entry.ensures.fits rest);
    }

pub returns-clause-bytes : goal.returns-clause-bytes
returns-clause-bytes g c =
    let l = c.loop-entry in
    written_all entry_bytes c.args.entries.now l.entry-index _ _ c.loop-entry-test.false l.invariant.bytes

pub returns-clause-fits : goal.returns-clause-fits
returns-clause-fits g c = c.loop-entry.invariant.fits (all_past (IsWithin VALUE_BYTES) c.args.entries.now c.loop-entry.entry-index c.loop-entry-test.false)
