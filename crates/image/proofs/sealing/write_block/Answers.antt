use Rattle.std.proofs.Common.{◌+◌, ◌++◌, length, ap, ◌∙◌}
use Rattle.std.specs.Vec.{vec_capacity, vec_len}
use Rattle.sha2.proofs.Facts256.{length-sha256}
use Rattle.sha2.specs.Sha256.{sha256}
use Rattle.procedure.specs.Bytes.{Bytes}
use Rattle.image.specs.ImageBytes.{entries_bytes}
use Rattle.image.proofs.Written.{at_err, digest_is, digest_then, less_than_more, no_room, part_within}
use Rattle.image.proofs.sealing.write_block.Goals as goal

pub returns-in_err-write_entries-clause-full : goal.returns-in_err-write_entries-clause-full
returns-in_err-write_entries-clause-full g c =
    at_err c.from_residual.result
    (less_than_more (vec_capacity c.args.out.now) (vec_len c.args.out.now + length (entries_bytes c.args.entries.now)) 32 c.in_err-write_entries.ensures.full)

pub slice_bounds-chained_digest-count : goal.slice_bounds-chained_digest-count
slice_bounds-chained_digest-count g c = part_within _ _ _ _ c.in_ok-write_entries.ensures.bytes (c.len-start.ensures ∙ c.args.out.now.ok.0) _ c.deref.ensures.value

pub returns-in_err-extend_from_slice-clause-full : goal.returns-in_err-extend_from_slice-clause-full
returns-in_err-extend_from_slice-clause-full g c =
    let out = c.args.out.now in
    let mid = c.write_entries.new.out in
    at_err c.from_residual-in_err-extend_from_slice.result
    (no_room out.items mid.items (entries_bytes c.args.entries.now) (vec_len out) c.in_ok-write_entries.ensures.bytes out.ok.0
    (vec_len mid) (length c.chained_digest-digest.result) 32 (vec_capacity out) (vec_capacity mid) (ap (λ (d : Bytes). length d) c.chained_digest-digest.ensures ∙ length-sha256 _) mid.ok.0
    c.in_ok-write_entries.ensures.capacity c.in_err-extend_from_slice.ensures.full)

pub returns-clause-digest : goal.returns-clause-digest
returns-clause-digest g c =
    digest_is _ _ _ _ c.in_ok-write_entries.ensures.bytes (c.len-start.ensures ∙ c.args.out.now.ok.0) (λ (x : Bytes). sha256 (c.args.before.now ++ x)) _ _ c.deref.ensures.value
    c.chained_digest-digest.ensures

pub returns-clause-bytes : goal.returns-clause-bytes
returns-clause-bytes g c =
    digest_then _ _ _ _ c.in_ok-write_entries.ensures.bytes (c.len-start.ensures ∙ c.args.out.now.ok.0) (λ (x : Bytes). sha256 (c.args.before.now ++ x)) _ _ _ c.deref.ensures.value
    c.chained_digest-digest.ensures c.in_ok-extend_from_slice.ensures.items
