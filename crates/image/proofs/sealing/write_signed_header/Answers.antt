use Rattle.std.proofs.Common.{◌∙◌}
use Rattle.sha2.specs.Sha256.{sha256}
use Rattle.image.proofs.Written.{digest_is, digest_then, part_within}
use Rattle.image.proofs.sealing.write_signed_header.Goals as goal

pub slice_bounds-digest-count : goal.slice_bounds-digest-count
slice_bounds-digest-count g c = part_within _ _ _ _ c.in_ok-write_header.ensures.bytes (c.len-start.ensures ∙ c.args.out.now.ok.0) _ c.deref.ensures.value

pub returns-clause-digest : goal.returns-clause-digest
returns-clause-digest g c = digest_is _ _ _ _ c.in_ok-write_header.ensures.bytes (c.len-start.ensures ∙ c.args.out.now.ok.0) sha256 _ _ c.deref.ensures.value c.digest-digest.ensures

pub returns-clause-bytes : goal.returns-clause-bytes
returns-clause-bytes g c =
    digest_then _ _ _ _ c.in_ok-write_header.ensures.bytes (c.len-start.ensures ∙ c.args.out.now.ok.0) sha256 _ _ _ c.deref.ensures.value c.digest-digest.ensures c.in_ok-extend_from_slice.ensures.items
