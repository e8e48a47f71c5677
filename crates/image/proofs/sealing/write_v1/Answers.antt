use Rattle.std.proofs.Common.{◌≡◌, List, ◌++◌, ap, subst, ◌∙◌}
use Rattle.std.specs.List.{AllByRecursion}
use Rattle.sha2.specs.Sha256.{sha256}
use Rattle.procedure.specs.Bytes.{Bytes}
use Rattle.procedure.specs.declared.limits.TheConstants.{VALUE_BYTES}
use Rattle.image.specs.Images.{Entry}
use Rattle.image.specs.ImageBytes.{IsWithin, entries_bytes, image_header_bytes}
use Rattle.image.specs.declared.sealing.TheConstants.{MAGIC_V1}
use Rattle.procedure.proofs.Passes.{written_then}
use Rattle.image.proofs.Written.{digest_then, part_within}
use Rattle.image.proofs.sealing.write_v1.Goals as goal

entries_written : (out mid new header : Bytes) (es given : List Entry) → mid ≡ out ++ header → new ≡ mid ++ entries_bytes es → es ≡ given → new ≡ out ++ (header ++ entries_bytes given)
entries_written out mid new header es given one two same = written_then out mid new header (entries_bytes es) one two ∙ ap (λ l. out ++ (header ++ entries_bytes l)) same

pub slice_bounds-digest-count : goal.slice_bounds-digest-count
slice_bounds-digest-count g c =
    let wrote = entries_written c.args.out.now.items _ _ (image_header_bytes MAGIC_V1 c.args.image.now) _ _ c.in_ok-write_header.ensures.bytes c.in_ok-write_entries.ensures.bytes c.entries.ensures.value in
    part_within _ _ _ _ wrote (c.len-start.ensures ∙ c.args.out.now.ok.0) _ c.deref.ensures.value

pub returns-clause-bytes : goal.returns-clause-bytes
returns-clause-bytes g c =
    let wrote = entries_written c.args.out.now.items _ _ (image_header_bytes MAGIC_V1 c.args.image.now) _ _ c.in_ok-write_header.ensures.bytes c.in_ok-write_entries.ensures.bytes c.entries.ensures.value in
    digest_then _ _ _ _ wrote (c.len-start.ensures ∙ c.args.out.now.ok.0) sha256 _ _ _ c.deref.ensures.value c.digest-digest.ensures c.in_ok-extend_from_slice.ensures.items

pub returns-clause-numbers : goal.returns-clause-numbers
returns-clause-numbers g c = c.in_ok-write_header.ensures.fits

pub returns-clause-entries : goal.returns-clause-entries
returns-clause-entries g c = subst (λ (l : List Entry). AllByRecursion (IsWithin VALUE_BYTES) l) c.entries.ensures.value c.in_ok-write_entries.ensures.fits
