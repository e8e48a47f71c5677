use Rattle.std.proofs.Common.{◌≡◌, arith, List, [], length, refl, sym, subst, ◌∙◌}
use Rattle.std.proofs.lemmas.Result.{err_from_is_err_and}
use Rattle.std.proofs.lemmas.List.{append-nil}
use Rattle.std.specs.Io.KnownBytes.{Appends}
use Rattle.std.proofs.KnownBytes.{Appends-trans}
use Rattle.std.specs.List.{AllByRecursion}
use Rattle.std.specs.Prelude.{IfErr}
use Rattle.procedure.specs.declared.limits.TheConstants.{VALUE_BYTES}
use Rattle.procedure.specs.declared.streams.WriteError.TheVariants.{WriteFault}
use Rattle.std.specs.Vec.{vec_capacity}
use Rattle.sha2.specs.Sha256.{sha256}
use Rattle.procedure.specs.Bytes.{Bytes}
use Rattle.image.specs.ImageBytes.{IsWithin, block_count, blocks_bytes, image_header_bytes, signed, version_2}
use Rattle.image.specs.Images.{Entry, Image}
use Rattle.procedure.specs.Streams.{IsBegun}
use Rattle.image.specs.Streams.{BlocksFit}
use Rattle.image.proofs.Rooms.{fits_more}
use Rattle.image.specs.declared.sealing.TheConstants.{MAGIC_V2}
use Rattle.procedure.proofs.WriteProgress.{begun, begun_on, lent, more_gone, no_memory, nothing_gone, on_err}
use Rattle.procedure.proofs.Results.{if_done}
use Rattle.image.proofs.Results.{err_of}
use Rattle.image.proofs.Written.{at_err}
use Rattle.image.proofs.streams.seal_to.Goals as goal

pub write_out_blocks-requires : goal.write_out_blocks-requires
write_out_blocks-requires g c =
    let room = vec_capacity c.write_signed_header.new.out in
    let one : c.entries.result.now ≡ c.entries-2.result.now = c.entries.ensures.value ∙ sym c.entries-2.ensures.value in
    let fits = fits_more c.longest_block.result room (block_count (length c.entries.result.now)) c.entries.result.now
    (omega (arith, c.in_ok-buffer.ensures.capacity, c.write_signed_header.ensures.capacity))
    c.longest_block.ensures in
    subst (λ (es : List Entry). BlocksFit room (block_count (length es)) es) one fits

abbrev front : Image → Bytes
front i = signed (image_header_bytes MAGIC_V2 i)

abbrev back : Image → Bytes
back i = blocks_bytes (block_count (length i.entries)) (sha256 (image_header_bytes MAGIC_V2 i)) i.entries

-- the blocks of the entries that were lent
blocks_are : (i : Image) (es : List Entry) (digest : Bytes) → es ≡ i.entries → digest ≡ sha256 (image_header_bytes MAGIC_V2 i) → blocks_bytes (block_count (length es)) digest es ≡ back i
blocks_are i es digest same is k = blocks_bytes (block_count (length (same k))) (is k) (same k)

pub returns-in_err-write_out-clause-err : goal.returns-in_err-write_out-clause-err
returns-in_err-write_out-clause-err g c =
    let p = err_from_is_err_and c.from_residual-in_err-write_out.result c.from_residual-in_err-write_out.ensures.1 in
    let i = c.args.image.now in
    let written = lent (front i) _ _ c.in_ok-buffer.ensures.items c.in_ok-digest.ensures.bytes _ c.as_slice.ensures.value in
    rw p.1 (begun_on _ _ _ _ _ (front i) (back i) (nothing_gone _ (version_2 i)) refl (subst (IsBegun _ _) written c.in_err-write_out.ensures.err))

pub returns-clause-err : goal.returns-clause-err
returns-clause-err g c =
    let i = c.args.image.now in
    let old = g.W.Write.contents c.args.writer.now in
    let mid = g.W.Write.contents c.write_out.new.writer in
    let new = g.W.Write.contents c.write_out_blocks.new.writer in
    let written = lent (front i) _ _ c.in_ok-buffer.ensures.items c.in_ok-digest.ensures.bytes _ c.as_slice.ensures.value in
    let gone = more_gone old old mid (version_2 i) (version_2 i) (front i) (back i) (nothing_gone old (version_2 i)) refl (subst (Appends old mid) written c.in_ok-write_out.ensures.ok) in
    let part = blocks_are i _ _ c.entries-2.ensures.value c.in_ok-digest.ensures.digest in
    on_err c.write_out_blocks.result (λ b. begun_on old mid new (version_2 i) (back i) (back i) [] gone (sym (append-nil (back i))) (subst (IsBegun mid new) part b)) c.write_out_blocks.ensures.err

pub returns-in_err-buffer-clause-err : goal.returns-in_err-buffer-clause-err
returns-in_err-buffer-clause-err g c = at_err c.from_residual.result (begun _ _ _ _ (nothing_gone _ (version_2 c.args.image.now)))

pub returns-in_err-digest-clause-err : goal.returns-in_err-digest-clause-err
returns-in_err-digest-clause-err g c = at_err c.from_residual-in_err-digest.result (begun _ _ _ _ (nothing_gone _ (version_2 c.args.image.now)))

pub returns-in_err-write_out-clause-memory : goal.returns-in_err-write_out-clause-memory
returns-in_err-write_out-clause-memory g c = λ m.
    absurd (no_memory c.from_residual-in_err-write_out.result
    (err_of (λ r. IfErr r (λ e. e ≡ WriteFault)) c.from_residual-in_err-write_out.result WriteFault c.from_residual-in_err-write_out.ensures.1 refl) m)

pub returns-clause-memory : goal.returns-clause-memory
returns-clause-memory g c = λ m. absurd (no_memory c.write_out_blocks.result c.write_out_blocks.ensures.fault m)

pub returns-clause-ok : goal.returns-clause-ok
returns-clause-ok g c =
    let i = c.args.image.now in
    let mid = g.W.Write.contents c.write_out.new.writer in
    let written = lent (front i) _ _ c.in_ok-buffer.ensures.items c.in_ok-digest.ensures.bytes _ c.as_slice.ensures.value in
    let part = blocks_are i _ _ c.entries-2.ensures.value c.in_ok-digest.ensures.digest in
    if_done (λ a. Appends-trans _ mid _ (front i) (back i) (subst (Appends _ mid) written c.in_ok-write_out.ensures.ok) (subst (Appends mid _) part a))
    c.write_out_blocks.result c.write_out_blocks.ensures.ok

pub returns-clause-fits : goal.returns-clause-fits
returns-clause-fits g c =
    if_done (λ fits. record {
      lawful = c.entries.ensures.lawful;
      numbers = c.in_ok-digest.ensures.fits;
      entries = subst (λ (es : List Entry). AllByRecursion (IsWithin VALUE_BYTES) es) c.entries-2.ensures.value fits;
    }) c.write_out_blocks.result c.write_out_blocks.ensures.fits
