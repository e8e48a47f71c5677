use Rattle.std.proofs.Common.{◌≡◌, [], refl, sym, ap, subst, ◌∙◌}
use Rattle.std.proofs.lemmas.Result.{err_from_is_err_and}
use Rattle.std.proofs.lemmas.List.{append-nil}
use Rattle.std.specs.Io.KnownBytes.{Appends}
use Rattle.sha2.specs.Sha256.{sha256}
use Rattle.procedure.specs.Bytes.{Bytes}
use Rattle.commitlog.specs.declared.formats.Version.TheVariants.{Two}
use Rattle.commitlog.specs.LogBytes.{log_header_bytes, first_digest, records_bytes, log_bytes}
use Rattle.procedure.specs.Streams.{IsBegun}
use Rattle.procedure.proofs.WriteProgress.{lent, nothing_gone, more_gone, begun_on, on_err}
use Rattle.commitlog.proofs.streams.encode_to.Goals as goal

pub returns-in_err-write_out-clause-err : goal.returns-in_err-write_out-clause-err
returns-in_err-write_out-clause-err g c =
    let p = err_from_is_err_and c.from_residual-in_err-write_out.result c.from_residual-in_err-write_out.ensures.1 in
    let h = c.args.header.now in
    let rs = c.args.records.now in
    let written = lent (log_header_bytes Two h) _ _ (c.in_ok-reserve.ensures.items ∙ c.new-buffer.ensures.items) c.in_ok-write_header.ensures _ c.as_slice-2.ensures.value in
    rw p.1 (begun_on _ _ _ _ _ _ (records_bytes (first_digest Two h) rs) (nothing_gone _ (log_bytes Two h rs)) refl (subst (IsBegun _ _) written c.in_err-write_out.ensures.err))

pub returns-clause-err : goal.returns-clause-err
returns-clause-err g c =
    let mid = g.W.Write.contents c.write_out.new.writer in
    let new = g.W.Write.contents c.write_out_records.new.writer in
    let h = c.args.header.now in
    let rs = c.args.records.now in
    let left = records_bytes (first_digest Two h) rs in
    let header = lent (log_header_bytes Two h) _ _ (c.in_ok-reserve.ensures.items ∙ c.new-buffer.ensures.items) c.in_ok-write_header.ensures in
    let first : c.digest-digest.result ≡ first_digest Two h = c.digest-digest.ensures ∙ ap sha256 (header _ c.as_slice.ensures.value) in
    let gone = more_gone _ _ mid _ _ _ left (nothing_gone _ (log_bytes Two h rs)) refl (subst (Appends _ mid) (header _ c.as_slice-2.ensures.value) c.in_ok-write_out.ensures.ok) in
    on_err c.write_out_records.result (λ b. begun_on _ mid new _ left left [] gone (sym (append-nil left)) (subst (λ (d : Bytes). IsBegun mid new (records_bytes d rs)) first b))
    c.write_out_records.ensures.err
