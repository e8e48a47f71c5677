use Rattle.std.proofs.Common.{◌≡◌, ◌++◌, [], length, subst, ap, ◌∙◌}
use Rattle.std.proofs.lemmas.List.{append-nil}
use Rattle.byteorder.specs.Endian.{big_bytes}
use Rattle.sha2.specs.Sha256.{sha256}
use Rattle.procedure.specs.Bytes.{Bytes}
use Rattle.commitlog.specs.LogBytes.{body, next_digest}
use Rattle.commitlog.specs.Pieces.{Sends}
use Rattle.commitlog.specs.PieceLaws.{sends_more}
use Rattle.commitlog.proofs.log_writer.Tap.send_record.Goals as goal

pub returns-clause-sent : goal.returns-clause-sent
returns-clause-sent g c =
    let text = body c.args.record.now in
    let last = next_digest c.args.digest.now c.args.record.now in
    let digest : c.finalize_reset-digest.result ≡ last =
    c.finalize_reset-digest.ensures.digest _ (c.write_body.ensures.hashed _ c.new_with_prefix-self.ensures) ∙ ap (λ (x : Bytes). sha256 (x ++ text)) c.as_slice.ensures in
    let number : c.write_u32.new.buf ≡ big_bytes 4 (length text) = c.write_u32.ensures ∙ ap (big_bytes 4) c.body_length.ensures.length in
    let all = sends_more _ _ _ _ _ _ _ _ c.send.ensures.sent (sends_more _ _ _ _ _ _ _ _ c.write_body.ensures.sent (sends_more _ _ _ _ _ _ _ _ c.send-2.ensures.sent c.flush.ensures)) in
    subst (Sends (g.W.Write.contents c.args.self.now.writer) (g.W.Write.contents c.flush.new.self.writer) c.args.self.now.is_faulty c.flush.new.self.is_faulty)
    (ap (λ (x : Bytes). x ++ (text ++ (c.finalize_reset-digest.result ++ []))) number ∙ ap (λ (x : Bytes). big_bytes 4 (length text) ++ (text ++ x)) (append-nil c.finalize_reset-digest.result ∙ digest)) all
