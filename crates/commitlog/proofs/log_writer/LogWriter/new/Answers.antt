use Rattle.std.proofs.Common.{◌≡◌, ◌++◌, [], Option, sym, subst, ap, ◌∙◌, append_assoc}
use Rattle.std.proofs.lemmas.List.{append-nil}
use Rattle.std.specs.Io.KnownBytes.{Appends}
use Rattle.sha2.specs.Sha256.{sha256}
use Rattle.procedure.specs.Bytes.{Bytes}
use Rattle.procedure.specs.Streams.{IsBegun}
use Rattle.commitlog.specs.declared.formats.Version.TheVariants.{Two}
use Rattle.commitlog.specs.LogBytes.{log_header_bytes, magic}
use Rattle.commitlog.specs.PieceLaws.{sends_more}
use Rattle.commitlog.proofs.log_writer.LogWriter.new.Goals as goal

pub returns-then-tap-clause-err : goal.returns-then-tap-clause-err
returns-then-tap-clause-err g c =
    let h = c.args.header.now in
    let new = g.W.Write.contents c.flush.new.self.writer in
    let all = sends_more _ _ _ _ _ _ _ _ c.take.ensures.sent (sends_more _ _ _ _ _ _ _ _ c.take-2.ensures.sent (sends_more _ _ _ _ _ _ _ _ c.take-3.ensures.sent c.flush.ensures)) in
    let text : c.magic.result ++ (h.catalog ++ (h.opening ++ [])) ≡ log_header_bytes Two h =
    ap (λ (x : Bytes). x ++ (h.catalog ++ (h.opening ++ []))) c.magic.ensures ∙ ap (λ (x : Bytes). magic Two ++ (h.catalog ++ x)) (append-nil h.opening) in
    subst (λ (x : Option Bytes). IsBegun x new (log_header_bytes Two h)) c.new-tap.ensures.writer (subst (IsBegun (g.W.Write.contents c.new-tap.result.writer) new) text all.begun)

pub returns-clause-ok : goal.returns-clause-ok
returns-clause-ok g c =
    let h = c.args.header.now in
    let new = g.W.Write.contents c.flush.new.self.writer in
    let all = sends_more _ _ _ _ _ _ _ _ c.take.ensures.sent (sends_more _ _ _ _ _ _ _ _ c.take-2.ensures.sent (sends_more _ _ _ _ _ _ _ _ c.take-3.ensures.sent c.flush.ensures)) in
    let text : c.magic.result ++ (h.catalog ++ (h.opening ++ [])) ≡ log_header_bytes Two h ++ [] =
    ap (λ (x : Bytes). x ++ (h.catalog ++ (h.opening ++ []))) c.magic.ensures ∙ ap (λ (x : Bytes). magic Two ++ (h.catalog ++ x)) (append-nil h.opening) ∙ sym (append-nil (log_header_bytes Two h)) in
    let went : Appends (g.W.Write.contents c.new-tap.result.writer) new (log_header_bytes Two h ++ []) = subst (Appends (g.W.Write.contents c.new-tap.result.writer) new) text (all.whole (λ e. absurd (cc))) in
    record {
      bytes = subst (λ (x : Option Bytes). Appends x new (log_header_bytes Two h ++ [])) c.new-tap.ensures.writer went;
      digest = c.finalize_reset-digest.ensures.digest _ (c.take-3.ensures.hashed _ (c.take-2.ensures.hashed _ (c.take.ensures.hashed [] c.new-tap.ensures.empty)))
          ∙ ap sha256 (append_assoc c.magic.result h.catalog h.opening ∙ ap (λ (x : Bytes). x ++ (h.catalog ++ h.opening)) c.magic.ensures);
      sound = λ e. absurd (cc);
    }
