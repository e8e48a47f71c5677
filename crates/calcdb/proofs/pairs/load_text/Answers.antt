use Rattle.std.proofs.Common.{◌≡◌, ◌≢◌, refl, subst, sym}
use Rattle.std.proofs.lemmas.Result.{IfErr-weaker}
use Rattle.procedure.specs.Bytes.{Bytes}
use Rattle.calcdb.proofs.Declined.{declined, fails_wider}
use Rattle.calcdb.proofs.FailedReads.{in_header, in_line, text_not_read}
use Rattle.calcdb.specs.Outcomes.{HasLine}
use Rattle.calcdb.specs.Output.{header_line}
use Rattle.calcdb.specs.Pairs.{IsLoadFault, IsLoadHeader, image_of_pairs}
use Rattle.calcdb.specs.Refusing.{no_memory, text_fault}
use Rattle.calcdb.proofs.Loading.{load_fault, text_has_line}
use Rattle.calcdb.specs.declared.faults.Fault.TheVariants as fault
use Rattle.calcdb.proofs.pairs.load_text.Goals as goal

pub returns-in-Ok-clause-err : goal.returns-in-Ok-clause-err
returns-in-Ok-clause-err g c =
    let says = image_of_pairs c.args.text.now in
    let image = c.in-Ok.image in
    IfErr-weaker c.with_header.result _ _
    (fails_wider (λ f. f ≡ no_memory) (IsLoadFault says) (λ (text : Bytes). text ≡ header_line image) (IsLoadHeader says) (λ f is. rw is refl) (λ text is. (image, c.in-Ok.ensures, is))
    (g.W.Write.contents c.args.writer.now) (g.W.Write.contents c.with_header.new.writer))
    c.with_header.ensures.err

pub returns-in-Err-clause-err : goal.returns-in-Err-clause-err
returns-in-Err-clause-err g c =
    let says = image_of_pairs c.args.text.now in
    let is : c.from.result ≡ text_fault c.in-Err.fault = c.from.ensures in
    declined (IsLoadFault says) (IsLoadHeader says) (g.W.Write.contents c.args.writer.now) (g.W.Write.contents c.refuse.new.writer) c.from.result c.refuse.result
    (subst HasLine (sym is) (text_has_line c.in-Err.fault)) (subst (IsLoadFault says) (sym is) (load_fault says c.in-Err.fault c.in-Err.ensures)) refl c.refuse.ensures

pub returns-in-Ok-clause-unread : goal.returns-in-Ok-clause-unread
returns-in-Ok-clause-unread g c =
    IfErr-weaker c.with_header.result _ _ (λ f. in_header (g.W.Write.contents c.args.writer.now) (g.W.Write.contents c.with_header.new.writer) f (header_line c.in-Ok.image))
    c.with_header.ensures.err

pub returns-in-Err-clause-unread : goal.returns-in-Err-clause-unread
returns-in-Err-clause-unread g c =
    let is : c.from.result ≡ text_fault c.in-Err.fault = c.from.ensures in
    in_line (g.W.Write.contents c.args.writer.now) (g.W.Write.contents c.refuse.new.writer) c.from.result c.refuse.result
    (subst (λ f. f ≢ fault.Read) (sym is) (text_not_read c.in-Err.fault)) c.refuse.ensures
