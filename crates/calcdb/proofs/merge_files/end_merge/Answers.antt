use Rattle.std.proofs.Common.{◌≡◌, inl, refl}
use Rattle.std.proofs.lemmas.Result.{IfErr-weaker, IfOk-weaker}
use Rattle.procedure.specs.Bytes.{Bytes}
use Rattle.calcdb.specs.Merging.{IsMergeFault, IsMergeHeader}
use Rattle.calcdb.specs.Output.{header_line}
use Rattle.calcdb.specs.Refusing.{no_memory}
use Rattle.calcdb.specs.declared.faults.Fault.TheVariants as fault
use Rattle.calcdb.proofs.Declined.{declined, fails_wider, suits_declined, suits_header}
use Rattle.calcdb.proofs.merge_files.end_merge.Goals as goal

pub returns-in-Err-clause-fault : goal.returns-in-Err-clause-fault
returns-in-Err-clause-fault g c = λ files taken.
    declined (IsMergeFault files) (IsMergeHeader files) (g.W.Write.contents c.args.writer.now) (g.W.Write.contents c.refuse.new.writer) (fault.Refused c.in-Err.reason) c.refuse.result
    tt (c.in-Err.ensures.err files taken) (inl refl) c.refuse.ensures

pub returns-in-Err-clause-only_fault : goal.returns-in-Err-clause-only_fault
returns-in-Err-clause-only_fault g c = λ files says taken h.
    suits_declined c.refuse.result (g.W.Write.contents c.args.writer.now) (g.W.Write.contents c.refuse.new.writer) c.in-Err.reason says (c.in-Err.ensures.only files says taken h) c.refuse.ensures

pub returns-in-Ok-clause-image : goal.returns-in-Ok-clause-image
returns-in-Ok-clause-image g c = λ files taken. IfOk-weaker c.with_header.result _ _ (λ i h. rw h.0 (c.in-Ok.ensures.ok files taken, h.1)) c.with_header.ensures.ok

pub returns-in-Ok-clause-only_image : goal.returns-in-Ok-clause-only_image
returns-in-Ok-clause-only_image g c = λ files says taken h. IfOk-weaker c.with_header.result _ _ (λ i made. rw made.0 (c.in-Ok.ensures.only files says taken h)) c.with_header.ensures.ok

pub returns-in-Ok-clause-only_fault : goal.returns-in-Ok-clause-only_fault
returns-in-Ok-clause-only_fault g c = λ files says taken h.
    IfErr-weaker c.with_header.result _ _
    (λ f. suits_header f (header_line c.in-Ok.image) (g.W.Write.contents c.args.writer.now) (g.W.Write.contents c.with_header.new.writer) says)
    c.with_header.ensures.err

pub returns-in-Ok-clause-fault : goal.returns-in-Ok-clause-fault
returns-in-Ok-clause-fault g c = λ files taken.
    let image = c.in-Ok.image in
    IfErr-weaker c.with_header.result _ _
    (fails_wider (λ f. f ≡ no_memory) (IsMergeFault files) (λ (text : Bytes). text ≡ header_line image) (IsMergeHeader files) (λ f is. rw is (inl refl))
    (λ text is. (image, c.in-Ok.ensures.ok files taken, is))
    (g.W.Write.contents c.args.writer.now) (g.W.Write.contents c.with_header.new.writer))
    c.with_header.ensures.err
