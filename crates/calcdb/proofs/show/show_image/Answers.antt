use Rattle.std.proofs.Common.{Ok, refl}
use Rattle.std.proofs.lemmas.Result.{on_ok_weaker}
use Rattle.calcdb.specs.Output.{image_text}
use Rattle.calcdb.specs.Showing.{PrintsImage}
use Rattle.calcdb.proofs.Shown.{image_only, refused_ends, refused_image, shown_ends, told_agrees}
use Rattle.calcdb.proofs.show.show_image.Goals as goal

pub returns-in-Ok-clause-text : goal.returns-in-Ok-clause-text
returns-in-Ok-clause-text g c =
    let i = c.in-Ok.image in
    on_ok_weaker c.write_image.result (λ h. (image_text i, (Ok i, c.in-Ok.ensures.answer, refl), h)) c.write_image.ensures.ok

pub returns-in-Ok-clause-fault : goal.returns-in-Ok-clause-fault
returns-in-Ok-clause-fault g c =
    let i = c.in-Ok.image in
    shown_ends (PrintsImage c.args.bytes.now) (g.W.Write.contents c.args.writer.now) (g.W.Write.contents c.write_image.new.writer) c.write_image.result (image_text i)
    (Ok i, c.in-Ok.ensures.answer, refl) c.write_image.ensures.err

pub returns-in-Ok-clause-only : goal.returns-in-Ok-clause-only
returns-in-Ok-clause-only g c = λ says h.
    let i = c.in-Ok.image in
    told_agrees c.write_image.result says (image_text i) (g.W.Write.contents c.args.writer.now) (g.W.Write.contents c.write_image.new.writer) (image_only c.args.bytes.now i c.in-Ok.ensures.exact says h)
    c.write_image.ensures.ok c.write_image.ensures.err

pub returns-in-Err-clause-fault : goal.returns-in-Err-clause-fault
returns-in-Err-clause-fault g c =
    refused_ends (PrintsImage c.args.bytes.now) (g.W.Write.contents c.args.writer.now) (g.W.Write.contents c.refuse.new.writer) c.from-reason.result c.refuse.result
    (rw c.from-reason.ensures (refused_image c.args.bytes.now c.in-Err.refused c.in-Err.ensures.answer)) c.refuse.ensures
