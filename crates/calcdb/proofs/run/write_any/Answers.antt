use Rattle.std.proofs.Common.{subst, sym}
use Rattle.calcdb.specs.Runs.{Sent, shown_text}
use Rattle.calcdb.specs.declared.run.Shown.{Shown}
use Rattle.calcdb.proofs.Shown.{sent_lines}
use Rattle.calcdb.proofs.run.write_any.Goals as goal

pub returns-in-Image : goal.returns-in-Image
returns-in-Image g c =
    let old = g.W.Write.contents c.args.writer.now in
    let new = g.W.Write.contents c.write_image_lines.new.writer in
    let h = c.write_image_lines.ensures in
    subst (λ (x : Shown g.row.A.Denot). Sent c.write_image_lines.result old new (shown_text c.args.records.now x)) (sym c.in-Image.is) (sent_lines c.write_image_lines.result old new _ h.ok h.err)
