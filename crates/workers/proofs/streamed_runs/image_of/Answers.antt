use Rattle.std.proofs.Common.{sym, subst}
use Rattle.image.specs.Headers.{assembled}
use Rattle.image.specs.Merges.{table_of}
use Rattle.steps.specs.CoreViews.{CoreView}
use Rattle.steps.specs.CutImages.{IsTaken}
use Rattle.workers.proofs.StreamedImage.{streamed_image}
use Rattle.workers.proofs.streamed_runs.image_of.Goals as goal

pub returns-in-Ok-clause-image : goal.returns-in-Ok-clause-image
returns-in-Ok-clause-image g c =
    let t = c.in-Some.ensures in
    let h = c.in-Some.header in
    let given = c.args.core.now.checkpoint.given in
    let cut = subst (λ (v : CoreView). IsTaken v.catalog (table_of v.opening) v.log (assembled h given)) (sym t.taken) t.cut in
    streamed_image c.take_header.new.self h given c.as_slice.result.now c.in-Ok.image c.in-Ok.ensures.value cut c.headers_law.ensures t.fits c.in-Ok.ensures.fits
