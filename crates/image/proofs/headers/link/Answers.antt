use Rattle.std.proofs.Common.{◌∙◌}
use Rattle.image.proofs.Digests.{is_linked}
use Rattle.image.proofs.headers.link.Goals as goal

-- what was fed, piece by piece
pub returns-in-Some : goal.returns-in-Some
returns-in-Some g c =
    c.finalize-in-Some.ensures _
    (c.update-in-Some-3.ensures _ (c.update-in-Some-2.ensures _ (c.update-in-Some.ensures _ (c.update-3.ensures _ (c.update-2.ensures _ (c.update.ensures _ c.new-hasher.ensures))))))
    ∙ is_linked c.args.chain.now c.as_slice.result.now c.as_bytes-key.result.now c.entry.inside.key c.as_bytes-value.result.now c.in-Some.value c.length_bytes.result c.entry.inside.cell
    c.args.entry.now
    c.as_slice.ensures c.as_bytes-key.ensures.value c.length_bytes.ensures c.as_bytes-value.ensures.value c.in-Some.is c.entry.view_is
