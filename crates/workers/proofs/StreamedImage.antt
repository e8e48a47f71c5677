-- The image that is assembled with a header is that of its checkpoint, unless two lists share a digest.
use Rattle.std.proofs.Common.{◌≡◌, List, sym, ◌∙◌, subst, inl, inr}
use Rattle.std.specs.Prelude.{◌⊎◌}
use Rattle.image.specs.Headers.{FitsHeader, assembled}
use Rattle.image.specs.Images.{Entry, Image}
use Rattle.image.specs.Merges.{table_of}
use Rattle.image.specs.declared.headers.Header.{Header}
use Rattle.steps.specs.CoreViews.{CoreView}
use Rattle.steps.specs.CutImages.{IsTaken}
use Rattle.steps.specs.Streaming.{HeadersFix, ShareDigest}
use Rattle.workers.specs.Streams.{IsStreamed}

module _ (v : CoreView) (h : Header) (given sent : List Entry) (i : Image) (is : i ≡ assembled h sent) (taken : IsTaken v.catalog (table_of v.opening) v.log (assembled h given)) where
  either : (assembled h sent ≡ assembled h given) ⊎ ShareDigest sent given → IsStreamed v i
  either (inl same) = inl (subst (λ (j : Image). IsTaken v.catalog (table_of v.opening) v.log j) (sym (is ∙ same)) taken)
  either (inr share) = inr (record { header = h; sent = sent; given = given; made = is; taken = taken; share = share })

  pub streamed_image : HeadersFix → FitsHeader h given → FitsHeader h sent → IsStreamed v i
  streamed_image fix fits mine = either (fix h given sent fits mine)
