use Rattle.std.proofs.Common.{◌∙◌, subst, sym}
use Rattle.image.specs.Headers.{FitsHeader, assembled}
use Rattle.image.specs.Merges.{table_of}
use Rattle.image.specs.declared.headers.Header.{Header}
use Rattle.steps.specs.CoreViews.{CoreView}
use Rattle.steps.specs.CutImages.{IsTaken}
use Rattle.steps.proofs.phases.TakenImage.{each_some, header_core, header_fits, header_made}
use Rattle.steps.proofs.cores.Core.take_header.Goals as goal

pub invariant_of-self : goal.invariant_of-self
invariant_of-self g c = header_core c.self.inside c.self.invariant c.take.new.self c.take.ensures.after

pub returns-clause-fits : goal.returns-clause-fits
returns-clause-fits g c =
    each_some (λ (h : Header). FitsHeader h c.args.self.now.checkpoint.given) c.take.result
    (λ h is. subst (λ (v : CoreView). FitsHeader h v.checkpoint.given) c.self.view_is (header_fits c.self.inside c.self.invariant h (sym c.take.ensures.value ∙ is)))

pub returns-clause-cut : goal.returns-clause-cut
returns-clause-cut g c =
    each_some (λ (h : Header). IsTaken c.args.self.now.catalog (table_of c.args.self.now.opening) c.args.self.now.log (assembled h c.args.self.now.checkpoint.given)) c.take.result
    (λ h is.
    subst (λ (v : CoreView). IsTaken v.catalog (table_of v.opening) v.log (assembled h v.checkpoint.given)) c.self.view_is
    (header_made c.self.inside c.self.invariant h (sym c.take.ensures.value ∙ is)))
