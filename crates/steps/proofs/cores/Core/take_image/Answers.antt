use Rattle.std.proofs.Common.{◌∙◌, subst, sym}
use Rattle.image.specs.Images.{Image}
use Rattle.image.specs.Merges.{table_of}
use Rattle.steps.specs.CoreViews.{CoreView}
use Rattle.steps.specs.CutImages.{IsTaken}
use Rattle.steps.proofs.phases.TakenImage.{each_some, take_core, waiting_taken}
use Rattle.steps.proofs.cores.Core.take_image.Goals as goal

pub invariant_of-self : goal.invariant_of-self
invariant_of-self g c = take_core c.self.inside c.self.invariant c.take.new.self c.take.ensures.after

pub returns-clause-cut : goal.returns-clause-cut
returns-clause-cut g c =
    each_some (λ (i : Image). IsTaken c.args.self.now.catalog (table_of c.args.self.now.opening) c.args.self.now.log i) c.take.result
    (λ i is. subst (λ (v : CoreView). IsTaken v.catalog (table_of v.opening) v.log i) c.self.view_is (waiting_taken c.self.inside c.self.invariant i (sym c.take.ensures.value ∙ is)))
