use Rattle.std.proofs.Common.{ap, ◌∙◌}
use Rattle.std.specs.Prelude.{IfSome}
use Rattle.steps.specs.CoreViews.{CoreView}
use Rattle.workers.proofs.Keeping.{same_kept}
use Rattle.workers.proofs.shared.Shared.new.Goals as goal

pub invariant_of-locked-clause-kept : goal.invariant_of-locked-clause-kept
invariant_of-locked-clause-kept g c = same_kept (λ log images. IfSome g.L.Beginning.begun (λ b. g.K.Keeper.Has b c.args.keeper log images)) (ap (λ (v : CoreView). v.log) c.from_parts-held.ensures.core) (c.from_parts-held.ensures.images ∙ c.requires.empty) c.requires.kept
