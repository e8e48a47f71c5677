use Rattle.std.proofs.Common.{ap, sym, ◌∙◌}
use Rattle.steps.specs.CoreViews.{CoreView}
use Rattle.workers.specs.Checkpointed.{call_count}
use Rattle.workers.proofs.shared.Shared.close.Goals as goal

pub returns-clause-calls : goal.returns-clause-calls
returns-clause-calls g c = ap (λ (v : CoreView). call_count v.log) c.into_parts-core.ensures.core ∙ (c.into_inner-held.result.counted ∙ sym (c.audit.ensures.whole c.requires))
