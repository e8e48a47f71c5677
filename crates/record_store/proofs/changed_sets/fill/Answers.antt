use Rattle.std.proofs.Common.{ap, not, ◌∙◌}
use Rattle.record_store.proofs.ChangedKeys.{filled}
use Rattle.record_store.proofs.changed_sets.fill.Goals as goal

pub returns-clause-items : goal.returns-clause-items
returns-clause-items g c = filled _ _ _ _ c.extend_from_slice.ensures.items (c.is_err.ensures.negation ∙ ap not c.if-is_err.false) c.clear.ensures.items
