use Rattle.std.proofs.Common.{◌∙◌, subst, Option, ℕ}
use Rattle.steps.specs.inside.RecordEdits.{IsFoundBy}
use Rattle.steps.proofs.store.FoundSlots.{held_in, held_none}
use Rattle.steps.proofs.edits.held.Goals as goal

pub returns-in-Some : goal.returns-in-Some
returns-in-Some g c touch at = c.live.ensures ∙ held_in c.args.store.now touch c.in-Some.slot (subst (λ (o : Option ℕ). IsFoundBy c.args.store.now touch o) c.in-Some.is at)

pub returns-in-None : goal.returns-in-None
returns-in-None g c touch at = held_none c.args.store.now touch (subst (λ (o : Option ℕ). IsFoundBy c.args.store.now touch o) c.in-None.is at)
