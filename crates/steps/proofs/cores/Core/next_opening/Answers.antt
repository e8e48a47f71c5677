use Rattle.std.proofs.Common.{ap, length, sym, ◌∙◌}
use Rattle.std.specs.FinMap.{len-entries}
use Rattle.image.specs.Headers.{map_of}
use Rattle.image.specs.Images.{Image}
use Rattle.record_store.specs.Stores.{live_count}
use Rattle.steps.specs.CoreViews.{CoreView}
use Rattle.steps.proofs.renewal.NextOpening.{next_is, next_lawful}
use Rattle.steps.proofs.cores.Core.next_opening.Goals as goal

pub image_of-requires-clause-lawful : goal.image_of-requires-clause-lawful
image_of-requires-clause-lawful g c =
    next_lawful c.self.inside c.self.invariant c.args.self.now c.self.view_is c.requires c.in_ok-entries.entries.items c.in_ok-entries.ensures.values

pub returns-clause-value : goal.returns-clause-value
returns-clause-value g c =
    c.image_of.ensures
    ∙ next_is c.self.inside c.self.invariant c.args.self.now c.self.view_is c.requires c.in_ok-entries.entries.items c.in_ok-entries.ensures.values

pub returns-clause-count : goal.returns-clause-count
returns-clause-count g c =
    ap (λ (i : Image). length i.entries) c.image_of.ensures ∙ sym (len-entries (map_of c.in_ok-entries.entries.items)) ∙ c.in_ok-entries.ensures.once ∙ c.in_ok-entries.ensures.count
    ∙ ap (λ (v : CoreView). live_count v.slots) c.self.view_is
