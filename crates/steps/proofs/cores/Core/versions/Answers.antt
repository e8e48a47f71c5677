use Rattle.std.proofs.Common.{option_map, sym, ap, ◌∙◌}
use Rattle.record_store.specs.Stores.{StoreRecord}
use Rattle.record_store.specs.Versions as stored
use Rattle.steps.specs.CoreViews.{CoreView}
use Rattle.steps.specs.Versions.{key_versions, versions_in}
use Rattle.steps.proofs.store.RecordEdits.{found_in, none_in}
use Rattle.steps.proofs.views.KeyStatuses.{key_status}
use Rattle.steps.proofs.cores.Core.versions.Goals as goal

pub returns-in-Some-clause-value : goal.returns-in-Some-clause-value
returns-in-Some-clause-value g c =
    let found = found_in c.self.inside.store c.in-Some.slot c.args.key.now c.find.ensures.once c.in-Some.ensures.found in
    c.lent.ensures ∙ ap (option_map (λ (r : StoreRecord). key_versions (stored.version r))) found.1 ∙ sym found.2 ∙ ap (λ (v : CoreView). versions_in v.slots c.args.key.now) c.self.view_is

pub returns-in-None-clause-value : goal.returns-in-None-clause-value
returns-in-None-clause-value g c = sym (none_in c.self.inside.store c.args.key.now c.in-None.ensures.found) ∙ ap (λ (v : CoreView). versions_in v.slots c.args.key.now) c.self.view_is

pub returns-in-Some-clause-status : goal.returns-in-Some-clause-status
returns-in-Some-clause-status g c = key_status c.self.inside c.self.invariant c.args.key.now c.find.ensures.once c.args.self.now c.self.view_is

pub returns-in-None-clause-status : goal.returns-in-None-clause-status
returns-in-None-clause-status g c = key_status c.self.inside c.self.invariant c.args.key.now c.find.ensures.once c.args.self.now c.self.view_is
