use Rattle.std.proofs.Common.{ap, sym, ◌∙◌}
use Rattle.record_store.specs.ChangedSets.{ChangedSets, has}
use Rattle.record_store.proofs.ChangedKeys.{has-set_of}
use Rattle.record_store.proofs.changed_sets.Changed.collects.Goals as goal

pub returns : goal.returns
returns g c =
    c.contains.ensures
    ∙ sym (has-set_of c.self.inside.collecting.keys c.args.key.now)
    ∙ ap (λ (s : ChangedSets). has s.collecting c.args.key.now) c.self.view_is
