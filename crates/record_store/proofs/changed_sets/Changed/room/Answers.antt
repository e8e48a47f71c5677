use Rattle.std.proofs.Common.{ap, sym, ◌∙◌, ◌-◌}
use Rattle.record_store.specs.ChangedSets.{room}
use Rattle.record_store.proofs.ChangedKeys.{count-set_of}
use Rattle.record_store.proofs.changed_sets.Changed.room.Goals as goal

pub returns : goal.returns
returns g c =
    ap (λ n. c.self.inside.places - n) (c.len.ensures.len ∙ sym (count-set_of c.self.inside.collecting.keys c.self.invariant.unique))
    ∙ ap room c.self.view_is
