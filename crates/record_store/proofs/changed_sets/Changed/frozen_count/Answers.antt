use Rattle.std.proofs.Common.{◌≡◌, ap, length, sym, ◌∙◌, rules, vec_len}
use Rattle.record_store.specs.ChangedSets.{ChangedSets, count}
use Rattle.record_store.proofs.ChangedKeys.{count-set_of}
use Rattle.record_store.proofs.changed_sets.Changed.frozen_count.Goals as goal

pub returns : goal.returns
returns g c =
    let counted : vec_len c.self.inside.frozen ≡ length c.self.inside.frozen.items = search rules in
    c.len.ensures
    ∙ counted
    ∙ sym (count-set_of c.self.inside.frozen.items c.self.invariant.distinct)
    ∙ ap (λ (s : ChangedSets). count s.frozen) c.self.view_is
