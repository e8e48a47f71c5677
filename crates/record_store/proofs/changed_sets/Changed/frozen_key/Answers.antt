use Rattle.std.proofs.Common.{List, ap, slice_get, sym, ◌∙◌}
use Rattle.procedure.specs.Bytes.{Bytes}
use Rattle.record_store.specs.ChangedSets.{ChangedSets, KeySet, keys_of}
use Rattle.record_store.proofs.ChangedKeys.{copied_item, keys_of-set_of}
use Rattle.record_store.proofs.changed_sets.Changed.frozen_key.Goals as goal

pub returns-clause-value : goal.returns-clause-value
returns-clause-value g c =
    c.copied.ensures
    ∙ copied_item c.deref.result.now c.args.index c.get.result c.get.ensures.lookup
    ∙ ap (λ (ks : List Bytes). slice_get ks c.args.index) (c.deref.ensures.value ∙ sym (keys_of-set_of c.sort_once.new.keys.items c.sort_once.ensures.in_order))
    ∙ ap (λ (s : KeySet). slice_get (keys_of s) c.args.index) c.sort_once.ensures.same
    ∙ ap (λ (s : ChangedSets). slice_get (keys_of s.frozen) c.args.index) c.self.view_is
