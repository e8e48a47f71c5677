use Rattle.std.proofs.Common.{List, length, ap, subst, ◌∙◌}
use Rattle.std.specs.List.Sorted.{IsBinarySearchResult, IsSearchInRange}
use Rattle.std.specs.Cmp.Lexicographic.{slice_cmp}
use Rattle.std.specs.Ordering.{nat_cmp}
use Rattle.procedure.specs.Bytes.{Bytes}
use Rattle.record_store.specs.ChangedSets.{ChangedSets, KeySet, has}
use Rattle.record_store.proofs.ChangedKeys.{is_ok-search}
use Rattle.record_store.proofs.changed_sets.Changed.freezes.Goals as goal

pub returns-clause-value : goal.returns-clause-value
returns-clause-value g c =
    let found = c.binary_search.result in
    let in_range = subst (λ (ks : List Bytes). IsSearchInRange found (length ks)) c.deref.ensures.value c.binary_search.ensures.bound in
    let at = subst (λ (ks : List Bytes). IsBinarySearchResult (λ y. slice_cmp nat_cmp y c.args.key.now) ks found) c.deref.ensures.value c.binary_search.ensures.position in
    c.is_ok.ensures.value
    ∙ is_ok-search c.sort_once.new.keys.items c.args.key.now found c.sort_once.ensures.in_order in_range at
    ∙ ap (λ (s : KeySet). has s c.args.key.now) c.sort_once.ensures.same
    ∙ ap (λ (s : ChangedSets). has s.frozen c.args.key.now) c.self.view_is
