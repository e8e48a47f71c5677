use Rattle.std.proofs.Common.{nat_eq}
use Rattle.std.proofs.lemmas.Map.Keys.{IsDistinct-IsPermutation}
use Rattle.std.specs.Cmp.Lexicographic.{nat_list_eq_equiv, pointwise}
use Rattle.record_store.proofs.ChangedKeys.{rise_from_sort, set_of-permutation}
use Rattle.record_store.proofs.changed_sets.sort_keys.Goals as goal

pub returns-clause-same : goal.returns-clause-same
returns-clause-same g c = set_of-permutation _ _ c.sort_unstable.ensures.permutation

pub returns-clause-in_order : goal.returns-clause-in_order
returns-clause-in_order g c = rise_from_sort _ _ c.sort_unstable.ensures.permutation c.sort_unstable.ensures.sorted c.requires

pub returns-clause-distinct : goal.returns-clause-distinct
returns-clause-distinct g c = IsDistinct-IsPermutation (pointwise nat_eq) nat_list_eq_equiv.symm _ _ c.sort_unstable.ensures.permutation c.requires
