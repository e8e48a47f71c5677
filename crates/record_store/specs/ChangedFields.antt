-- How the fields of the sets of changed keys stand for these.
use Rattle.std.specs.Prelude.{◌≡◌, ◌+◌, ◌≤◌, true, List, nat_eq, vec_capacity}
use Rattle.std.specs.Ordering.{nat_cmp}
use Rattle.std.specs.Cmp.Lexicographic.{pointwise, slice_cmp}
use Rattle.std.specs.List.{IsDistinct}
use Rattle.std.specs.List.Sorted.{IsStrictlySortedBy}
use Rattle.indexmap.specs.IndexSet.{IsUnique, index_set_len, spare}
use Rattle.procedure.specs.Bytes.{Bytes}
use Rattle.record_store.specs.ChangedSets.{ChangedSets, KeySet, empty_set, with_members}
use Rattle.record_store.specs.declared.changed_sets.Changed.TheInside.{Inside}

-- the set of these keys
abbrev pub set_of : List Bytes → KeySet
set_of ks = with_members empty_set ks

abbrev pub sets_of : {A : Type 0} → Inside A → ChangedSets
sets_of c = record { collecting = set_of c.collecting.keys; frozen = set_of c.frozen.items; places = c.places }

-- no key comes twice, the frozen ones lie in their order where that is said, and both have memory for as many keys as there are
-- places
pub record IsKept {A : Type 0} (c : Inside A) : Type 0 where
  pub in_order : c.in_order ≡ true → IsStrictlySortedBy (slice_cmp nat_cmp) c.frozen.items
  pub distinct : IsDistinct (pointwise nat_eq) c.frozen.items
  pub unique : IsUnique (pointwise nat_eq) c.collecting
  pub within : index_set_len c.collecting ≤ c.places
  pub room_to_collect : c.places ≤ index_set_len c.collecting + spare c.collecting
  pub room_to_freeze : c.places ≤ vec_capacity c.frozen
