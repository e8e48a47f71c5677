use Rattle.std.proofs.Common.{◌≡◌, ◌+◌, ◌≤◌, take, nat_eq}
use Rattle.std.specs.Cmp.Lexicographic.{pointwise}
use Rattle.indexmap.specs.IndexSet.{IsUnique, index_set_len, spare}
use Rattle.record_store.specs.ChangedFields.{set_of}
use Rattle.record_store.specs.ChangedSets.{union}
use Rattle.record_store.proofs.changed_sets.add_keys.Given as goal

abbrev pub invariant-loop-key : goal.invariant-loop-key
invariant-loop-key g l =
    (set_of l.keys.keys ≡ union (set_of l.initial.keys.keys) (set_of (take l.key-index l.more)))
    × (index_set_len l.keys ≤ index_set_len l.initial.keys + l.key-index)
    × (index_set_len l.initial.keys + spare l.initial.keys ≤ index_set_len l.keys + spare l.keys)
    × IsUnique (pointwise nat_eq) l.keys
