use Rattle.std.proofs.Common.{◌≡◌, ◌-◌, ◌≤◌, ◌++◌, length, max, replicate, vec_capacity}
use Rattle.record_store.specs.EntryFields.{no_copy}
use Rattle.record_store.proofs.entries.lengthen.Given as goal

abbrev pub invariant-loop-copies : goal.invariant-loop-copies
invariant-loop-copies g l = record {
  items : l.copies.items ≡ l.fn.copies.items ++ replicate (length l.copies.items - length l.fn.copies.items) no_copy;
  memory : vec_capacity l.copies ≡ vec_capacity l.fn.copies;
  more : length l.fn.copies.items ≤ length l.copies.items;
  within : length l.copies.items ≤ max l.len (length l.fn.copies.items);
}

abbrev pub decreases-loop-copies : goal.decreases-loop-copies
decreases-loop-copies g l = l.len - length l.copies.items
