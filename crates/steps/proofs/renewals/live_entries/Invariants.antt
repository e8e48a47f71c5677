use Rattle.std.proofs.Common.{◌≡◌, length, take}
use Rattle.record_store.specs.Stores.{live_count}
use Rattle.steps.proofs.renewal.LiveEntries.{Gathered}
use Rattle.steps.proofs.renewals.live_entries.Given as goal

abbrev pub invariant-loop-slot : goal.invariant-loop-slot
invariant-loop-slot g l = record {
  gathered : Gathered l.store l.slot l.entries.items;
  count : length l.entries.items ≡ live_count (take l.slot l.store);
}
