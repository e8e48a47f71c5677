use Rattle.std.proofs.Common.{◌≡◌, ◌+◌, ◌≤◌, ◌++◌, length, vec_len}
use Rattle.std.specs.Vec.Iter.{into_iter_items}
use Rattle.image.specs.declared.limits.TheConstants.{ENTRIES}
use Rattle.pipe.specs.Rings.{sent, room, SameTap}
use Rattle.pipe.proofs.threads.send_all.Given as goal

abbrev pub invariant-loop-entry : goal.invariant-loop-entry
invariant-loop-entry g l = record {
  ring : SameTap l.initial.tap l.tap;
  order : sent l.tap ≡ sent l.initial.tap ++ l.yielded;
  count : l.count ≡ length l.yielded;
  whole : l.yielded ++ into_iter_items l.entry-iterator ≡ l.fn.entries.items;
  places : vec_len l.fn.entries ≤ room l.initial.tap → length (sent l.initial.tap) + vec_len l.fn.entries ≤ ENTRIES → room l.initial.tap ≤ room l.tap + l.count;
}
