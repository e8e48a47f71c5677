use Rattle.std.proofs.Common.{◌≡◌, ◌++◌, ℕ, length}
use Rattle.std.specs.Vec.Iter.{into_iter_items, into_iter_len}
use Rattle.calcdb.specs.Plans.{AreNumbered, ThreadCommands, calls_in, calls_of, keys_of, kinds_of}
use Rattle.calcdb.proofs.plans.plan_of.Given as goal

-- the commands that were added and those that are left are all of them
abbrev pub invariant-loop-command : goal.invariant-loop-command
invariant-loop-command g l = record {
  front : ThreadCommands;
  parts : l.fn.commands.items ≡ front ++ into_iter_items l.command-iterator;
  numbered : AreNumbered 0 l.lists.scripts.items;
  calls : (s : ℕ) → calls_in s l.lists.scripts.items ≡ calls_of s front;
  kinds : l.lists.kinds.items ≡ kinds_of front;
  keys : l.lists.keys.items ≡ keys_of front;
  count : into_iter_len l.command-iterator ≡ length (into_iter_items l.command-iterator);
}
