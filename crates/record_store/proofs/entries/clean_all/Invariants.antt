use Rattle.std.proofs.Common.{◌≡◌, ℕ, ◌<◌, ◌≤◌, length, option_map}
use Rattle.record_store.specs.Entries.{cleaned, entry_at}
use Rattle.record_store.proofs.entries.clean_all.Given as goal

abbrev pub invariant-loop-slot : goal.invariant-loop-slot
invariant-loop-slot g l = record {
  done : (slot : ℕ) → slot < l.slot → entry_at l.slots.items slot ≡ option_map cleaned (entry_at l.fn.slots.items slot);
  rest : (slot : ℕ) → l.slot ≤ slot → entry_at l.slots.items slot ≡ entry_at l.fn.slots.items slot;
  len : length l.slots.items ≡ length l.fn.slots.items;
}
