use Rattle.std.proofs.Common.{◌≡◌, ◌≤◌, ◌++◌, drop}
use Rattle.std.specs.Vec.{vec_capacity}
use Rattle.std.specs.List.{AllByRecursion}
use Rattle.procedure.specs.declared.limits.TheConstants.{VALUE_BYTES}
use Rattle.image.specs.ImageBytes.{IsWithin, entries_bytes}
use Rattle.image.proofs.sealing.write_entries.Given as goal

-- what is out and the entries that are left make the whole
abbrev pub invariant-loop-entry : goal.invariant-loop-entry
invariant-loop-entry g l = record {
  bytes : l.out.items ++ entries_bytes (drop l.entry-index l.entries) ≡ l.fn.out.items ++ entries_bytes l.entries;
  capacity : vec_capacity l.fn.out ≤ vec_capacity l.out;
  fits : AllByRecursion (IsWithin VALUE_BYTES) (drop l.entry-index l.entries) → AllByRecursion (IsWithin VALUE_BYTES) l.entries;
}
