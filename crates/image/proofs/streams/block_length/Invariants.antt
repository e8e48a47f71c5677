use Rattle.std.proofs.Common.{◌≡◌, ◌≤◌, ◌+◌, ◌*◌, drop, length}
use Rattle.procedure.specs.declared.limits.TheConstants.{KEY_BYTES, VALUE_BYTES}
use Rattle.image.specs.ImageBytes.{entries_bytes}
use Rattle.image.proofs.streams.block_length.Given as goal

-- the bytes that were counted and those of the entries that are left are all
abbrev pub invariant-loop-entry : goal.invariant-loop-entry
invariant-loop-entry g l = record {
  counted : l.length + length (entries_bytes (drop l.entry-index l.entries)) ≡ 32 + length (entries_bytes l.entries);
  most : l.length ≤ 32 + l.entry-index * (KEY_BYTES + VALUE_BYTES + 4);
}
