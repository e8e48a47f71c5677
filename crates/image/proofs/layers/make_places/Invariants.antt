use Rattle.std.proofs.Common.{◌≡◌, ◌+◌, ◌-◌, ◌≤◌, ◌++◌, None, length, map, take}
use Rattle.std.specs.Vec.{vec_len, vec_capacity}
use Rattle.image.specs.Images.{Entry}
use Rattle.image.proofs.layers.make_places.Given as goal

-- so many of the others have their places, and there is room for the rest
abbrev pub invariant-loop-entry : goal.invariant-loop-entry
invariant-loop-entry g l = record {
  made : l.entries.items ≡ l.fn.entries.items ++ map (λ (e : Entry). (e.0, None)) (take l.entry-index l.others);
  room : vec_len l.entries + (length l.others - l.entry-index) ≤ vec_capacity l.entries;
}
