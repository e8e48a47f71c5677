-- Byte strings, and cells, which hold one or nothing.
use Rattle.std.specs.Prelude.{ℕ, Bool, List, Option}
use Rattle.std.specs.Ordering.{nat_cmp, eq_by_cmp}
use Rattle.std.specs.Cmp.Lexicographic.{slice_cmp}

abbrev pub Bytes : Type 0
Bytes = List ℕ

-- what a key or a register holds: a value, or nothing, which is called absent
abbrev pub Cell : Type 0
Cell = Option Bytes

-- are these the same bytes?
unfoldable pub same : Bytes → Bytes → Bool
same x y = eq_by_cmp (slice_cmp nat_cmp) x y
