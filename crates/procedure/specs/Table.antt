-- Tables, and changes to a table.
use Rattle.std.specs.Prelude.{List, [], ◌∷◌, Option, Some, None}
use Rattle.std.specs.Ordering.{nat_cmp}
use Rattle.std.specs.FinMap as map
use Rattle.std.specs.Cmp.Lexicographic.{slice_cmp}
use Rattle.procedure.specs.Bytes.{Bytes, Cell}

-- from keys to what is kept for each, in the byte order of the keys
abbrev pub KeyMap : Type 0 → Type 0
KeyMap V = map.FinMap (slice_cmp nat_cmp) V

-- the map after these pairs were inserted in turn
abbrev pub with_pairs : {V : Type 0} → KeyMap V → List (Bytes × V) → KeyMap V
with_pairs m [] = m
with_pairs m (e ∷ es) = with_pairs (map.insert m e.0 e.1) es

-- from keys to values
abbrev pub Table : Type 0
Table = KeyMap Bytes

-- what some keys become: a value, or absent
abbrev pub Changes : Type 0
Changes = KeyMap Cell

-- what a table holds at a key
abbrev pub value_at : Table → Bytes → Cell
value_at t k = map.get t k

-- what a key becomes, where it is changed
abbrev pub change_at : Changes → Bytes → Option Cell
change_at c k = map.get c k

-- what a key holds after a change, and without one what it held before
abbrev pub changed_or : Option Cell → Cell → Cell
changed_or None before = before
changed_or (Some after) before = after

unfoldable pub no_table : Table
no_table = map.empty

unfoldable pub no_changes : Changes
no_changes = map.empty

unfoldable pub with_change : Changes → Bytes → Cell → Changes
with_change c k x = map.insert c k x

abbrev pub with_change_of : Changes → Option (Bytes × Cell) → Changes
with_change_of m None = m
with_change_of m (Some e) = map.insert m e.0 e.1

-- the table in which the key holds this
abbrev pub with_cell : Table → Bytes → Cell → Table
with_cell t k None = map.remove t k
with_cell t k (Some v) = map.insert t k v

abbrev pub with_cells : Table → List (Bytes × Cell) → Table
with_cells t [] = t
with_cells t (e ∷ es) = with_cell (with_cells t es) e.0 e.1

-- the table after these changes
unfoldable pub merged : Table → Changes → Table
merged t c = with_cells t (map.entries c)
