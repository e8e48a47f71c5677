-- An entry as bytes.
use Rattle.std.specs.Prelude.{[], ◌∷◌, ◌++◌, length, Some, None}
use Rattle.byteorder.specs.Endian.{big_bytes}
use Rattle.procedure.specs.Bytes.{Bytes, Cell}
use Rattle.image.specs.Images.{Entry}

-- gone, or a value behind its length
abbrev pub cell_bytes : Cell → Bytes
cell_bytes None = 0 ∷ []
cell_bytes (Some v) = 1 ∷ [] ++ big_bytes 2 (length v) ++ v

-- the key behind its length, and then the cell
abbrev pub entry_bytes : Entry → Bytes
entry_bytes e = length e.0 ∷ [] ++ e.0 ++ cell_bytes e.1
