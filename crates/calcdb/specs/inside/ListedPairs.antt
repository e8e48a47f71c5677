-- The entries that the pairs of a text make, in the order of their lines.
use Rattle.std.specs.Prelude.{◌≡◌, ◌≤◌, ◌++◌, if◌then◌else◌, nat_lt, List, [], ◌∷◌, length, Option, Some, None, Ok}
use Rattle.procedure.specs.Bytes.{Bytes}
use Rattle.image.specs.Headers.{EachKeyOnce}
use Rattle.image.specs.Images.{Entry}
use Rattle.image.specs.declared.limits.TheConstants.{ENTRIES}
use Rattle.calcdb.specs.Reads.{◌>>=◌}
use Rattle.calcdb.specs.LineByLine.{after_lines}
use Rattle.calcdb.specs.Lines.{lines}
use Rattle.calcdb.specs.Pairs.{pair_in, taking}
use Rattle.calcdb.specs.declared.scripts.TheConstants.{SCRIPT_BYTES}

-- the entries with a pair more, where there are fewer than 100,000
abbrev pub with_pair : List Entry → Bytes × Bytes → Option (List Entry)
with_pair es p = if nat_lt (length es) ENTRIES then Some (es ++ (p.0, Some p.1) ∷ []) else None

-- the entries after one line more
abbrev pub after_line : List Entry → Bytes → Option (List Entry)
after_line es line = pair_in line >>= taking with_pair es

-- each line of a text of at most 4,194,304 bytes is a pair or is skipped, there are at most 100,000 pairs, and no key comes twice
abbrev pub IsDistinct : Bytes → Type 0
IsDistinct text = (length text ≤ SCRIPT_BYTES) × (es : List Entry) × (after_lines after_line [] 1 (lines text) ≡ Ok es) × EachKeyOnce es
