-- The table that the pairs of a text make, and the image that it is loaded as.
use Rattle.std.specs.Prelude.{◌≡◌, ◌&&◌, if◌then◌else◌, nat_lt, nat_le, List, length, Option, Some, None, is_none, Result, Ok, Err}
use Rattle.std.specs.FinMap as map
use Rattle.procedure.specs.Bytes.{Bytes}
use Rattle.procedure.specs.Table.{Table, value_at}
use Rattle.image.specs.Images.{Image, full_image}
use Rattle.image.specs.declared.limits.TheConstants.{ENTRIES}
use Rattle.calcdb.specs.Reads.{◌>>=◌}
use Rattle.calcdb.specs.Lines.{all_pass, first_word, is_allowed, is_skipped, lines, no_word, words}
use Rattle.calcdb.specs.LineByLine.{after_lines}
use Rattle.calcdb.specs.Values.{held_value_of, key_of}
use Rattle.calcdb.specs.Output.{header_line}
use Rattle.calcdb.specs.Refusing.{FailsAs}
use Rattle.calcdb.specs.declared.faults.Fault.{Fault}
use Rattle.calcdb.specs.declared.faults.Fault.TheVariants as fault
use Rattle.calcdb.specs.declared.faults.Reason.TheVariants as reason
use Rattle.calcdb.specs.declared.scripts.ScriptFault.{ScriptFault}
use Rattle.calcdb.specs.declared.scripts.ScriptFault.TheVariants.{Line, Size}
use Rattle.calcdb.specs.declared.scripts.TheConstants.{SCRIPT_BYTES}

-- `KEY VALUE`
unfoldable pub pair_of : List Bytes → Option (Bytes × Bytes)
pair_of ws = do
  k ← first_word ws
  key ← key_of k.0
  v ← first_word k.1
  held ← held_value_of v.0
  _ ← no_word v.1
  Some (key, held)

-- a pair is added where its key is new and there are fewer than 100,000
abbrev pub with_pair : Table → Bytes × Bytes → Option Table
with_pair t p = if nat_lt (map.len t) ENTRIES && is_none (value_at t p.0) then Some (map.insert t p.0 p.1) else None

-- the pair that a line is, if it isn't skipped; None where the line is faulty
abbrev pub pair_in : Bytes → Option (Option (Bytes × Bytes))
pair_in line = if all_pass is_allowed line then (if is_skipped (words line) then Some None else (pair_of (words line) >>= λ p. Some (Some p))) else None

-- what was made so far, with the pair of a line
abbrev pub taking : {T : Type 0} → (T → Bytes × Bytes → Option T) → T → Option (Bytes × Bytes) → Option T
taking with t None = Some t
taking with t (Some p) = with t p

-- the table after one line more
abbrev pub table_after_line : Table → Bytes → Option Table
table_after_line t line = pair_in line >>= taking with_pair t

-- the table of a text of at most 4,194,304 bytes, or its fault
unfoldable pub table_of_pairs : Bytes → Result Table ScriptFault
table_of_pairs text = if nat_le (length text) SCRIPT_BYTES then after_lines table_after_line map.empty 1 (lines text) else Err Size

-- the opening image of a table: full, with number, base and place 0
abbrev pub loaded : Result Table ScriptFault → Result Image ScriptFault
loaded (Ok t) = Ok (full_image 0 0 t)
loaded (Err e) = Err e

-- the opening image of the pairs of a text, or its fault
abbrev pub image_of_pairs : Bytes → Result Image ScriptFault
image_of_pairs text = loaded (table_of_pairs text)

-- the fault of a text; a read may fail and memory may be wanting whatever it says
abbrev pub IsLoadFault : Result Image ScriptFault → Fault → Type 0
IsLoadFault says (fault.Line n) = says ≡ Err (Line n)
IsLoadFault says fault.Size = says ≡ Err Size
IsLoadFault says (fault.Refused r) = r ≡ reason.NoMemory
IsLoadFault says fault.Read = Unit {0}
IsLoadFault says fault.Write = ⊥
IsLoadFault says fault.NoMemory = ⊥

-- the header line of the image that is loaded
abbrev pub IsLoadHeader : Result Image ScriptFault → Bytes → Type 0
IsLoadHeader says text = (i : Image) × (says ≡ Ok i) × (text ≡ header_line i)

-- how a load fails
abbrev pub EndsLoad : Result Image ScriptFault → Option Bytes → Option Bytes → Fault → Type 0
EndsLoad says = FailsAs (IsLoadFault says) (IsLoadHeader says)
