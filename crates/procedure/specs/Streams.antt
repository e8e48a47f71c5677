-- A text that goes to a writer.
use Rattle.std.specs.Prelude.{◌≡◌, ◌++◌, Option, codes}
use Rattle.std.specs.Io.KnownBytes.{Appends}
use Rattle.procedure.specs.Bytes.{Bytes}
use Rattle.procedure.specs.declared.streams.WriteError.{WriteError}
use Rattle.procedure.specs.declared.streams.WriteError.TheVariants as refused

-- what went out is a beginning of the text
abbrev pub IsBegun : Option Bytes → Option Bytes → Bytes → Type 0
IsBegun old new text = (out : Bytes) × (left : Bytes) × (text ≡ out ++ left) × Appends old new out

-- what is printed of a refusal
abbrev pub write_error_text : WriteError → Bytes
write_error_text refused.WriteFault = codes "write fault"
write_error_text refused.NoMemory = codes "no memory"
