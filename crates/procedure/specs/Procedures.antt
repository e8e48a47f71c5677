-- Instructions: what each of them asks for, and what it does.
use Rattle.std.specs.Prelude.{ℕ, ◌+◌, ◌-◌, ◌^◌, ◌==◌, Bool, true, false, if◌then◌else◌, ◌&&◌, List, [], ◌∷◌, length, slice_get, slice_set, Option, Some, None, is_none, option_map, nat_lt, nat_le, unwrap_or}
use Rattle.std.specs.Ordering.{nat_cmp, is_lt}
use Rattle.std.specs.Cmp.Lexicographic.{slice_cmp}
use Rattle.byteorder.specs.Endian.{big_bytes, big_number}
use Rattle.procedure.specs.Bytes.{Bytes, Cell, same}
use Rattle.procedure.specs.Needs.{Need, Touch, touch_of, read_of, write_of, no_need, to_put, to_insert, to_delete}
use Rattle.procedure.specs.declared.outcomes.TheConstants.{KEY_PRESENT, KEY_ABSENT, NOT_A_NUMBER, OUT_OF_RANGE, BAD_KEY, NO_VALUE}
use Rattle.procedure.specs.declared.limits.TheConstants.{KEY_BYTES}
pub use Rattle.procedure.specs.declared.instructions.Operand.{Operand}
pub use Rattle.procedure.specs.declared.instructions.Operand.TheVariants.{Arg, Reg, Lit}
pub use Rattle.procedure.specs.declared.instructions.Test.{Test}
pub use Rattle.procedure.specs.declared.instructions.Test.TheVariants.{Absent, Equal, Below}
pub use Rattle.procedure.specs.declared.instructions.Instr.{Instr}
pub use Rattle.procedure.specs.declared.instructions.Instr.TheVariants.{Read, Put, Insert, Delete, Add, Sub, AbortIf}

-- an instruction whose literals are byte strings
abbrev pub Instruction : Type 0
Instruction = Instr Bytes

-- how many arguments a procedure takes, and its instructions
pub record Procedure : Type 0 where
  pub arity : ℕ
  pub code : List Instruction

-- an argument, what a register holds, or the literal
abbrev pub operand_value : Operand Bytes → List Bytes → List Cell → Cell
operand_value (Arg i) args registers = slice_get args i
operand_value (Reg i) args registers = unwrap_or (slice_get registers i) None
operand_value (Lit b) args registers = Some b

-- a value of 1 to 32 bytes is a key
abbrev pub as_key : Cell → Option Bytes
as_key None = None
as_key (Some b) = if nat_lt 0 (length b) && nat_le (length b) KEY_BYTES then Some b else None

-- a value of 8 bytes is a number, its highest byte first
abbrev pub as_number : Cell → Option ℕ
as_number None = None
as_number (Some b) = if length b == 8 then Some (big_number 8 b) else None

abbrev pub same_cell : Cell → Cell → Bool
same_cell None None = true
same_cell (Some x) (Some y) = same x y
same_cell None (Some y) = false
same_cell (Some x) None = false

-- in byte order, where a proper beginning comes first; nothing absent is below or above
abbrev pub below_cell : Cell → Cell → Bool
below_cell (Some x) (Some y) = is_lt (slice_cmp nat_cmp x y)
below_cell None c = false
below_cell (Some x) None = false

abbrev pub holds : Test Bytes → List Bytes → List Cell → Bool
holds (Absent x) args registers = is_none (operand_value x args registers)
holds (Equal x y) args registers = same_cell (operand_value x args registers) (operand_value y args registers)
holds (Below x y) args registers = below_cell (operand_value x args registers) (operand_value y args registers)

-- what an instruction asks for
unfoldable pub need : Instruction → List Bytes → List Cell → Need Bytes
need (Read r k) args registers = read_of (as_key (operand_value k args registers))
need (Put k v) args registers = write_of (as_key (operand_value k args registers)) (option_map to_put (operand_value v args registers))
need (Insert k v) args registers = write_of (as_key (operand_value k args registers)) (option_map to_insert (operand_value v args registers))
need (Delete k) args registers = write_of (as_key (operand_value k args registers)) (Some to_delete)
need (Add r x y) args registers = no_need
need (Sub r x y) args registers = no_need
need (AbortIf t c) args registers = no_need

-- the key that an instruction touches, and how
abbrev pub touch : Instruction → List Bytes → List Cell → Touch
touch i args registers = touch_of (need i args registers)

-- whether it may reply
abbrev pub is_read : Instruction → Bool
is_read (Read r k) = true
is_read (Put k v) = false
is_read (Insert k v) = false
is_read (Delete k) = false
is_read (Add r x y) = false
is_read (Sub r x y) = false
is_read (AbortIf t c) = false

-- what an instruction does: the registers after it, what it replies, the outcome by which it ends the call, and what its key becomes
pub record Effect : Type 0 where
  pub registers : List Cell
  pub reply : List Cell
  pub ends : Option ℕ
  pub becomes : Option Cell

abbrev pub passing : List Cell → Effect
passing registers = record { registers = registers; reply = []; ends = None; becomes = None }

abbrev pub ending : List Cell → ℕ → Effect
ending registers c = record { registers = registers; reply = []; ends = Some c; becomes = None }

abbrev pub setting : List Cell → ℕ → Cell → Effect
setting registers r x = record { registers = slice_set registers r x; reply = []; ends = None; becomes = None }

abbrev pub writing : List Cell → Cell → Effect
writing registers x = record { registers = registers; reply = []; ends = None; becomes = Some x }

abbrev pub reading : List Cell → ℕ → Option Bytes → Cell → Effect
reading registers r None found = ending registers BAD_KEY
reading registers r (Some k) found = record { registers = slice_set registers r found; reply = found ∷ []; ends = None; becomes = None }

abbrev pub putting : List Cell → Option Bytes → Cell → Effect
putting registers None v = ending registers BAD_KEY
putting registers (Some k) None = ending registers NO_VALUE
putting registers (Some k) (Some v) = writing registers (Some v)

abbrev pub inserting : List Cell → Option Bytes → Cell → Cell → Effect
inserting registers None v found = ending registers BAD_KEY
inserting registers (Some k) None found = ending registers NO_VALUE
inserting registers (Some k) (Some v) None = writing registers (Some v)
inserting registers (Some k) (Some v) (Some w) = ending registers KEY_PRESENT

abbrev pub deleting : List Cell → Option Bytes → Cell → Effect
deleting registers None found = ending registers BAD_KEY
deleting registers (Some k) None = ending registers KEY_ABSENT
deleting registers (Some k) (Some w) = writing registers None

-- a number as 8 bytes, its highest byte first
abbrev pub number_value : ℕ → Cell
number_value n = Some (big_bytes 8 n)

abbrev pub adding : List Cell → ℕ → Option ℕ → Option ℕ → Effect
adding registers r None y = ending registers NOT_A_NUMBER
adding registers r (Some x) None = ending registers NOT_A_NUMBER
adding registers r (Some x) (Some y) = if nat_lt (x + y) (2 ^ 64) then setting registers r (number_value (x + y)) else ending registers OUT_OF_RANGE

abbrev pub subtracting : List Cell → ℕ → Option ℕ → Option ℕ → Effect
subtracting registers r None y = ending registers NOT_A_NUMBER
subtracting registers r (Some x) None = ending registers NOT_A_NUMBER
subtracting registers r (Some x) (Some y) = if nat_le y x then setting registers r (number_value (x - y)) else ending registers OUT_OF_RANGE

-- what an instruction does where its key holds `found`
unfoldable pub effect : Instruction → List Bytes → List Cell → Cell → Effect
effect (Read r k) args registers found = reading registers r (as_key (operand_value k args registers)) found
effect (Put k v) args registers found = putting registers (as_key (operand_value k args registers)) (operand_value v args registers)
effect (Insert k v) args registers found = inserting registers (as_key (operand_value k args registers)) (operand_value v args registers) found
effect (Delete k) args registers found = deleting registers (as_key (operand_value k args registers)) found
effect (Add r x y) args registers found = adding registers r (as_number (operand_value x args registers)) (as_number (operand_value y args registers))
effect (Sub r x y) args registers found = subtracting registers r (as_number (operand_value x args registers)) (as_number (operand_value y args registers))
effect (AbortIf t c) args registers found = if holds t args registers then ending registers c else passing registers
