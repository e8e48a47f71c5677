-- A catalog as bytes, of which its digest is taken.
use Rattle.std.specs.Prelude.{List, [], ◌∷◌, ◌++◌, length, codes}
use Rattle.std.specs.List.{flat_map}
use Rattle.byteorder.specs.Endian.{big_bytes}
use Rattle.procedure.specs.Bytes.{Bytes}
use Rattle.procedure.specs.Procedures.{Instruction, Procedure, Operand, Arg, Reg, Lit, Test, Absent, Equal, Below, Read, Put, Insert, Delete, Add, Sub, AbortIf}

abbrev pub operand_bytes : Operand Bytes → Bytes
operand_bytes (Arg i) = 0 ∷ i ∷ []
operand_bytes (Reg r) = 1 ∷ r ∷ []
operand_bytes (Lit b) = 2 ∷ [] ++ big_bytes 2 (length b) ++ b

abbrev pub test_bytes : Test Bytes → Bytes
test_bytes (Absent x) = 1 ∷ [] ++ operand_bytes x
test_bytes (Equal x y) = 2 ∷ [] ++ operand_bytes x ++ operand_bytes y
test_bytes (Below x y) = 3 ∷ [] ++ operand_bytes x ++ operand_bytes y

abbrev pub instruction_bytes : Instruction → Bytes
instruction_bytes (Read r k) = 1 ∷ r ∷ [] ++ operand_bytes k
instruction_bytes (Put k v) = 2 ∷ [] ++ operand_bytes k ++ operand_bytes v
instruction_bytes (Insert k v) = 3 ∷ [] ++ operand_bytes k ++ operand_bytes v
instruction_bytes (Delete k) = 4 ∷ [] ++ operand_bytes k
instruction_bytes (Add r x y) = 5 ∷ r ∷ [] ++ operand_bytes x ++ operand_bytes y
instruction_bytes (Sub r x y) = 6 ∷ r ∷ [] ++ operand_bytes x ++ operand_bytes y
instruction_bytes (AbortIf t c) = 7 ∷ [] ++ test_bytes t ++ (c ∷ [])

abbrev pub procedure_bytes : Procedure → Bytes
procedure_bytes p = p.arity ∷ length p.code ∷ [] ++ flat_map instruction_bytes p.code

-- the eight letters, how many procedures, and each of them
abbrev pub catalog_bytes : List Procedure → Bytes
catalog_bytes ps = codes "CALCCAT1" ++ (length ps ∷ []) ++ flat_map procedure_bytes ps
