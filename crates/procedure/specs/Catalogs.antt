-- Which fault a list of procedures has: the first one, procedure by procedure, instruction by instruction, part by part.
use Rattle.std.specs.Prelude.{◌≡◌, ◌≤◌, ℕ, Bool, true, false, List, [], ◌∷◌, length, Option, Some, None, nat_lt, nat_le, codes}
use Rattle.procedure.specs.Bytes.{Bytes}
use Rattle.procedure.specs.Procedures.{Instruction, Procedure, Operand, Arg, Reg, Lit, Test, Absent, Equal, Below, Read, Put, Insert, Delete, Add, Sub, AbortIf}
use Rattle.procedure.specs.Table.{Table}
use Rattle.procedure.specs.Runs.{front, IsOutcome}
use Rattle.procedure.specs.declared.catalogs.CatalogError.{CatalogError}
use Rattle.procedure.specs.declared.catalogs.CatalogError.TheVariants.{TooMany, TooLong, BadRegister, BadArgument, BadLiteral, BadCode}
use Rattle.procedure.specs.declared.limits.TheConstants.{PROCEDURES, INSTRUCTIONS, ARGUMENTS, REGISTERS, LITERAL_BYTES}
use Rattle.procedure.specs.declared.outcomes.TheConstants.{FIRST_ABORT}

abbrev pub Fault : Type 0
Fault = Option CatalogError

-- what is printed of a fault
abbrev pub fault_text : CatalogError → Bytes
fault_text TooMany = codes "too many procedures"
fault_text TooLong = codes "a procedure has too many instructions"
fault_text BadRegister = codes "no such register"
fault_text BadArgument = codes "no such argument"
fault_text BadLiteral = codes "a literal is too long"
fault_text BadCode = codes "a code below 16"

-- the fault, where the test fails
abbrev pub fault_unless : Bool → CatalogError → Fault
fault_unless true f = None
fault_unless false f = Some f

-- the first of two faults
abbrev pub then_fault : Fault → Fault → Fault
then_fault None g = g
then_fault (Some f) g = Some f

-- the first fault in a list
abbrev pub first_fault : {X : Type 0} → (X → Fault) → List X → Fault
first_fault f [] = None
first_fault f (x ∷ xs) = then_fault (f x) (first_fault f xs)

abbrev pub register_fault : ℕ → Fault
register_fault r = fault_unless (nat_lt r REGISTERS) BadRegister

abbrev pub operand_fault : ℕ → Operand Bytes → Fault
operand_fault arity (Arg i) = fault_unless (nat_lt i arity) BadArgument
operand_fault arity (Reg r) = register_fault r
operand_fault arity (Lit b) = fault_unless (nat_le (length b) LITERAL_BYTES) BadLiteral

abbrev pub pair_fault : ℕ → Operand Bytes → Operand Bytes → Fault
pair_fault arity x y = then_fault (operand_fault arity x) (operand_fault arity y)

abbrev pub test_fault : ℕ → Test Bytes → Fault
test_fault arity (Absent x) = operand_fault arity x
test_fault arity (Equal x y) = pair_fault arity x y
test_fault arity (Below x y) = pair_fault arity x y

abbrev pub instruction_fault : ℕ → Instruction → Fault
instruction_fault arity (Read r k) = then_fault (register_fault r) (operand_fault arity k)
instruction_fault arity (Put k v) = pair_fault arity k v
instruction_fault arity (Insert k v) = pair_fault arity k v
instruction_fault arity (Delete k) = operand_fault arity k
instruction_fault arity (Add r x y) = then_fault (register_fault r) (pair_fault arity x y)
instruction_fault arity (Sub r x y) = then_fault (register_fault r) (pair_fault arity x y)
instruction_fault arity (AbortIf t c) = then_fault (test_fault arity t) (fault_unless (nat_le FIRST_ABORT c) BadCode)

unfoldable pub procedure_fault : Procedure → Fault
procedure_fault p =
    then_fault (fault_unless (nat_le (length p.code) INSTRUCTIONS) TooLong)
    (then_fault (fault_unless (nat_le p.arity ARGUMENTS) BadArgument) (first_fault (instruction_fault p.arity) p.code))

abbrev pub catalog_fault : List Procedure → Fault
catalog_fault ps = then_fault (fault_unless (nat_le (length ps) PROCEDURES) TooMany) (first_fault procedure_fault ps)

-- a procedure without a fault
pub record IsLawful (p : Procedure) : Type 0 where
  pub no_fault : procedure_fault p ≡ None

-- at any time in a call of a lawful procedure the outcome is one of a call's, and there is at most one reply for each instruction
abbrev pub KeepsLimits : Type 0
KeepsLimits =
    (p : Procedure) → IsLawful p → (args : List Bytes) (t : Table) (m : ℕ) →
    IsOutcome (front p.code args t m).outcome × (length (front p.code args t m).replies ≤ length p.code)
