-- Lines of procedures: operands and instructions.
use Rattle.std.specs.Prelude.{ℕ, ◌+◌, ◌-◌, ◌==◌, Bool, ◌&&◌, if◌then◌else◌, nat_le, nat_lt, nat_eq, codes, List, [], ◌∷◌, length, Option, Some, None}
use Rattle.std.specs.Cmp.Lexicographic.{pointwise}
use Rattle.procedure.specs.Bytes.{Bytes}
use Rattle.procedure.specs.Procedures.{Instruction}
use Rattle.procedure.specs.declared.instructions.Operand.{Operand}
use Rattle.procedure.specs.declared.instructions.Operand.TheVariants.{Arg, Reg, Lit}
use Rattle.procedure.specs.declared.instructions.Test.{Test}
use Rattle.procedure.specs.declared.instructions.Test.TheVariants.{Absent, Equal, Below}
use Rattle.procedure.specs.declared.instructions.Instr.TheVariants.{Read, Put, Insert, Delete, Add, Sub, AbortIf}
use Rattle.procedure.specs.declared.limits.TheConstants.{LITERAL_BYTES, REGISTERS}
use Rattle.procedure.specs.declared.outcomes.TheConstants.{FIRST_ABORT}
use Rattle.calcdb.specs.Reads.{◌>>=◌}
use Rattle.calcdb.specs.Lines.{no_word, word_as}
use Rattle.calcdb.specs.Values.{decimal_of, value_of}
use Rattle.calcdb.specs.declared.instructions.Verb.{Verb}
use Rattle.calcdb.specs.declared.instructions.Verb.TheVariants as verb
use Rattle.calcdb.specs.declared.instructions.TestName.{TestName}
use Rattle.calcdb.specs.declared.instructions.TestName.TheVariants as test

abbrev pub is_word : Bytes → Bytes → Bool
is_word = pointwise nat_eq

-- the one of these whose name a word is
abbrev pub named_in : {X : Type 0} → List (Bytes × X) → Bytes → Option X
named_in [] w = None
named_in (x ∷ xs) w = if is_word w x.0 then Some x.1 else named_in xs w

-- one digit below the count
abbrev pub index_of : ℕ → Bytes → Option ℕ
index_of count [] = None
index_of count (b ∷ []) = if nat_le 48 b && nat_lt b (48 + count) then Some (b - 48) else None
index_of count (b ∷ c ∷ bs) = None

-- `r0` to `r7`
abbrev pub register_of : Bytes → Option ℕ
register_of [] = None
register_of (b ∷ bs) = if b == 114 then index_of REGISTERS bs else None

-- a value of at most 256 bytes
abbrev pub literal_of : Bytes → Option (Operand Bytes)
literal_of word = do
  v ← value_of word
  if nat_le (length v) LITERAL_BYTES then Some (Lit v) else None

-- an argument below the arity, a register, or a literal
abbrev pub operand_of : ℕ → Bytes → Option (Operand Bytes)
operand_of arity [] = None
operand_of arity (b ∷ bs) = if b == 36 then (index_of arity bs >>= λ i. Some (Arg i)) else if b == 114 then (index_of REGISTERS bs >>= λ r. Some (Reg r)) else literal_of (b ∷ bs)

abbrev pub verb_of : Bytes → Option Verb
verb_of =
    named_in
    ((codes "read", verb.Read) ∷ (codes "put", verb.Put) ∷ (codes "insert", verb.Insert) ∷ (codes "delete", verb.Delete)
    ∷ (codes "add", verb.Add) ∷ (codes "sub", verb.Sub) ∷ (codes "abort", verb.Abort) ∷ [])

abbrev pub test_of : Bytes → Option TestName
test_of = named_in ((codes "absent", test.Absent) ∷ (codes "equal", test.Equal) ∷ (codes "below", test.Below) ∷ [])

-- what the first words say, and the words behind them
abbrev pub verb_at : List Bytes → Option (Verb × List Bytes)
verb_at = word_as verb_of

abbrev pub test_at : List Bytes → Option (TestName × List Bytes)
test_at = word_as test_of

abbrev pub register_at : List Bytes → Option (ℕ × List Bytes)
register_at = word_as register_of

unfoldable pub operand_at : ℕ → List Bytes → Option (Operand Bytes × List Bytes)
operand_at arity = word_as (operand_of arity)

-- a decimal of 16 to 255
abbrev pub code_of : Bytes → Option ℕ
code_of word = do
  c ← decimal_of 255 word
  if nat_le FIRST_ABORT c then Some c else None

unfoldable pub code_at : List Bytes → Option (ℕ × List Bytes)
code_at = word_as code_of

-- the last operands of a line
unfoldable pub one_operand : ℕ → List Bytes → Option (Operand Bytes)
one_operand arity ws = do
  x ← operand_at arity ws
  _ ← no_word x.1
  Some x.0

unfoldable pub two_operands : ℕ → List Bytes → Option (Operand Bytes × Operand Bytes)
two_operands arity ws = do
  x ← operand_at arity ws
  y ← one_operand arity x.1
  Some (x.0, y)

unfoldable pub test_line : ℕ → List Bytes → Option (Test Bytes)
test_line arity ws = do
  t ← test_at ws
  elim t.0 [
    | test.Absent ↦ (one_operand arity t.1 >>= λ x. Some (Absent x))
    | test.Equal ↦ (two_operands arity t.1 >>= λ p. Some (Equal p.0 p.1))
    | test.Below ↦ (two_operands arity t.1 >>= λ p. Some (Below p.0 p.1))
  ]

unfoldable pub read_line : ℕ → List Bytes → Option Instruction
read_line arity ws = do
  r ← register_at ws
  k ← one_operand arity r.1
  Some (Read r.0 k)

-- a register and two operands
unfoldable pub sum_line : ℕ → List Bytes → Option (ℕ × (Operand Bytes × Operand Bytes))
sum_line arity ws = do
  r ← register_at ws
  p ← two_operands arity r.1
  Some (r.0, p)

unfoldable pub abort_line : ℕ → List Bytes → Option Instruction
abort_line arity ws = do
  c ← code_at ws
  t ← test_line arity c.1
  Some (AbortIf t c.0)

-- the instruction that a line's words are, in a procedure of so many arguments
unfoldable pub instruction_of : ℕ → List Bytes → Option Instruction
instruction_of arity ws = do
  v ← verb_at ws
  elim v.0 [
    | verb.Read ↦ read_line arity v.1
    | verb.Put ↦ (two_operands arity v.1 >>= λ p. Some (Put p.0 p.1))
    | verb.Insert ↦ (two_operands arity v.1 >>= λ p. Some (Insert p.0 p.1))
    | verb.Delete ↦ (one_operand arity v.1 >>= λ k. Some (Delete k))
    | verb.Add ↦ (sum_line arity v.1 >>= λ s. Some (Add s.0 s.1.0 s.1.1))
    | verb.Sub ↦ (sum_line arity v.1 >>= λ s. Some (Sub s.0 s.1.0 s.1.1))
    | verb.Abort ↦ abort_line arity v.1
  ]
