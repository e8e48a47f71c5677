-- The preamble of a script: its procedures, line by line, up to its first command.
use Rattle.std.specs.Prelude.{◌≡◌, ◌≤◌, ℕ, ◌+◌, Bool, false, not, ◌&&◌, ◌||◌, if◌then◌else◌, nat_lt, nat_le, codes, List, [], ◌∷◌, ◌++◌, length, Option, Some, None, is_none, option_map, Result, Ok, Err}
use Rattle.std.specs.FinMap as map
use Rattle.procedure.specs.Bytes.{Bytes}
use Rattle.procedure.specs.Procedures.{Instruction, Procedure}
use Rattle.procedure.specs.Catalogs.{first_fault, instruction_fault, procedure_fault}
use Rattle.procedure.specs.declared.limits.TheConstants.{ARGUMENTS, INSTRUCTIONS, PROCEDURES}
use Rattle.calcdb.specs.Reads.{◌>>=◌}
use Rattle.calcdb.specs.Lines.{all_pass, alone_as, first_word, is_allowed, is_skipped, left_lines, lines, words}
use Rattle.calcdb.specs.Values.{decimal_of}
use Rattle.calcdb.specs.Instructions.{instruction_of, is_word}
use Rattle.calcdb.specs.Commands.{Names, is_name, procedure_of}
use Rattle.calcdb.specs.declared.preambles.Preamble as declared
use Rattle.calcdb.specs.declared.scripts.ScriptFault.{ScriptFault}
use Rattle.calcdb.specs.declared.scripts.ScriptFault.TheVariants.{Line, Size}
use Rattle.calcdb.specs.declared.scripts.TheConstants.{SCRIPT_BYTES}

-- a procedure's block that has begun: the number of its first line, the arity, and the instructions so far
pub record Block : Type 0 where
  pub line : ℕ
  pub arity : ℕ
  pub code : List Instruction

-- the procedures that lines have said and the number of each by its name, and the block that they are in
pub record Said : Type 0 where
  pub names : Names
  pub procedures : List Procedure
  pub block : Option Block

abbrev pub nothing_said : Said
nothing_said = record { names = map.empty; procedures = []; block = None }

-- `end` alone
abbrev pub ends_block : List Bytes → Bool
ends_block [] = false
ends_block (w ∷ []) = is_word w (codes "end")
ends_block (w ∷ v ∷ ws) = false

abbrev pub with_instruction : Block → Instruction → Block
with_instruction b i = record b { code = b.code ++ i ∷ [] }

-- a block with the instruction that a line is, if it has fewer than 64
unfoldable pub longer_block : Block → List Bytes → Option Block
longer_block b ws = if nat_lt (length b.code) INSTRUCTIONS then (instruction_of b.arity ws >>= λ i. Some (with_instruction b i)) else None

-- the block's procedure, behind the others
abbrev pub with_procedure : Said → Block → Said
with_procedure s b = record s { procedures = s.procedures ++ record { arity = b.arity; code = b.code } ∷ []; block = None }

-- a line in a block
unfoldable pub in_block : Said → Block → List Bytes → Option Said
in_block s b ws = if ends_block ws then Some (with_procedure s b) else (longer_block b ws >>= λ c. Some (record s { block = Some c }))

-- a name that no procedure has, and the words behind it
unfoldable pub new_name : Names → List Bytes → Option (Bytes × List Bytes)
new_name names ws = do
  w ← first_word ws
  if is_name w.0 && is_none (procedure_of names w.0) then Some w else None

-- how many arguments, alone
unfoldable pub arity_of : List Bytes → Option ℕ
arity_of = alone_as (decimal_of ARGUMENTS)

abbrev pub with_block : Said → Bytes → Block → Said
with_block s name b = record s { names = map.insert s.names name (length s.procedures); block = Some b }

-- `NAME ARITY`
unfoldable pub heading_of : Names → List Bytes → Option (Bytes × ℕ)
heading_of names ws = do
  name ← new_name names ws
  arity ← arity_of name.1
  Some (name.0, arity)

-- what stands behind `proc`, in this line; there are at most 64 procedures
unfoldable pub said_after_heading : Said → ℕ → List Bytes → Option Said
said_after_heading s line ws = do
  h ← heading_of s.names ws
  if nat_lt (length s.procedures) PROCEDURES then Some (with_block s h.0 (record { line = line; arity = h.1; code = [] })) else None

-- a line that begins a block
unfoldable pub out_of_block : Said → ℕ → List Bytes → Option Said
out_of_block s line ws = do
  w ← first_word ws
  said_after_heading s line w.1

abbrev pub said_after_words : Said → ℕ → List Bytes → Option Said
said_after_words s line ws = if is_skipped ws then Some s else (elim s.block [ None ↦ out_of_block s line ws | Some b ↦ in_block s b ws ])

-- what is said after one line more
abbrev pub said_after_line : Said → ℕ → Bytes → Option Said
said_after_line s line text = if all_pass is_allowed text then said_after_words s line (words text) else None

-- does one of the lines end a block?
abbrev pub block_ends : List Bytes → Bool
block_ends [] = false
block_ends (l ∷ ls) = ends_block (words l) || block_ends ls

-- the first faulty line, where this one is faulty and these are behind it: that of the block that it is in, if the block doesn't end
abbrev pub blamed : Option ℕ → ℕ → List Bytes → ℕ
blamed None line behind = line
blamed (Some first) line behind = if block_ends behind then line else first

-- the first line of the block that is open
abbrev pub open_line : Said → Option ℕ
open_line s = option_map (λ b. b.line) s.block

abbrev pub begins_block : List Bytes → Bool
begins_block [] = false
begins_block (w ∷ ws) = is_word w (codes "proc")

-- a line out of a block that is neither skipped nor begins one: a command, faulty or not
abbrev pub is_command_line : Said → List Bytes → Bool
is_command_line s ws = is_none s.block && (not (is_skipped ws) && not (begins_block ws))

-- a script's procedures, the number of each by its name, and the lines that are left, which are numbered from `line` on
pub record Preamble : Type 0 where
  pub names : Names
  pub catalog : List Procedure
  pub line : ℕ
  pub left : List Bytes

-- what was read of a text, and the lines that are left
abbrev pub as_preamble : {A : Type 0} → declared.Preamble A → Preamble
as_preamble p = record { names = p.names; catalog = p.catalog; line = p.line; left = left_lines (option_map (λ t. t.now) p.left) }

-- where the preamble ends no block is open
abbrev pub preamble_said : Said → ℕ → List Bytes → Result Preamble ScriptFault
preamble_said s n left = elim s.block [ None ↦ Ok (record { names = s.names; catalog = s.procedures; line = n; left = left }) | Some b ↦ Err (Line b.line) ]

-- the preamble, where these lines follow what was said; they are numbered from n on
unfoldable pub preamble_after : Said → ℕ → List Bytes → Result Preamble ScriptFault
preamble_after s n [] = preamble_said s n []
preamble_after s n (l ∷ ls) =
    if is_command_line s (words l) then preamble_said s n (l ∷ ls)
    else elim (said_after_line s n l) [ None ↦ Err (Line (blamed (open_line s) n ls)) | Some t ↦ preamble_after t (n + 1) ls ]

-- the preamble of a text of at most 4,194,304 bytes, or its fault
unfoldable pub preamble_of : Bytes → Result Preamble ScriptFault
preamble_of text = if nat_le (length text) SCRIPT_BYTES then preamble_after nothing_said 1 (lines text) else Err Size

abbrev pub catalog_in : Result Preamble ScriptFault → Result (List Procedure) ScriptFault
catalog_in (Ok p) = Ok p.catalog
catalog_in (Err e) = Err e

-- the procedures of a text, or its fault; from its first command on it isn't looked at
abbrev pub catalog_of : Bytes → Result (List Procedure) ScriptFault
catalog_of text = catalog_in (preamble_of text)

-- a block whose procedure is lawful
pub record IsLawfulBlock (b : Block) : Type 0 where
  pub arity : b.arity ≤ ARGUMENTS
  pub count : length b.code ≤ INSTRUCTIONS
  pub code : first_fault (instruction_fault b.arity) b.code ≡ None

abbrev pub open_count : Option Block → ℕ
open_count None = 0
open_count (Some b) = 1

-- the procedures are lawful, and there is room for the one that is open
pub record IsLawfulSaid (s : Said) : Type 0 where
  pub procedures : first_fault procedure_fault s.procedures ≡ None
  pub room : length s.procedures + open_count s.block ≤ PROCEDURES
