-- Lines of commands.
use Rattle.std.specs.Prelude.{ℕ, ◌-◌, ◌^◌, Bool, true, false, ◌&&◌, ◌||◌, if◌then◌else◌, nat_le, codes, List, [], ◌∷◌, ◌++◌, length, slice_index_or, Option, Some, None}
use Rattle.std.specs.Cmp.Lexicographic.{slice_cmp}
use Rattle.std.specs.Coded.{Coded, coded_list, coded_ℕ}
use Rattle.std.specs.FinMap as map
use Rattle.std.specs.Ordering.{nat_cmp}
use Rattle.image.specs.declared.images.Kind.{Kind}
use Rattle.image.specs.declared.images.Kind.TheVariants.{Full, Partial}
use Rattle.procedure.specs.Bytes.{Bytes}
use Rattle.procedure.specs.Table.{KeyMap}
use Rattle.calcdb.specs.Reads.{◌>>=◌}
use Rattle.calcdb.specs.Lines.{all_pass, alone_as, no_word, word_as}
use Rattle.calcdb.specs.Values.{decimal_of, value_of}
use Rattle.calcdb.specs.Instructions.{named_in}
use Rattle.calcdb.specs.declared.commands.Command.{Command}
use Rattle.calcdb.specs.declared.commands.Command.TheVariants as command
use Rattle.calcdb.specs.declared.commands.NewCall.{NewCall}
use Rattle.calcdb.specs.declared.commands.CommandName.{CommandName}
use Rattle.calcdb.specs.declared.commands.CommandName.TheVariants as named

-- the number of each procedure that is defined
abbrev pub Names : Type 0
Names = KeyMap ℕ

-- by which they are told apart
abbrev pub names_code : Coded Names
names_code = map.code {R = slice_cmp nat_cmp} (coded_list coded_ℕ) coded_ℕ

abbrev pub is_letter : ℕ → Bool
is_letter b = nat_le 97 b && nat_le b 122

abbrev pub is_letter_or_digit : ℕ → Bool
is_letter_or_digit b = is_letter b || (nat_le 48 b && nat_le b 57)

-- 1 to 32 small letters and digits, the first of them a letter
abbrev pub is_name : Bytes → Bool
is_name w = nat_le (length w) 32 && (is_letter (slice_index_or w 0 0) && all_pass is_letter_or_digit w)

abbrev pub procedure_of : Names → Bytes → Option ℕ
procedure_of names w = if is_name w then map.get names w else None

-- a session's number, at most this, and the words behind it
abbrev pub session_at : ℕ → List Bytes → Option (ℕ × List Bytes)
session_at most = word_as (decimal_of most)

abbrev pub number_at : List Bytes → Option (ℕ × List Bytes)
number_at = word_as (decimal_of (2 ^ 64 - 1))

abbrev pub procedure_at : Names → List Bytes → Option (ℕ × List Bytes)
procedure_at names = word_as (procedure_of names)

-- the values that words are, where each is read so
unfoldable pub values_by : (Bytes → Option Bytes) → List Bytes → Option (List Bytes)
values_by read [] = Some []
values_by read (w ∷ ws) = do
  v ← read w
  vs ← values_by read ws
  Some (v ∷ vs)

-- `S N PROC ARG..`, where a session is at most this and each argument is read so
unfoldable pub new_call_of : ℕ → (Bytes → Option Bytes) → Names → List Bytes → Option (NewCall (List Bytes))
new_call_of most read names ws = do
  s ← session_at most ws
  n ← number_at s.1
  p ← procedure_at names n.1
  args ← values_by read p.1
  Some (record { session = s.0; number = n.0; procedure = p.0; args = args })

-- `S` alone
unfoldable pub session_of : List Bytes → Option ℕ
session_of = alone_as (decimal_of 65535)

abbrev pub kind_named : Bytes → Option Kind
kind_named = named_in ((codes "full", Full) ∷ (codes "partial", Partial) ∷ [])

-- `full` or `partial` alone
unfoldable pub kind_in : List Bytes → Option Kind
kind_in = alone_as kind_named

-- a command without a word behind its name
abbrev pub without_arguments : Command (List Bytes) → List Bytes → Option (Command (List Bytes))
without_arguments c ws = no_word ws >>= λ x. Some c

abbrev pub command_name : Bytes → Option CommandName
command_name =
    named_in
    ((codes "begin", named.Begin) ∷ (codes "step", named.Step) ∷ (codes "finish", named.Finish) ∷ (codes "giveup", named.GiveUp)
    ∷ (codes "call", named.Call) ∷ (codes "start", named.Start) ∷ (codes "advance", named.Advance) ∷ (codes "capture", named.Capture)
    ∷ (codes "scan", named.Scan) ∷ (codes "image", named.TakeImage) ∷ (codes "reclaim", named.Reclaim)
    ∷ (codes "abandon", named.Abandon) ∷ [])

-- no word stands behind the name of such a command
abbrev pub stands_alone : CommandName → Bool
stands_alone c =
    elim c [
      | named.Begin ↦ false
      | named.Step ↦ false
      | named.Finish ↦ false
      | named.GiveUp ↦ false
      | named.Call ↦ false
      | named.Start ↦ false
      | named.Advance ↦ true
      | named.Capture ↦ true
      | named.Scan ↦ true
      | named.TakeImage ↦ true
      | named.Reclaim ↦ true
      | named.Abandon ↦ true
    ]

abbrev pub end_after : CommandName → List Bytes → Option (Unit {0})
end_after c ws = if stands_alone c then no_word ws else Some tt

-- the command that a line's words are
unfoldable pub command_of : Names → List Bytes → Option (Command (List Bytes))
command_of names ws = do
  c ← word_as command_name ws
  elim c.0 [
    | named.Begin ↦ (new_call_of 65535 value_of names c.1 >>= λ n. Some (command.Begin n))
    | named.Step ↦ (session_of c.1 >>= λ s. Some (command.Step s))
    | named.Finish ↦ (session_of c.1 >>= λ s. Some (command.Finish s))
    | named.GiveUp ↦ (session_of c.1 >>= λ s. Some (command.GiveUp s))
    | named.Call ↦ (new_call_of 65535 value_of names c.1 >>= λ n. Some (command.Call n))
    | named.Start ↦ (kind_in c.1 >>= λ k. Some (command.Start k))
    | named.Advance ↦ without_arguments command.Advance c.1
    | named.Capture ↦ without_arguments command.Capture c.1
    | named.Scan ↦ without_arguments command.Scan c.1
    | named.TakeImage ↦ without_arguments command.TakeImage c.1
    | named.Reclaim ↦ without_arguments command.Reclaim c.1
    | named.Abandon ↦ without_arguments command.Abandon c.1
  ]

-- commands with one more behind them, which a line's words are as they are read so
abbrev pub with_more : {C : Type 0} → (Names → List Bytes → Option C) → Names → List C → List Bytes → Option (List C)
with_more reads names cs ws = reads names ws >>= λ c. Some (cs ++ c ∷ [])
