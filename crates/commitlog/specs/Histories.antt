-- The records of a log as a history, the oldest first.
use Rattle.std.specs.Prelude.{◌≡◌, ℕ, suc, ◌<◌, ◌==◌, if◌then◌else◌, List, [], length, take, fold, slice_get, Option, Some, None}
use Rattle.procedure.specs.Bytes.{Bytes, Cell}
use Rattle.procedure.specs.Table.{Table}
use Rattle.procedure.specs.Procedures.{Instruction, Procedure}
use Rattle.procedure.specs.Copies.{run}
use Rattle.phase.specs.declared.phases.Phase.{Phase}
use Rattle.phase.specs.declared.phases.Phase.TheVariants.{Rest, Prepare, Resolve, Capture, Complete}
use Rattle.commitlog.specs.Records.{Record, Token, Call}

-- P holds of each record and the records before it
abbrev pub EachAfter : (List Record → Record → Type 0) → List Record → Type 0
EachAfter P l = (i : ℕ) (r : Record) → slice_get l i ≡ Some r → P (take i l) r

abbrev pub code_at : Option Procedure → List Instruction
code_at None = []
code_at (Some p) = p.code

-- the code of a catalog's procedure
abbrev pub code_of : List Procedure → ℕ → List Instruction
code_of c p = code_at (slice_get c p)

-- there is such a procedure, and it takes that many arguments
abbrev pub Takes : Option Procedure → ℕ → Type 0
Takes None n = ⊥
Takes (Some p) n = p.arity ≡ n

-- what a record makes of a table: a token nothing, and a call what its run leaves
abbrev pub table_after : List Procedure → Table → Record → Table
table_after c t (Token p n) = t
table_after c t (Call s n p args o r) = (run (code_of c p) args t).table

-- the table after a history's calls, run whole one after another
unfoldable pub after : List Procedure → Table → List Record → Table
after c t l = fold (table_after c) t l

-- the call gives the outcome and replies of its procedure run whole on a table
pub record IsAnswered (c : List Procedure) (t : Table) (p : ℕ) (args : List Bytes) (o : ℕ) (r : List Cell) : Type 0 where
  pub procedure : Takes (slice_get c p) (length args)
  pub outcome : o ≡ (run (code_of c p) args t).outcome
  pub replies : r ≡ (run (code_of c p) args t).replies

abbrev pub IsAnsweredAfter : List Procedure → Table → List Record → Record → Type 0
IsAnsweredAfter c t l (Token p n) = Unit {0}
IsAnsweredAfter c t l (Call s n p args o r) = IsAnswered c (after c t l) p args o r

-- legal: each call gives what its run gives on the table after those before it
abbrev pub IsLegal : List Procedure → Table → List Record → Type 0
IsLegal c t l = EachAfter (IsAnsweredAfter c t) l

abbrev pub answered_after : ℕ → Option ℕ → Record → Option ℕ
answered_after s m (Token p n) = m
answered_after s m (Call u n p args o r) = if u == s then Some n else m

-- the number of a session's last call
unfoldable pub last_number : ℕ → List Record → Option ℕ
last_number s l = fold (answered_after s) None l

abbrev pub IsAbove : Option ℕ → ℕ → Type 0
IsAbove None n = Unit {0}
IsAbove (Some m) n = m < n

abbrev pub RisesAfter : List Record → Record → Type 0
RisesAfter l (Token p n) = Unit {0}
RisesAfter l (Call s n p args o r) = IsAbove (last_number s l) n

-- orderly: each call's number is above that of its session's call before it
abbrev pub IsOrderly : List Record → Type 0
IsOrderly l = EachAfter RisesAfter l

abbrev pub phase_after : Phase → Record → Phase
phase_after p (Token q n) = q
phase_after p (Call s n i args o r) = p

-- the phase of the last token; at first it is rest
unfoldable pub phase_of : List Record → Phase
phase_of l = fold phase_after Rest l

abbrev pub number_after : ℕ → Record → ℕ
number_after n (Token p m) = m
number_after n (Call s m i args o r) = n

-- the number of the last token
unfoldable pub number_of : List Record → ℕ
number_of l = fold number_after 0 l

-- which token may follow in phase p of checkpoint n; from resolve and capture a checkpoint may also be abandoned
abbrev pub Follows : Phase → ℕ → Phase → ℕ → Type 0
Follows Rest n Prepare m = m ≡ suc n
Follows Prepare n Resolve m = m ≡ n
Follows Resolve n Capture m = m ≡ n
Follows Resolve n Rest m = m ≡ n
Follows Capture n Complete m = m ≡ n
Follows Capture n Rest m = m ≡ n
Follows Complete n Rest m = m ≡ n
Follows _ n _ m = ⊥

abbrev pub FollowsAfter : List Record → Record → Type 0
FollowsAfter l (Token p n) = Follows (phase_of l) (number_of l) p n
FollowsAfter l (Call s n p args o r) = Unit {0}

-- cyclic: the tokens follow one another in the cycle of the phases
abbrev pub IsCyclic : List Record → Type 0
IsCyclic l = EachAfter FollowsAfter l
