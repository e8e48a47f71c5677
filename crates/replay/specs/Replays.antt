-- A history whose calls are run whole again, one after another from a table.
use Rattle.std.specs.Prelude.{◌≡◌, ◌≤◌, ℕ, suc, List, [], ◌∷◌, take, slice_get, Some, Bool, true, false}
use Rattle.std.specs.FinMap as finite
use Rattle.procedure.specs.Table.{Table}
use Rattle.procedure.specs.Procedures.{Procedure}
use Rattle.procedure.specs.Copies.{run}
use Rattle.commitlog.specs.Records.{Record, Token, Call}
use Rattle.commitlog.specs.Histories.{EachAfter, code_of, after, IsAnswered, IsAnsweredAfter}
use Rattle.commitlog.specs.declared.decoding.Ending.{Ending}
use Rattle.commitlog.specs.declared.decoding.Ending.TheVariants.{Clean, Torn}
use Rattle.image.specs.declared.limits.TheConstants.{ENTRIES}

-- run on a table, the call gives its outcome and replies
abbrev pub IsAnsweredOn : List Procedure → Table → Record → Type 0
IsAnsweredOn c t (Token p n) = Unit {0}
IsAnsweredOn c t (Call s n p args o r) = IsAnswered c t p args o r

-- run on a table, the call leaves at most 100,000 keys
abbrev pub LeavesFewOn : List Procedure → Table → Record → Type 0
LeavesFewOn c t (Token p n) = Unit {0}
LeavesFewOn c t (Call s n p args o r) = finite.len (run (code_of c p) args t).table ≤ ENTRIES

abbrev pub LeavesFewAfter : List Procedure → Table → List Record → Record → Type 0
LeavesFewAfter c t l r = LeavesFewOn c (after c t l) r

-- run again, the call says what it said, and leaves no table that is too large
abbrev pub RunsAgain : List Procedure → Table → List Record → Record → Type 0
RunsAgain c t l r = IsAnsweredAfter c t l r × LeavesFewAfter c t l r

-- it says something else, or is no call of the catalog
abbrev pub Diverges : List Procedure → Table → List Record → Record → Type 0
Diverges c t l r = IsAnsweredAfter c t l r → ⊥

-- it says what it said, and leaves a table that is too large
abbrev pub Overflows : List Procedure → Table → List Record → Record → Type 0
Overflows c t l r = IsAnsweredAfter c t l r × (LeavesFewAfter c t l r → ⊥)

-- at a place stands a record of which F, behind records of which each is as P says
pub record IsFirst (P F : List Record → Record → Type 0) (l : List Record) (i : ℕ) : Type 0 where
  pub here : Record
  pub stands : slice_get l i ≡ Some here
  pub before : EachAfter P (take i l)
  pub fault : F (take i l) here

-- how many calls there are
abbrev pub calls_in : List Record → ℕ
calls_in [] = 0
calls_in (Token p n ∷ l) = calls_in l
calls_in (Call s n p args o r ∷ l) = suc (calls_in l)

abbrev pub is_torn : Ending → Bool
is_torn Clean = false
is_torn Torn = true
