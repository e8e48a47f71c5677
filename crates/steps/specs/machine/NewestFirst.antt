-- The log as the machine adds to it: a history written newest record first. `proofs/log/` makes these words those of the crate
-- `commitlog`, which read a log from its oldest record on.
use Rattle.std.specs.Prelude.{◌≡◌, ℕ, ◌==◌, ◌⊎◌, Bool, false, cond, if◌then◌else◌, ◌||◌, ◌&&◌, List, [], ◌∷◌, length, slice_get, Option, Some, None, is_some}
use Rattle.procedure.specs.Bytes.{Bytes}
use Rattle.procedure.specs.Table.{Table, Changes, value_at, change_at, merged}
use Rattle.procedure.specs.Procedures.{Procedure}
use Rattle.procedure.specs.Runs.{whole, committed}
use Rattle.phase.specs.declared.phases.Phase.{Phase}
use Rattle.phase.specs.declared.phases.Phase.TheVariants.{Rest, Resolve, Complete}
use Rattle.image.specs.declared.images.Kind.{Kind}
use Rattle.image.specs.declared.images.Kind.TheVariants.{Full, Partial}
use Rattle.commitlog.specs.Records.{Record, Token, Call}
use Rattle.commitlog.specs.Histories.{code_of, Takes, IsAbove, Follows}
use Rattle.commitlog.specs.Cuts.{is_resolve, in_full}

module _ (c : List Procedure) (t : Table) where
  -- the table after the history's calls
  unfoldable pub history_table : List Record → Table
  history_table [] = t
  history_table (Token p n ∷ h) = history_table h
  history_table (Call s n p args o r ∷ h) = let u = history_table h in merged u (committed (whole (code_of c p) args u))

  -- each call's outcome and replies are those of its run at its place
  abbrev pub IsLegalHistory : List Record → Type 0
  IsLegalHistory [] = Unit {0}
  IsLegalHistory (Token p n ∷ h) = IsLegalHistory h
  IsLegalHistory (Call s n p args o r ∷ h) =
      Takes (slice_get c p) (length args) × (o ≡ (whole (code_of c p) args (history_table h)).outcome) × (r ≡ (whole (code_of c p) args (history_table h)).replies) × IsLegalHistory h

-- the number of the session's last call
unfoldable pub history_last_number : ℕ → List Record → Option ℕ
history_last_number s [] = None
history_last_number s (Token p n ∷ h) = history_last_number s h
history_last_number s (Call s' n p args o r ∷ h) = if s' == s then Some n else history_last_number s h

-- in each session the numbers rise
abbrev pub IsOrderlyHistory : List Record → Type 0
IsOrderlyHistory [] = Unit {0}
IsOrderlyHistory (Token p n ∷ h) = IsOrderlyHistory h
IsOrderlyHistory (Call s n p args o r ∷ h) = IsAbove (history_last_number s h) n × IsOrderlyHistory h

-- the phase, and the number of its checkpoint
abbrev pub history_phase : List Record → Phase
history_phase [] = Rest
history_phase (Token p n ∷ h) = p
history_phase (Call s n p args o r ∷ h) = history_phase h

abbrev pub history_number : List Record → ℕ
history_number [] = 0
history_number (Token p n ∷ h) = n
history_number (Call s n p args o r ∷ h) = history_number h

-- the tokens follow one another in their cycle
abbrev pub IsCyclicHistory : List Record → Type 0
IsCyclicHistory [] = Unit {0}
IsCyclicHistory (Token p n ∷ h) = Follows (history_phase h) (history_number h) p n × IsCyclicHistory h
IsCyclicHistory (Call s n p args o r ∷ h) = IsCyclicHistory h

-- the records before the resolve token of checkpoint n
unfoldable pub before : ℕ → List Record → List Record
before n [] = []
before n (Token p m ∷ h) = if is_resolve p && (m == n) then h else before n h
before n (Call s m p args o r ∷ h) = before n h

-- the resolve token of n is there
abbrev pub history_resolves : ℕ → List Record → Type 0
history_resolves n [] = ⊥
history_resolves n (Token Resolve m ∷ h) = (m ≡ n) ⊎ history_resolves n h
history_resolves n (_ ∷ h) = history_resolves n h

abbrev pub last_finished_at : Phase → ℕ → ℕ → ℕ
last_finished_at Complete n m = n
last_finished_at _ n m = m

-- the last checkpoint whose complete token is there
unfoldable pub history_last_finished : List Record → ℕ
history_last_finished [] = 0
history_last_finished (Token p n ∷ h) = last_finished_at p n (history_last_finished h)
history_last_finished (Call s n p args o r ∷ h) = history_last_finished h

module _ (c : List Procedure) (t : Table) where
  -- the keys that were written since the resolve token of checkpoint n
  unfoldable pub since : ℕ → List Record → Bytes → Bool
  since n [] q = false
  since n (Token p m ∷ h) q = if is_resolve p && (m == n) then false else since n h q
  since n (Call s m p args o r ∷ h) q = is_some (change_at (committed (whole (code_of c p) args (history_table c t h))) q) || since n h q

-- an image with its kind, as the machine makes it
pub record MachineImage : Type 0 where
  pub kind : Kind
  pub number : ℕ
  pub base : ℕ
  pub place : ℕ
  pub entries : Changes

-- the table at the cut of checkpoint n
abbrev pub at : List Procedure → Table → ℕ → List Record → Table
at c t n h = history_table c t (before n h)

-- the image of the records before the cut
pub record IsFull (c : List Procedure) (t : Table) (cut : List Record) (i : MachineImage) : Type 0 where
  pub base : i.base ≡ i.number
  pub place : i.place ≡ length cut
  pub entries : (q : Bytes) → change_at i.entries q ≡ in_full (value_at (history_table c t cut) q)

pub record IsPartial (c : List Procedure) (t : Table) (cut : List Record) (i : MachineImage) : Type 0 where
  pub base : i.base ≡ history_last_finished cut
  pub place : i.place ≡ length cut
  pub entries : (q : Bytes) → change_at i.entries q ≡ cond (since c t (history_last_finished cut) cut q) (Some (value_at (history_table c t cut) q)) None

abbrev pub IsCut : List Procedure → Table → List Record → Kind → MachineImage → Type 0
IsCut c t cut Full i = IsFull c t cut i
IsCut c t cut Partial i = IsPartial c t cut i
