-- The cut of a checkpoint: the records before its resolve token, the table there, and the images of it.
use Rattle.std.specs.Prelude.{◌≡◌, ◌⊎◌, ℕ, zero, suc, ◌==◌, Bool, true, false, if◌then◌else◌, ◌||◌, ◌&&◌, List, [], ◌∷◌, take, fold, slice_range, Option, Some, None}
use Rattle.procedure.specs.Bytes.{Bytes, Cell}
use Rattle.procedure.specs.Table.{Table, Changes, value_at, change_at}
use Rattle.procedure.specs.Procedures.{Procedure}
use Rattle.procedure.specs.Copies.{run}
use Rattle.phase.specs.declared.phases.Phase.{Phase}
use Rattle.phase.specs.declared.phases.Phase.TheVariants.{Rest, Prepare, Resolve, Capture, Complete}
use Rattle.commitlog.specs.Records.{Record, Token, Call}
use Rattle.commitlog.specs.Histories.{code_of, table_after, after}

-- the record stands in the history
abbrev pub Stands : Record → List Record → Type 0
Stands r [] = ⊥
Stands r (x ∷ l) = (x ≡ r) ⊎ Stands r l

-- the checkpoint has a cut: it was resolved, or it is 0, which stands for the opening
abbrev pub HasCut : List Record → ℕ → Type 0
HasCut l n = (n ≡ 0) ⊎ Stands (Token Resolve n) l

-- the checkpoint was finished
abbrev pub IsFinished : List Record → ℕ → Type 0
IsFinished l n = Stands (Token Complete n) l

abbrev pub is_resolve : Phase → Bool
is_resolve Resolve = true
is_resolve _ = false

-- whether a record is the resolve token of checkpoint n
abbrev pub resolves : ℕ → Record → Bool
resolves n (Token p m) = is_resolve p && (m == n)
resolves n (Call s m p args o r) = false

-- how many records stand before the resolve token of checkpoint n; all, where there is none
abbrev pub before_resolve : ℕ → List Record → ℕ
before_resolve n [] = 0
before_resolve n (r ∷ l) = if resolves n r then 0 else suc (before_resolve n l)

-- how many records stand before the cut of checkpoint n
abbrev pub cut : List Record → ℕ → ℕ
cut l zero = 0
cut l (suc n) = before_resolve (suc n) l

-- the table at the cut
abbrev pub at_cut : List Procedure → Table → List Record → ℕ → Table
at_cut c t l n = after c t (take (cut l n) l)

abbrev pub finished_after : ℕ → Record → ℕ
finished_after m (Token Complete n) = n
finished_after m (Token Rest n) = m
finished_after m (Token Prepare n) = m
finished_after m (Token Resolve n) = m
finished_after m (Token Capture n) = m
finished_after m (Call s n p args o r) = m

-- the last finished checkpoint, 0 where none is; in a cyclic history it is the greatest
unfoldable pub last_finished : List Record → ℕ
last_finished l = fold finished_after 0 l

-- the last checkpoint that was finished before the cut of n; in a cyclic history it is the greatest below n
abbrev pub finished_below : List Record → ℕ → ℕ
finished_below l n = last_finished (take (cut l n) l)

-- whether a record's call writes a key, run on a table
abbrev pub writes : List Procedure → Table → Record → Bytes → Bool
writes c t (Token p n) q = false
writes c t (Call s n p args o r) q = (run (code_of c p) args t).written q

-- whether a key is written by the calls of a list, run whole one after another from a table on
unfoldable pub written_from : List Procedure → Table → List Record → Bytes → Bool
written_from c t [] q = false
written_from c t (r ∷ l) q = writes c t r q || written_from c (table_after c t r) l q

-- whether a key is written by the calls between two places, each run alone at its place
abbrev pub written : List Procedure → Table → List Record → ℕ → ℕ → Bytes → Bool
written c t l i j q = written_from c (after c t (take i l)) (slice_range l i j) q

-- an image as plain data: its number, that of the image on which it stands, its place in the log, and what the keys
-- that it speaks of hold
pub record CutImage : Type 0 where
  pub number : ℕ
  pub base : ℕ
  pub place : ℕ
  pub entries : Changes

-- a full image speaks of the present keys
abbrev pub in_full : Cell → Option Cell
in_full None = None
in_full (Some v) = Some (Some v)

-- a partial image speaks of the written keys
abbrev pub in_partial : Bool → Cell → Option Cell
in_partial true x = Some x
in_partial false x = None

-- the full image of its checkpoint: all that the table holds at the cut
pub record IsFullImage (c : List Procedure) (t : Table) (l : List Record) (i : CutImage) : Type 0 where
  pub base : i.base ≡ i.number
  pub place : i.place ≡ cut l i.number
  pub entries : (q : Bytes) → change_at i.entries q ≡ in_full (value_at (at_cut c t l i.number) q)

-- the partial image of its checkpoint: what the keys hold at the cut that were written since the cut of the checkpoint
-- that was finished before
pub record IsPartialImage (c : List Procedure) (t : Table) (l : List Record) (i : CutImage) : Type 0 where
  pub base : i.base ≡ finished_below l i.number
  pub place : i.place ≡ cut l i.number
  pub entries :
      (q : Bytes) →
      change_at i.entries q ≡ in_partial (written c t l (cut l i.base) (cut l i.number) q) (value_at (at_cut c t l i.number) q)
