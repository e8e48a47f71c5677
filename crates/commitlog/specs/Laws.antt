-- How histories grow and fall apart.
use Rattle.std.specs.Prelude.{◌≡◌, ◌⊎◌, ◌≤◌, ◌<◌, ℕ, ◌||◌, List, [], ◌∷◌, ◌++◌, length, slice_get, Some}
use Rattle.procedure.specs.Bytes.{Bytes, Cell}
use Rattle.procedure.specs.Table.{Table}
use Rattle.procedure.specs.Procedures.{Procedure}
use Rattle.commitlog.specs.Records.{Record, Call}
use Rattle.commitlog.specs.Histories.{after, table_after, IsAnsweredAfter, IsLegal, RisesAfter, IsOrderly, FollowsAfter, IsCyclic, phase_of, number_of, last_number, phase_after, number_after, answered_after}
use Rattle.commitlog.specs.Cuts.{HasCut, IsFinished, cut, at_cut, last_finished, finished_below, finished_after, written, IsFullImage, IsPartialImage, CutImage}

-- a longer log keeps the cut of each checkpoint that it had, the table there, and what was written before it
pub record KeepsCut (c : List Procedure) (t : Table) (l m : List Record) (n : ℕ) : Type 0 where
  pub within : cut l n ≤ length l
  pub stays : HasCut (l ++ m) n
  pub place : cut (l ++ m) n ≡ cut l n
  pub table : at_cut c t (l ++ m) n ≡ at_cut c t l n
  pub base : finished_below (l ++ m) n ≡ finished_below l n
  pub keys : (i : ℕ) (q : Bytes) → i ≤ cut l n → written c t (l ++ m) i (cut l n) q ≡ written c t l i (cut l n) q

abbrev pub KeepsCuts : Type 0
KeepsCuts = (c : List Procedure) (t : Table) (l m : List Record) (n : ℕ) → HasCut l n → KeepsCut c t l m n

-- an image of a history is one of each longer history
pub record KeepsImage (c : List Procedure) (t : Table) (l m : List Record) (i : CutImage) : Type 0 where
  pub full : IsFullImage c t l i → IsFullImage c t (l ++ m) i
  pub partial : IsPartialImage c t l i → IsPartialImage c t (l ++ m) i

abbrev pub KeepsImages : Type 0
KeepsImages = (c : List Procedure) (t : Table) (l m : List Record) (i : CutImage) → IsCyclic l → HasCut l i.number → KeepsImage c t l m i

-- a front of a history that is legal, orderly and cyclic is so too
pub record FrontIsHistory (c : List Procedure) (t : Table) (l m : List Record) : Type 0 where
  pub legal : IsLegal c t (l ++ m) → IsLegal c t l
  pub orderly : IsOrderly (l ++ m) → IsOrderly l
  pub cyclic : IsCyclic (l ++ m) → IsCyclic l

abbrev pub FrontsAreHistories : Type 0
FrontsAreHistories = (c : List Procedure) (t : Table) (l m : List Record) → FrontIsHistory c t l m

-- a history stays legal, orderly and cyclic with one record more exactly where the record may stand after it
pub record GrowsBy (c : List Procedure) (t : Table) (l : List Record) (r : Record) : Type 0 where
  pub legal : IsLegal c t l → IsAnsweredAfter c t l r → IsLegal c t (l ++ r ∷ [])
  pub orderly : IsOrderly l → RisesAfter l r → IsOrderly (l ++ r ∷ [])
  pub cyclic : IsCyclic l → FollowsAfter l r → IsCyclic (l ++ r ∷ [])
  pub last_legal : IsLegal c t (l ++ r ∷ []) → IsAnsweredAfter c t l r
  pub last_orderly : IsOrderly (l ++ r ∷ []) → RisesAfter l r
  pub last_cyclic : IsCyclic (l ++ r ∷ []) → FollowsAfter l r

abbrev pub GrowByOne : Type 0
GrowByOne = (c : List Procedure) (t : Table) (l : List Record) (r : Record) → GrowsBy c t l r

-- what a history says, with one record more
pub record SaysWith (c : List Procedure) (t : Table) (l : List Record) (r : Record) : Type 0 where
  pub table : after c t (l ++ r ∷ []) ≡ table_after c (after c t l) r
  pub phase : phase_of (l ++ r ∷ []) ≡ phase_after (phase_of l) r
  pub number : number_of (l ++ r ∷ []) ≡ number_after (number_of l) r
  pub answered : (s : ℕ) → last_number s (l ++ r ∷ []) ≡ answered_after s (last_number s l) r
  pub finished : last_finished (l ++ r ∷ []) ≡ finished_after (last_finished l) r

abbrev pub SayByOne : Type 0
SayByOne = (c : List Procedure) (t : Table) (l : List Record) (r : Record) → SaysWith c t l r

-- the keys written between two places are those written between the first and a place between them, and those between
-- that one and the second
abbrev pub WrittenJoins : Type 0
WrittenJoins =
    (c : List Procedure) (t : Table) (l : List Record) (i j k : ℕ) (q : Bytes) → i ≤ j → j ≤ k →
    written c t l i k q ≡ (written c t l i j q || written c t l j k q)

-- in an orderly history, of two calls of a session the later has the greater number
abbrev pub NumbersRise : Type 0
NumbersRise =
    (l : List Record) → IsOrderly l → (i j s m n p q : ℕ) (a b : List Bytes) (o u : ℕ) (r v : List Cell) → i < j →
    slice_get l i ≡ Some (Call s m p a o r) → slice_get l j ≡ Some (Call s n q b u v) → m < n

-- the last finished checkpoint of a cyclic history is the greatest
pub record IsGreatest (l : List Record) : Type 0 where
  pub finished : (last_finished l ≡ 0) ⊎ IsFinished l (last_finished l)
  pub greatest : (n : ℕ) → IsFinished l n → n ≤ last_finished l

-- and the last one finished before a cut is the greatest below it
pub record IsGreatestBelow (l : List Record) (n : ℕ) : Type 0 where
  pub finished : (finished_below l n ≡ 0) ⊎ IsFinished l (finished_below l n)
  pub below : finished_below l n < n
  pub greatest : (m : ℕ) → m < n → IsFinished l m → m ≤ finished_below l n
  pub has_cut : HasCut l (finished_below l n)

abbrev pub LastIsGreatest : Type 0
LastIsGreatest = (l : List Record) → IsCyclic l → IsGreatest l × ((n : ℕ) → 0 < n → HasCut l n → IsGreatestBelow l n)
