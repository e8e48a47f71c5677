-- A machine that writes into its table as a part of a run.
use Rattle.std.specs.Prelude.{◌≡◌, ℕ, ◌↔◌, Bool, IsTrue, List, [], ◌∷◌, Option, Some, None, Contains, map}
use Rattle.procedure.specs.Bytes.{Bytes, Cell}
use Rattle.procedure.specs.Table.{Table, value_at, with_cell, with_cells}
use Rattle.procedure.specs.Needs.{touch_of, change_of}
use Rattle.procedure.specs.Procedures.{Instruction}
use Rattle.procedure.specs.Runs.{Progress, Execution, next_need, advanced}
use Rattle.procedure.specs.Copies.{Copy, copy_of, carried_out, held_in_copy}

-- the table after a change, if there is one
abbrev pub changed : Table → Option (Bytes × Cell) → Table
changed u None = u
changed u (Some e) = with_cell u e.0 e.1

-- what a change replaces
abbrev pub replaced : Table → Option (Bytes × Cell) → List (Bytes × Cell)
replaced u None = []
replaced u (Some e) = (e.0, value_at u e.0) ∷ []

-- one instruction of a call that writes into this table: how far it came, and what it changes
unfoldable pub advanced_on : List Bytes → Table → Progress → Progress
advanced_on args u p = advanced args p (held_in_copy u (touch_of (next_need args p)))

unfoldable pub change_on : List Bytes → Table → Progress → Option (Bytes × Cell)
change_on args u p = let n = next_need args p in change_of n (held_in_copy u (touch_of n))

-- a call that came this far, with its table and the keys that it wrote
abbrev pub copy_at : Progress → Table → (Bytes → Bool) → Copy
copy_at p u w = record { registers = p.registers; replies = p.replies; outcome = p.outcome; table = u; written = w }

module _ (code : List Instruction) (args : List Bytes) (t : Table) where
  -- some first instructions were carried out on the table, whose writes replaced this
  pub record IsCarried (x : Execution) (u : Table) (before : List (Bytes × Cell)) : Type 0 where
    pub written : Bytes → Bool
    pub same_args : x.args ≡ args
    pub left : carried_out args x.progress.rest (copy_at x.progress u written) ≡ carried_out args code (copy_of t)
    pub keys : (q : Bytes) → Contains (map (λ e. e.0) before) q ↔ IsTrue (written q)
    pub undone : with_cells u before ≡ t

  -- all instructions were carried out on the table, ended by this outcome
  pub record IsCarriedOut (x : Execution) (u : Table) (before : List (Bytes × Cell)) (c : ℕ) : Type 0 where
    pub outcome : c ≡ (carried_out args code (copy_of t)).outcome
    pub replies : x.progress.replies ≡ (carried_out args code (copy_of t)).replies
    pub table : u ≡ (carried_out args code (copy_of t)).table
    pub keys : (q : Bytes) → Contains (map (λ e. e.0) before) q ↔ IsTrue ((carried_out args code (copy_of t)).written q)
    pub undone : with_cells u before ≡ t
