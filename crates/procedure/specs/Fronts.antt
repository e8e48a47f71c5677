-- A machine with its changes as a part of a run.
use Rattle.std.specs.Prelude.{◌≡◌, ℕ, List}
use Rattle.procedure.specs.Bytes.{Bytes}
use Rattle.procedure.specs.Table.{Table, Changes}
use Rattle.procedure.specs.Procedures.{Instruction}
use Rattle.procedure.specs.Runs.{Execution, front, whole}

module _ (code : List Instruction) (args : List Bytes) (t : Table) where
  -- some first instructions of the run came this far, and made these changes
  pub record IsFront (x : Execution) (d : Changes) : Type 0 where
    pub count : ℕ
    pub same_args : x.args ≡ args
    pub progress : x.progress ≡ (front code args t count).progress
    pub changes : d ≡ (front code args t count).changes

  -- all instructions of the run ended by this outcome, with these replies and changes
  pub record IsEnd (x : Execution) (d : Changes) (c : ℕ) : Type 0 where
    pub outcome : c ≡ (whole code args t).outcome
    pub replies : x.progress.replies ≡ (whole code args t).replies
    pub changes : d ≡ (whole code args t).changes
