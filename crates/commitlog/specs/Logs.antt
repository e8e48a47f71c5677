-- A log in memory.
use Rattle.std.specs.Prelude.{ℕ, List, codes}
use Rattle.procedure.specs.Bytes.{Bytes}
use Rattle.commitlog.specs.Records.{Record}
use Rattle.commitlog.specs.declared.logs.PushError.{PushError}
use Rattle.commitlog.specs.declared.logs.PushError.TheVariants.{LogFull, NoMemory}

-- the records, and how many more can be pushed without taking memory
pub record Log : Type 0 where
  pub records : List Record
  pub room : ℕ

-- what is printed of a refusal
abbrev pub push_error_text : PushError → Bytes
push_error_text LogFull = codes "log full"
push_error_text NoMemory = codes "no memory"
