-- Logs that were read, and logs that were checked, by what they say.
use Rattle.std.specs.Prelude.{◌≡◌, List, Result, Ok, Err}
use Rattle.procedure.specs.Bytes.{Bytes}
use Rattle.commitlog.specs.LogReadings.{Damaged, IsReading, Log, NotALog, Reading}
use Rattle.commitlog.specs.Records.{Record}
use Rattle.commitlog.specs.declared.checking.CheckedLog.{CheckedLog}
use Rattle.commitlog.specs.declared.decoding.Ending.{Ending}
use Rattle.commitlog.specs.declared.decoding.LogError.{LogError}
use Rattle.commitlog.specs.declared.decoding.LogError.TheVariants as refused
use Rattle.commitlog.specs.declared.decoding.StoredLog.{StoredLog}
use Rattle.commitlog.specs.declared.formats.LogHeader.{LogHeader}
use Rattle.commitlog.specs.declared.formats.Version.{Version}

abbrev pub reading_of : {A : Type 0} → StoredLog A → Reading
reading_of log = Log log.version log.header log.records log.ending

abbrev pub checked_reading : CheckedLog → Reading
checked_reading log = Log log.version log.header log.records log.ending

-- the text is that of some log
abbrev pub IsLog : Bytes → Type 0
IsLog text = (v : Version) × (h : LogHeader) × (rs : List Record) × (e : Ending) × IsReading text (Log v h rs e)

module _ {X : Type 0} (reads : X → Reading) where
  -- what was answered is a reading of the text; only a log's records take memory
  abbrev pub AnswersBy : Bytes → Result X LogError → Type 0
  AnswersBy text (Ok log) = IsReading text (reads log)
  AnswersBy text (Err refused.NotALog) = IsReading text NotALog
  AnswersBy text (Err (refused.Damaged i)) = IsReading text (Damaged i)
  AnswersBy text (Err refused.NoMemory) = IsLog text

  -- it is this one, unless memory ran out
  abbrev pub TellsBy : Result X LogError → Reading → Type 0
  TellsBy (Ok log) r = r ≡ reads log
  TellsBy (Err refused.NotALog) r = r ≡ NotALog
  TellsBy (Err (refused.Damaged i)) r = r ≡ Damaged i
  TellsBy (Err refused.NoMemory) r = Unit {0}

abbrev pub IsAnswer : {A : Type 0} → Bytes → Result (StoredLog A) LogError → Type 0
IsAnswer {A} = AnswersBy (reading_of {A = A})

abbrev pub Tells : {A : Type 0} → Result (StoredLog A) LogError → Reading → Type 0
Tells {A} = TellsBy (reading_of {A = A})

-- the same of a log that was checked
abbrev pub IsCheck : Bytes → Result CheckedLog LogError → Type 0
IsCheck = AnswersBy checked_reading

abbrev pub Checks : Result CheckedLog LogError → Reading → Type 0
Checks = TellsBy checked_reading
