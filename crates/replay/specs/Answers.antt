-- What is answered to what bytes say as a log.
use Rattle.std.specs.Prelude.{◌≡◌, List}
use Rattle.commitlog.specs.Records.{Record}
use Rattle.commitlog.specs.LogReadings.{Reading, Log, NotALog, Damaged}
use Rattle.commitlog.specs.declared.formats.Version.{Version}
use Rattle.commitlog.specs.declared.formats.LogHeader.{LogHeader}
use Rattle.commitlog.specs.declared.decoding.Ending.{Ending}
use Rattle.commitlog.specs.declared.decoding.LogError.{LogError}
use Rattle.commitlog.specs.declared.decoding.LogError.TheVariants as log

-- what OfLog says of an answer to the log, or that the answer is the refusal of bytes that are none
abbrev pub ToReading : {X : Type 0} → (LogError → X) → (Version → LogHeader → List Record → Ending → X → Type 0) → Reading → X → Type 0
ToReading refusal OfLog NotALog x = x ≡ refusal log.NotALog
ToReading refusal OfLog (Damaged j) x = x ≡ refusal (log.Damaged j)
ToReading refusal OfLog (Log v h l e) x = OfLog v h l e x
