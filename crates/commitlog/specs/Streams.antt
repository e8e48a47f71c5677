-- A log that goes to a writer, or comes from a reader.
use Rattle.std.specs.Prelude.{◌≡◌, Option, Result, Ok, Err, codes}
use Rattle.std.specs.Io.KnownBytes.{Consumes, IsAtEnd}
use Rattle.procedure.specs.Bytes.{Bytes}
use Rattle.procedure.specs.declared.streams.Unread.{Unread}
use Rattle.procedure.specs.declared.streams.Unread.TheVariants as unread
use Rattle.commitlog.specs.LogReadings.{Reading, NotALog, Damaged, IsReading}
use Rattle.commitlog.specs.StoredLogs.{reading_of}
use Rattle.commitlog.specs.LogTexts.{log_error_text}
use Rattle.commitlog.specs.declared.decoding.StoredLog.{StoredLog}
use Rattle.commitlog.specs.declared.decoding.LogError.TheVariants as refused
use Rattle.commitlog.specs.declared.streams.ReadError.{ReadError}
use Rattle.commitlog.specs.declared.streams.ReadError.TheVariants as read_refused

-- a failed read stays one, and so does want of memory
abbrev pub unread_as : Unread → ReadError
unread_as unread.ReadFault = read_refused.ReadFault
unread_as unread.NoMemory = read_refused.Log refused.NoMemory

-- all that was read, to the end, has the reading
abbrev pub ReadsAs : Option Bytes → Option Bytes → Reading → Type 0
ReadsAs old new r = (text : Bytes) × Consumes old new text × IsAtEnd new × IsReading text r

-- what was answered is the reading of all that was read
abbrev pub IsAnswerFrom : {A : Type 0} → Option Bytes → Option Bytes → Result (StoredLog A) ReadError → Type 0
IsAnswerFrom old new (Ok log) = ReadsAs old new (reading_of log)
IsAnswerFrom old new (Err read_refused.ReadFault) = Unit {0}
IsAnswerFrom old new (Err (read_refused.Log refused.NotALog)) = ReadsAs old new NotALog
IsAnswerFrom old new (Err (read_refused.Log (refused.Damaged i))) = ReadsAs old new (Damaged i)
IsAnswerFrom old new (Err (read_refused.Log refused.NoMemory)) = Unit {0}

-- it is this one, unless a read failed or memory ran out
abbrev pub TellsFrom : {A : Type 0} → Result (StoredLog A) ReadError → Reading → Type 0
TellsFrom (Ok log) r = r ≡ reading_of log
TellsFrom (Err read_refused.ReadFault) r = Unit {0}
TellsFrom (Err (read_refused.Log refused.NotALog)) r = r ≡ NotALog
TellsFrom (Err (read_refused.Log (refused.Damaged i))) r = r ≡ Damaged i
TellsFrom (Err (read_refused.Log refused.NoMemory)) r = Unit {0}

-- what is printed of a refusal
abbrev pub log_read_error_text : ReadError → Bytes
log_read_error_text read_refused.ReadFault = codes "read fault"
log_read_error_text (read_refused.Log e) = log_error_text e
