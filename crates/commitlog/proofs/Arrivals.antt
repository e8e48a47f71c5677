-- What came from a reader.
use Rattle.std.proofs.Common.{◌≡◌, ◌++◌, Option, Some, None, Result, Ok, Err, sym, ap, subst, ◌∙◌}
use Rattle.std.specs.Io.KnownBytes.{Consumes, IsAtEnd}
use Rattle.std.proofs.lemmas.List.{append-nil}
use Rattle.procedure.specs.Bytes.{Bytes}
use Rattle.commitlog.specs.declared.decoding.StoredLog.{StoredLog}
use Rattle.commitlog.specs.declared.decoding.LogError.TheVariants as refused
use Rattle.commitlog.specs.declared.streams.ReadError.{ReadError}
use Rattle.commitlog.specs.declared.streams.ReadError.TheVariants as read_refused
use Rattle.commitlog.specs.LogReadings.{Reading, NotALog, Damaged, IsReading}
use Rattle.commitlog.specs.StoredLogs.{reading_of}
use Rattle.commitlog.specs.Streams.{ReadsAs, IsAnswerFrom, TellsFrom}
use Rattle.commitlog.proofs.Fields.{some_is}
use Rattle.commitlog.proofs.OneReadings.{one_reading}

-- all that was known was read
all_read : (old new : Option Bytes) (text got : Bytes) → old ≡ Some text → Consumes old new got → IsAtEnd new → got ≡ text
all_read None new text got e c end = absurd cc
all_read (Some x) None text got e c end = absurd c
all_read (Some x) (Some y) text got e c end = sym (c ∙ ap (λ (t : Bytes). got ++ t) end ∙ append-nil got) ∙ some_is x text e

reads_so : (old new : Option Bytes) (text : Bytes) (r s : Reading) → old ≡ Some text → ReadsAs old new s → IsReading text r → r ≡ s
reads_so old new text r s e a b =
    one_reading text r s b (subst (λ (t : Bytes). IsReading t s) (all_read old new text a.0 e a.1 a.2) a.3)

pub tells_from : {A : Type 0} (old new : Option Bytes) (text : Bytes) (o : Result (StoredLog A) ReadError) (r : Reading) → old ≡ Some text → IsAnswerFrom old new o → IsReading text r →
    TellsFrom o r
tells_from old new text (Ok log) r e a b = reads_so old new text r (reading_of log) e a b
tells_from old new text (Err read_refused.ReadFault) r e a b = tt
tells_from old new text (Err (read_refused.Log refused.NotALog)) r e a b = reads_so old new text r NotALog e a b
tells_from old new text (Err (read_refused.Log (refused.Damaged i))) r e a b = reads_so old new text r (Damaged i) e a b
tells_from old new text (Err (read_refused.Log refused.NoMemory)) r e a b = tt
