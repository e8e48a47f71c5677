-- The refusals of what stands below, as those of a recovery and of an audit, and what is printed of them.
use Rattle.std.specs.Prelude.{◌++◌, codes}
use Rattle.std.specs.Fmt.{decimal}
use Rattle.procedure.specs.Bytes.{Bytes}
use Rattle.commitlog.specs.declared.decoding.LogError.{LogError}
use Rattle.commitlog.specs.declared.decoding.LogError.TheVariants as log
use Rattle.image.specs.declared.merges.MergeError.{MergeError}
use Rattle.image.specs.declared.merges.MergeError.TheVariants as merge
use Rattle.replay.specs.declared.errors.RecoverError.{RecoverError}
use Rattle.replay.specs.declared.errors.RecoverError.TheVariants as recover
use Rattle.replay.specs.declared.errors.AuditError.{AuditError}
use Rattle.replay.specs.declared.errors.AuditError.TheVariants as audit

-- images that aren't merged
abbrev pub of_merge : MergeError → RecoverError
of_merge merge.TooMany = recover.TooMany
of_merge merge.NotFull = recover.NotFull
of_merge (merge.NotPartial i) = recover.NotPartial i
of_merge (merge.Gap i) = recover.Gap i
of_merge merge.NoMemory = recover.NoMemory

-- bytes that aren't read as a log
abbrev pub of_log : LogError → RecoverError
of_log log.NotALog = recover.NotALog
of_log (log.Damaged i) = recover.Damaged i
of_log log.NoMemory = recover.NoMemory

abbrev pub audit_of_log : LogError → AuditError
audit_of_log log.NotALog = audit.NotALog
audit_of_log (log.Damaged i) = audit.Damaged i
audit_of_log log.NoMemory = audit.NoMemory

abbrev pub recover_error_text : RecoverError → Bytes
recover_error_text recover.TooMany = codes "too many"
recover_error_text recover.NotFull = codes "not full"
recover_error_text (recover.NotPartial i) = codes "not partial " ++ decimal i
recover_error_text (recover.Gap i) = codes "gap " ++ decimal i
recover_error_text recover.NotALog = codes "not a log"
recover_error_text (recover.Damaged i) = codes "damaged " ++ decimal i
recover_error_text recover.WrongCatalog = codes "wrong catalog"
recover_error_text recover.WrongOpening = codes "wrong opening"
recover_error_text recover.PlaceOutside = codes "place outside"
recover_error_text (recover.Diverged i) = codes "diverged " ++ decimal i
recover_error_text recover.NoMemory = codes "no memory"

abbrev pub audit_error_text : AuditError → Bytes
audit_error_text audit.NotAnOpening = codes "not an opening"
audit_error_text audit.NotALog = codes "not a log"
audit_error_text (audit.Damaged i) = codes "damaged " ++ decimal i
audit_error_text audit.WrongCatalog = codes "wrong catalog"
audit_error_text audit.WrongOpening = codes "wrong opening"
audit_error_text (audit.Disorder i) = codes "disorder " ++ decimal i
audit_error_text (audit.Diverged i) = codes "diverged " ++ decimal i
audit_error_text audit.TooMany = codes "too many"
audit_error_text audit.NoMemory = codes "no memory"
