-- What is printed of a log's bytes that are refused.
use Rattle.std.specs.Prelude.{codes, ◌++◌}
use Rattle.std.specs.Fmt.{decimal}
use Rattle.procedure.specs.Bytes.{Bytes}
use Rattle.commitlog.specs.declared.encoding.EncodeError.{EncodeError}
use Rattle.commitlog.specs.declared.encoding.EncodeError.TheVariants as encode_refused
use Rattle.commitlog.specs.declared.decoding.LogError.{LogError}
use Rattle.commitlog.specs.declared.decoding.LogError.TheVariants as refused

abbrev pub encode_error_text : EncodeError → Bytes
encode_error_text encode_refused.TooLarge = codes "too large"
encode_error_text encode_refused.NoMemory = codes "no memory"

abbrev pub log_error_text : LogError → Bytes
log_error_text refused.NotALog = codes "not a log"
log_error_text (refused.Damaged i) = codes "damaged " ++ decimal i
log_error_text refused.NoMemory = codes "no memory"
