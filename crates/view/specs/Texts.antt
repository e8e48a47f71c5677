-- What is printed of a refusal.
use Rattle.std.specs.Prelude.{codes}
use Rattle.procedure.specs.Bytes.{Bytes}
use Rattle.view.specs.declared.publishers.AppendError.{AppendError}
use Rattle.view.specs.declared.publishers.AppendError.TheVariants as append
use Rattle.view.specs.declared.lookers.LookError.{LookError}
use Rattle.view.specs.declared.lookers.LookError.TheVariants as look

abbrev pub append_error_text : AppendError → Bytes
append_error_text append.NotFull = codes "not full"
append_error_text append.Older = codes "older"
append_error_text append.Gap = codes "gap"
append_error_text append.NoMemory = codes "no memory"

abbrev pub look_error_text : LookError → Bytes
look_error_text look.NoMemory = codes "no memory"
look_error_text look.NotEntered = codes "not entered"
