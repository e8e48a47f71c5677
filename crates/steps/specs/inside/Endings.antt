-- When an open call is answered.
use Rattle.std.specs.Prelude.{Bool, not, Option}
use Rattle.std.specs.Option.{option_or}
use Rattle.procedure.specs.Runs.{Progress, is_nil}
use Rattle.steps.specs.Refusals.{refused_unless}
use Rattle.steps.specs.declared.errors.FinishError.{FinishError}
use Rattle.steps.specs.declared.errors.FinishError.TheVariants.{LogFull, NotReady}

-- why it isn't, by how far it came and whether the log is full
abbrev pub unanswered : Progress → (full : Bool) → Option FinishError
unanswered p full = option_or (refused_unless (is_nil p.rest) NotReady) (refused_unless (not full) LogFull)
