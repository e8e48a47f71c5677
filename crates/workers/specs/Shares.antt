-- How many answers have a place.
use Rattle.std.specs.Prelude.{ℕ, Bool, true, false, List, sum_by}
use Rattle.steps.specs.declared.errors.BeginError.TheVariants as begin
use Rattle.steps.specs.declared.errors.FinishError.TheVariants as finish
use Rattle.steps.specs.declared.errors.StepError.TheVariants as step
use Rattle.workers.specs.declared.errors.CallRefusal.{CallRefusal}
use Rattle.workers.specs.declared.errors.CallRefusal.TheVariants.{Begin, Step, Finish}
use Rattle.workers.specs.declared.shares.Given.{Given}
use Rattle.workers.specs.declared.shares.Given.TheVariants.{Answered, Refused, TurnsOut}
use Rattle.workers.specs.declared.shares.Response.{Response}
use Rattle.workers.specs.declared.shares.Share.{Share}

-- whether a session can't go on: the table or the log is full, or memory is wanting
abbrev pub stops_session : CallRefusal → Bool
stops_session (Begin begin.NoMemory) = true
stops_session (Step step.TableFull) = true
stops_session (Step step.NoMemory) = true
stops_session (Finish finish.LogFull) = true
stops_session (Finish finish.NoMemory) = true
stops_session _ = false

module _ {A : Type 0} where
  -- and after this answer
  abbrev pub stops : Given A → Bool
  stops (Answered a) = false
  stops (Refused r) = stops_session r
  stops TurnsOut = false

  -- 1 where the answer has a place
  abbrev pub gained : Given A → ℕ
  gained (Answered a) = 1
  gained (Refused r) = 0
  gained TurnsOut = 0

  -- how many answers of a session have a place
  abbrev pub answered : List (Response A) → ℕ
  answered answers = sum_by (λ r. gained r.given) answers

  -- and of all sessions
  abbrev pub all_answered : {T : Type 0} → List (Share T A) → ℕ
  all_answered shares = sum_by (λ s. answered s.answers.items) shares
