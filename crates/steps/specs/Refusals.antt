-- When calls are refused, by the first condition that holds, and the printed names of the refusals.
use Rattle.std.specs.Prelude.{◌≡◌, ◌⊎◌, ℕ, ◌==◌, Bool, true, false, not, ◌&&◌, nat_lt, nat_le, List, [], ◌∷◌, length, slice_get, codes, Option, Some, None, is_some, is_none, Ok, Err}
use Rattle.std.specs.declared.result.Result.{Result}
use Rattle.std.specs.Option.{option_or}
use Rattle.procedure.specs.Bytes.{Bytes}
use Rattle.procedure.specs.Procedures.{Procedure}
use Rattle.procedure.specs.declared.limits.TheConstants.{SESSIONS, VALUE_BYTES}
use Rattle.phase.specs.declared.phases.Phase.{Phase}
use Rattle.phase.specs.declared.phases.Phase.TheVariants.{Rest, Prepare, Resolve, Capture, Complete}
use Rattle.commitlog.specs.Histories.{last_number, phase_of}
use Rattle.commitlog.specs.declared.limits.TheConstants as log
use Rattle.procedure.specs.Runs.{has_ended}
use Rattle.record_store.specs.Stores.{Slots, records}
use Rattle.record_store.specs.declared.limits.TheConstants.{STORE_RECORDS}
use Rattle.steps.specs.CoreViews.{CheckpointView, CoreView, Underway, any_open, front_of, is_barred, makes_next, open_at, touch_next}
use Rattle.steps.specs.declared.checkpoints.Way.{Way}
use Rattle.steps.specs.declared.checkpoints.Way.TheVariants.{Streamed, Whole}
use Rattle.steps.specs.declared.errors.AbandonError.{AbandonError}
use Rattle.steps.specs.declared.errors.AbandonError.TheVariants as abandoning
use Rattle.steps.specs.declared.errors.AdvanceError.{AdvanceError}
use Rattle.steps.specs.declared.errors.AdvanceError.TheVariants as advancing
use Rattle.steps.specs.declared.errors.CaptureError.{CaptureError}
use Rattle.steps.specs.declared.errors.CaptureError.TheVariants as capturing
use Rattle.steps.specs.declared.errors.CaptureToError.{CaptureToError}
use Rattle.steps.specs.declared.errors.CaptureToError.TheVariants as sending
use Rattle.steps.specs.declared.errors.StartError.{StartError}
use Rattle.steps.specs.declared.errors.StartError.TheVariants as starting
use Rattle.steps.specs.declared.errors.StepError.{StepError}
use Rattle.steps.specs.declared.errors.StepError.TheVariants as stepping
use Rattle.steps.specs.declared.errors.FinishError.{FinishError}
use Rattle.steps.specs.declared.errors.FinishError.TheVariants as finishing
use Rattle.steps.specs.declared.errors.OpenError.{OpenError}
use Rattle.steps.specs.declared.errors.OpenError.TheVariants as opening
use Rattle.steps.specs.declared.errors.BeginError.{BeginError}
use Rattle.steps.specs.declared.errors.BeginError.TheVariants.{NoSession, NoProcedure, Arity, ArgSize, SessionBusy, OldNumber, NoMemory}

-- has the checkpoint that runs a cut? between its resolve token and its end
abbrev pub is_cutting : Phase → Bool
is_cutting Resolve = true
is_cutting Capture = true
is_cutting _ = false

abbrev pub open_error_text : OpenError → Bytes
open_error_text opening.NotAnOpening = codes "not an opening"
open_error_text opening.NoMemory = codes "no memory"

abbrev pub begin_error_text : BeginError → Bytes
begin_error_text NoSession = codes "no session"
begin_error_text NoProcedure = codes "no procedure"
begin_error_text Arity = codes "arity"
begin_error_text ArgSize = codes "arg size"
begin_error_text SessionBusy = codes "session busy"
begin_error_text OldNumber = codes "old number"
begin_error_text NoMemory = codes "no memory"

-- the refusal, where the test fails
abbrev pub refused_unless : {E : Type 0} → Bool → E → Option E
refused_unless true e = None
refused_unless false e = Some e

-- does the procedure, if there is one, take so many arguments?
abbrev pub takes : Option Procedure → ℕ → Bool
takes None n = false
takes (Some p) n = p.arity == n

abbrev pub all_fit : List Bytes → Bool
all_fit [] = true
all_fit (b ∷ bs) = nat_le (length b) VALUE_BYTES && all_fit bs

abbrev pub is_above : Option ℕ → ℕ → Bool
is_above None n = true
is_above (Some m) n = nat_lt m n

-- why a call doesn't begin, want of memory apart
abbrev pub begin_refusal : CoreView → (session number procedure : ℕ) → List Bytes → Option BeginError
begin_refusal v session number procedure args =
    option_or (refused_unless (nat_lt session SESSIONS) NoSession)
    (option_or (refused_unless (is_some (slice_get v.catalog procedure)) NoProcedure)
    (option_or (refused_unless (takes (slice_get v.catalog procedure) (length args)) Arity)
    (option_or (refused_unless (all_fit args) ArgSize)
    (option_or (refused_unless (is_none (open_at v session)) SessionBusy)
    (refused_unless (is_above (last_number session v.log) number) OldNumber)))))

-- what is answered is the refusal, or, where there is none, want of memory
abbrev pub Answers : {X E : Type 0} → Option E → E → Result X E → Type 0
Answers refusal no_memory (Ok x) = refusal ≡ None
Answers refusal no_memory (Err e) = (refusal ≡ Some e) ⊎ ((refusal ≡ None) × (e ≡ no_memory))

abbrev pub step_error_text : StepError → Bytes
step_error_text stepping.NotActive = codes "not active"
step_error_text stepping.AlreadyReady = codes "already ready"
step_error_text stepping.Conflict = codes "conflict"
step_error_text stepping.TableFull = codes "table full"
step_error_text stepping.NoMemory = codes "no memory"

abbrev pub is_store_full : Slots → Bool
is_store_full slots = nat_le STORE_RECORDS (records slots)

abbrev pub unstepped : CoreView → (session : ℕ) → Option Underway → Option StepError
unstepped v session None = Some stepping.NotActive
unstepped v session (Some c) =
    option_or (refused_unless (not (has_ended (front_of v c))) stepping.AlreadyReady)
    (option_or (refused_unless (not (is_barred v session (touch_next v c))) stepping.Conflict)
    (refused_unless (not (is_store_full v.slots && makes_next v c)) stepping.TableFull))

-- why an instruction isn't executed, want of memory apart
abbrev pub step_refusal : CoreView → (session : ℕ) → Option StepError
step_refusal v session = unstepped v session (open_at v session)

abbrev pub finish_error_text : FinishError → Bytes
finish_error_text finishing.NotActive = codes "not active"
finish_error_text finishing.NotReady = codes "not ready"
finish_error_text finishing.LogFull = codes "log full"
finish_error_text finishing.NoMemory = codes "no memory"

abbrev pub unfinished : CoreView → Option Underway → Option FinishError
unfinished v None = Some finishing.NotActive
unfinished v (Some c) =
    option_or (refused_unless (has_ended (front_of v c)) finishing.NotReady)
    (refused_unless (not (length v.log == log.LOG_RECORDS)) finishing.LogFull)

-- why a call isn't answered, want of memory apart
abbrev pub finish_refusal : CoreView → (session : ℕ) → Option FinishError
finish_refusal v session = unfinished v (open_at v session)

-- CHECKPOINTS

abbrev pub start_error_text : StartError → Bytes
start_error_text starting.NotAtRest = codes "not at rest"
start_error_text starting.NotTaken = codes "not taken"
start_error_text starting.LogFull = codes "log full"
start_error_text starting.NoMemory = codes "no memory"

abbrev pub advance_error_text : AdvanceError → Bytes
advance_error_text advancing.AtRest = codes "at rest"
advance_error_text advancing.StillActive = codes "still active"
advance_error_text advancing.NotScanned = codes "not scanned"
advance_error_text advancing.LogFull = codes "log full"
advance_error_text advancing.NoMemory = codes "no memory"

abbrev pub capture_error_text : CaptureError → Bytes
capture_error_text capturing.NotCapturing = codes "not capturing"
capture_error_text capturing.WrongWay = codes "wrong way"
capture_error_text capturing.NoMemory = codes "no memory"

abbrev pub capture_to_error_text : CaptureToError → Bytes
capture_to_error_text sending.NotCapturing = codes "not capturing"
capture_to_error_text sending.WrongWay = codes "wrong way"
capture_to_error_text sending.RingFull = codes "ring full"
capture_to_error_text sending.NoMemory = codes "no memory"

abbrev pub abandon_error_text : AbandonError → Bytes
abandon_error_text abandoning.NotAbandonable = codes "not abandonable"
abandon_error_text abandoning.WrongWay = codes "wrong way"
abandon_error_text abandoning.LogFull = codes "log full"
abandon_error_text abandoning.NoMemory = codes "no memory"

abbrev pub is_log_full : CoreView → Bool
is_log_full v = length v.log == log.LOG_RECORDS

abbrev pub is_rest : Phase → Bool
is_rest Rest = true
is_rest _ = false

-- do the entries of the checkpoint leave one by one?
abbrev pub is_streamed : Way → Bool
is_streamed Whole = false
is_streamed Streamed = true

-- has what the last checkpoint made been taken?
abbrev pub nothing_waits : CheckpointView → Bool
nothing_waits k = is_none k.waiting && is_none k.header

-- why a checkpoint doesn't start, want of memory apart
abbrev pub start_refusal : CoreView → Option StartError
start_refusal v =
    option_or (refused_unless (is_rest (phase_of v.log)) starting.NotAtRest)
    (option_or (refused_unless (nothing_waits v.checkpoint) starting.NotTaken)
    (refused_unless (not (is_log_full v)) starting.LogFull))

-- the place of a phase in their order
abbrev pub rank : Phase → ℕ
rank Rest = 0
rank Prepare = 1
rank Resolve = 2
rank Capture = 3
rank Complete = 4

-- did the call start in another phase?
abbrev pub started_elsewhere : Phase → Underway → Bool
started_elsewhere p c = not (rank c.start == rank p)

-- do open calls keep the phase from ending?
abbrev pub is_held : Phase → List (Option Underway) → Bool
is_held Rest calls = false
is_held Prepare calls = any_open (started_elsewhere Prepare) calls
is_held Resolve calls = any_open (started_elsewhere Resolve) calls
is_held Capture calls = false
is_held Complete calls = any_open (started_elsewhere Complete) calls

-- does the scan keep it from ending?
abbrev pub is_scanning : Phase → CheckpointView → Bool
is_scanning Capture k = nat_lt k.cursor k.bound
is_scanning _ k = false

-- why the phase doesn't change, want of memory apart
abbrev pub advance_refusal : CoreView → Option AdvanceError
advance_refusal v =
    option_or (refused_unless (not (is_rest (phase_of v.log))) advancing.AtRest)
    (option_or (refused_unless (not (is_held (phase_of v.log) v.calls)) advancing.StillActive)
    (option_or (refused_unless (not (is_scanning (phase_of v.log) v.checkpoint)) advancing.NotScanned)
    (refused_unless (not (is_log_full v)) advancing.LogFull)))

abbrev pub is_capture : Phase → Bool
is_capture Capture = true
is_capture _ = false

abbrev pub is_way : Way → Way → Bool
is_way Whole w = not (is_streamed w)
is_way Streamed w = is_streamed w

-- why a scan in a way doesn't go on: the phase is another, or the way of the checkpoint is
abbrev pub scan_refusal : {E : Type 0} → CoreView → Way → (not_capturing wrong_way : E) → Option E
scan_refusal v way not_capturing wrong_way =
    option_or (refused_unless (is_capture (phase_of v.log)) not_capturing) (refused_unless (is_way way v.checkpoint.way) wrong_way)

-- why nothing is captured, want of memory apart
abbrev pub capture_refusal : CoreView → Option CaptureError
capture_refusal v = scan_refusal v Whole capturing.NotCapturing capturing.WrongWay

-- why nothing is captured into a ring, want of memory and of room apart
abbrev pub capture_to_refusal : CoreView → Option CaptureToError
capture_to_refusal v = scan_refusal v Streamed sending.NotCapturing sending.WrongWay

-- why a checkpoint isn't abandoned, want of memory apart
abbrev pub abandon_refusal : CoreView → Option AbandonError
abandon_refusal v =
    option_or (refused_unless (is_cutting (phase_of v.log)) abandoning.NotAbandonable)
    (option_or (refused_unless (not (is_streamed v.checkpoint.way)) abandoning.WrongWay) (refused_unless (not (is_log_full v)) abandoning.LogFull))
