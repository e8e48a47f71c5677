-- What is printed of each refusal.
use Rattle.std.specs.Prelude.{◌++◌, codes}
use Rattle.std.specs.Fmt.{decimal}
use Rattle.procedure.specs.Bytes.{Bytes}
use Rattle.steps.specs.Refusals.{advance_error_text, begin_error_text, capture_error_text, capture_to_error_text, finish_error_text, start_error_text, step_error_text}
use Rattle.workers.specs.declared.errors.CallRefusal.{CallRefusal}
use Rattle.workers.specs.declared.errors.CallRefusal.TheVariants as call
use Rattle.workers.specs.declared.errors.CheckpointRefusal.{CheckpointRefusal}
use Rattle.workers.specs.declared.errors.CheckpointRefusal.TheVariants as checkpoint
use Rattle.workers.specs.declared.errors.StreamError.{StreamError}
use Rattle.workers.specs.declared.errors.StreamError.TheVariants as stream
use Rattle.workers.specs.declared.errors.GatherError.{GatherError}
use Rattle.workers.specs.declared.errors.GatherError.TheVariants as gather

-- that of the step that was refused
abbrev pub call_refusal_text : CallRefusal → Bytes
call_refusal_text (call.Begin e) = begin_error_text e
call_refusal_text (call.Step e) = step_error_text e
call_refusal_text (call.Finish e) = finish_error_text e

abbrev pub checkpoint_refusal_text : CheckpointRefusal → Bytes
checkpoint_refusal_text (checkpoint.Start e) = start_error_text e
checkpoint_refusal_text (checkpoint.Advance e) = advance_error_text e
checkpoint_refusal_text (checkpoint.Capture e) = capture_error_text e
checkpoint_refusal_text (checkpoint.CaptureTo e) = capture_to_error_text e
checkpoint_refusal_text checkpoint.NoMemory = codes "no memory"

abbrev pub stream_error_text : StreamError → Bytes
stream_error_text stream.NoRing = codes "no ring"
stream_error_text stream.NoEnd = codes "no end"
stream_error_text stream.BadForm = codes "bad form"
stream_error_text stream.TurnsOut = codes "turns out"
stream_error_text stream.NoMemory = codes "no memory"
stream_error_text (stream.Refused e) = checkpoint_refusal_text e

abbrev pub gather_error_text : GatherError → Bytes
gather_error_text gather.Stranger = codes "stranger"
gather_error_text gather.Double = codes "double"
gather_error_text (gather.Missing place) = codes "missing at " ++ decimal place
gather_error_text gather.NoMemory = codes "no memory"
