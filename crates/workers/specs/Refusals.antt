-- What a run tells of a core that refuses.
use Rattle.steps.specs.declared.errors.AdvanceError.TheVariants as advance
use Rattle.steps.specs.declared.errors.CaptureError.TheVariants as capture
use Rattle.steps.specs.declared.errors.CaptureToError.TheVariants as capture_to
use Rattle.steps.specs.declared.errors.StartError.TheVariants as start
use Rattle.workers.specs.declared.errors.CheckpointRefusal.{CheckpointRefusal}
use Rattle.workers.specs.declared.errors.CheckpointRefusal.TheVariants.{Start, Advance, Capture, CaptureTo, NoMemory}
use Rattle.workers.specs.declared.errors.StreamError.{StreamError}
use Rattle.workers.specs.declared.errors.StreamError.TheVariants as refused

-- want of memory is one thing, wherever the core says it
abbrev pub stream_error_of : CheckpointRefusal → StreamError
stream_error_of NoMemory = refused.NoMemory
stream_error_of (Start start.NoMemory) = refused.NoMemory
stream_error_of (Advance advance.NoMemory) = refused.NoMemory
stream_error_of (Capture capture.NoMemory) = refused.NoMemory
stream_error_of (CaptureTo capture_to.NoMemory) = refused.NoMemory
stream_error_of r = refused.Refused r
