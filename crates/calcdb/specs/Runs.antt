-- What a script's commands do to a core, and what is printed of it.
use Rattle.std.specs.Prelude.{◌≡◌, ◌⊎◌, true, false, ℕ, zero, suc, codes, List, [], ◌∷◌, ◌++◌, length, replicate, Option, Some, None, Result, Ok, Err, slice_get}
use Rattle.procedure.specs.Bytes.{Bytes}
use Rattle.procedure.specs.Procedures.{Procedure}
use Rattle.commitlog.specs.Records.{Record, Call}
use Rattle.steps.specs.CoreViews.{CoreView}
use Rattle.phase.specs.Phases.{phase_text}
use Rattle.steps.specs.Refusals.{abandon_error_text, advance_error_text, begin_error_text, capture_error_text, finish_error_text, start_error_text, step_error_text}
use Rattle.image.specs.Images.{Image}
use Rattle.steps.specs.declared.captures.Captured.{Captured}
use Rattle.steps.specs.declared.captures.Captured.TheVariants.{Slot, Done}
use Rattle.steps.specs.declared.errors.CaptureError.{CaptureError}
use Rattle.steps.specs.Schedules.{HandlesAll, images_in, without_image}
use Rattle.steps.specs.declared.schedules.Event.{Event}
use Rattle.steps.specs.declared.schedules.Event.TheVariants as event
use Rattle.steps.specs.declared.schedules.Handled.{Handled}
use Rattle.steps.specs.declared.schedules.Reply.{Reply}
use Rattle.steps.specs.declared.schedules.Reply.TheVariants as reply
use Rattle.steps.specs.declared.errors.BeginError.{BeginError}
use Rattle.steps.specs.declared.errors.FinishError.{FinishError}
use Rattle.steps.specs.declared.errors.StepError.{StepError}
use Rattle.steps.specs.declared.finish.Answer.{Answer}
use Rattle.steps.specs.declared.step.Stepped.{Stepped}
use Rattle.steps.specs.declared.step.Stepped.TheVariants.{Ran, Ready}
use Rattle.std.specs.Io.KnownBytes.{Appends}
use Rattle.procedure.specs.Streams.{IsBegun}
use Rattle.calcdb.specs.declared.faults.Fault.{Fault}
use Rattle.calcdb.specs.declared.faults.Fault.TheVariants as fault
use Rattle.calcdb.specs.Output.{answer_text, image_text, key_text, numbered_text, refused_text}
use Rattle.calcdb.specs.declared.commands.Command.{Command}
use Rattle.calcdb.specs.declared.commands.Command.TheVariants as command
use Rattle.calcdb.specs.declared.commands.NewCall.{NewCall}
use Rattle.calcdb.specs.declared.run.Shown.{Shown}
use Rattle.calcdb.specs.declared.run.Shown.TheVariants as shown

-- images, in the order in which they were taken
abbrev pub Images : Type 0
Images = List Image

-- how many instructions a procedure has
abbrev pub count_of : Option Procedure → ℕ
count_of None = 0
count_of (Some p) = length p.code

abbrev pub stepped_text : Stepped → Bytes
stepped_text Ran = codes "ran\n"
stepped_text Ready = codes "ready\n"

-- the end of a scan, after so many visited places: none is left, and that number is printed, or a visit is refused
abbrev pub EndsScan : ℕ → Result Captured CaptureError → Bytes → Type 0
EndsScan n (Ok Slot) text = ⊥
EndsScan n (Ok Done) text = text ≡ numbered_text (codes "slots ") n
EndsScan n (Err e) text = text ≡ refused_text (capture_error_text e)

-- the answer that stands at a place of the log
abbrev pub answer_in : ℕ → Option Record → Bytes
answer_in place (Some (Call s n p args outcome replies)) = answer_text place outcome replies
answer_in place _ = []

abbrev pub answered_text : List Record → ℕ → Bytes
answered_text log place = answer_in place (slice_get log place)

-- an image's text, and this one where there is none
abbrev pub image_or : Option Image → Bytes → Bytes
image_or None text = text
image_or (Some i) text = image_text i

module _ {A : Type 0} where
  -- what is printed of one reply; that an image was taken is printed as the image
  abbrev pub reply_text : Reply A → Bytes
  reply_text (reply.Begin (Ok x)) = codes "ok\n"
  reply_text (reply.Begin (Err e)) = refused_text (begin_error_text e)
  reply_text (reply.Step (Ok s)) = stepped_text s
  reply_text (reply.Step (Err e)) = refused_text (step_error_text e)
  reply_text (reply.Finish (Ok a)) = answer_text a.place a.outcome a.replies
  reply_text (reply.Finish (Err e)) = refused_text (finish_error_text e)
  reply_text (reply.GiveUp (Ok x)) = codes "ok\n"
  reply_text (reply.GiveUp (Err e)) = refused_text (codes "not active")
  reply_text (reply.Start (Ok n)) = numbered_text (codes "checkpoint ") n
  reply_text (reply.Start (Err e)) = refused_text (start_error_text e)
  reply_text (reply.Advance (Ok p)) = codes "phase " ++ phase_text p ++ codes "\n"
  reply_text (reply.Advance (Err e)) = refused_text (advance_error_text e)
  reply_text (reply.Capture (Ok Slot)) = codes "slot\n"
  reply_text (reply.Capture (Ok Done)) = codes "done\n"
  reply_text (reply.Capture (Err e)) = refused_text (capture_error_text e)
  reply_text (reply.TakeImage true) = []
  reply_text (reply.TakeImage false) = codes "none\n"
  reply_text (reply.Reclaim None) = codes "none\n"
  reply_text (reply.Reclaim (Some key)) = key_text key
  reply_text (reply.Abandon (Ok n)) = numbered_text (codes "abandoned ") n
  reply_text (reply.Abandon (Err e)) = refused_text (abandon_error_text e)

  -- what is printed of one event: the image that it took, or else its reply
  abbrev pub handled_text : Handled A → Bytes
  handled_text h = image_or h.image (reply_text h.reply)

  -- what is printed of a command, where this is the log
  abbrev pub shown_text : List Record → Shown A → Bytes
  shown_text log (shown.Reply r) = reply_text r
  shown_text log (shown.Answered place) = answered_text log place
  shown_text log (shown.Image i) = image_text i
  shown_text log (shown.Scanned n) = numbered_text (codes "slots ") n

  -- the image that a command took, if it took one
  abbrev pub images_shown : Shown A → Images
  images_shown (shown.Image i) = i ∷ []
  images_shown _ = []

  -- the event by which a call begins
  abbrev pub Begins : NewCall (List Bytes) → Event A → Type 0
  Begins c (event.Begin s n p args) = (s ≡ c.session) × (n ≡ c.number) × (p ≡ c.procedure) × (args ≡ c.args)
  Begins c _ = ⊥

  -- the end of a call: one event, and where its reply is a refusal one by which the call is given up
  abbrev pub Ends : ℕ → List (Event A) → List (Handled A) → Bytes → Type 0
  Ends s es rs text =
      ((a : Answer A) × (es ≡ event.Finish s ∷ []) × (rs ≡ without_image (reply.Finish (Ok a)) ∷ []) × (text ≡ answer_text a.place a.outcome a.replies))
      ⊎ ((e : FinishError) × (r : Handled A) × (es ≡ event.Finish s ∷ event.GiveUp s ∷ []) × (rs ≡ without_image (reply.Finish (Err e)) ∷ r ∷ []) × (text ≡ refused_text (finish_error_text e)))

  -- a call that has begun and has at most so many instructions left: steps until one answers that it is ready, and its end; where a step is refused the call is given up
  abbrev pub GoesOn : ℕ → ℕ → List (Event A) → List (Handled A) → Bytes → Type 0
  GoesOn zero s es rs text = Ends s es rs text
  GoesOn (suc n) s es rs text =
      ((fs : List (Event A)) × (qs : List (Handled A)) × (es ≡ event.Step s ∷ fs) × (rs ≡ without_image (reply.Step (Ok Ran)) ∷ qs) × GoesOn n s fs qs text)
      ⊎ ((fs : List (Event A)) × (qs : List (Handled A)) × (es ≡ event.Step s ∷ fs) × (rs ≡ without_image (reply.Step (Ok Ready)) ∷ qs) × Ends s fs qs text)
      ⊎ ((e : StepError) × (r : Handled A) × (es ≡ event.Step s ∷ event.GiveUp s ∷ []) × (rs ≡ without_image (reply.Step (Err e)) ∷ r ∷ []) × (text ≡ refused_text (step_error_text e)))

  -- the whole of a call
  abbrev pub Calls : List Procedure → NewCall (List Bytes) → List (Event A) → List (Handled A) → Bytes → Type 0
  Calls catalog c es rs text =
      ((e : BeginError) × (b : Event A) × Begins c b × (es ≡ b ∷ []) × (rs ≡ without_image (reply.Begin (Err e)) ∷ []) × (text ≡ refused_text (begin_error_text e)))
      ⊎ ((b : Event A) × (fs : List (Event A)) × (qs : List (Handled A)) × Begins c b × (es ≡ b ∷ fs) × (rs ≡ without_image (reply.Begin (Ok tt)) ∷ qs) ×
      GoesOn (count_of (slice_get catalog c.procedure)) c.session fs
      qs text)

  -- one event, and what is printed of it
  abbrev pub Says : Event A → List (Event A) → List (Handled A) → Bytes → Type 0
  Says e es rs text = (r : Handled A) × (es ≡ e ∷ []) × (rs ≡ r ∷ []) × (text ≡ handled_text r)

  -- captures, each of which visits a place but for the last one
  abbrev pub Scans : List (Event A) → List (Handled A) → Bytes → Type 0
  Scans es rs text =
      (n : ℕ) × (last : Result Captured CaptureError) × (es ≡ replicate n event.Capture ++ event.Capture ∷ []) ×
      (rs ≡ replicate n (without_image (reply.Capture (Ok Slot))) ++ without_image (reply.Capture last) ∷ []) × EndsScan n
      last text

  -- the events that a command is, with what came of each, and what is printed of them
  abbrev pub Carries : List Procedure → Command (List Bytes) → List (Event A) → List (Handled A) → Bytes → Type 0
  Carries catalog (command.Begin c) es rs text = (b : Event A) × Begins c b × Says b es rs text
  Carries catalog (command.Step s) es rs text = Says (event.Step s) es rs text
  Carries catalog (command.Finish s) es rs text = Says (event.Finish s) es rs text
  Carries catalog (command.GiveUp s) es rs text = Says (event.GiveUp s) es rs text
  Carries catalog (command.Call c) es rs text = Calls catalog c es rs text
  Carries catalog (command.Start k) es rs text = Says (event.Start k) es rs text
  Carries catalog command.Advance es rs text = Says event.Advance es rs text
  Carries catalog command.Capture es rs text = Says event.Capture es rs text
  Carries catalog command.Scan es rs text = Scans es rs text
  Carries catalog command.TakeImage es rs text = Says event.TakeImage es rs text
  Carries catalog command.Reclaim es rs text = Says event.Reclaim es rs text
  Carries catalog command.Abandon es rs text = Says event.Abandon es rs text

  -- the commands, one after another
  abbrev pub CarriesAll : List Procedure → List (Command (List Bytes)) → List (Event A) → List (Handled A) → Bytes → Type 0
  CarriesAll catalog [] es rs text = (es ≡ []) × (rs ≡ []) × (text ≡ [])
  CarriesAll catalog (c ∷ cs) es rs text =
      (fs : List (Event A)) × (gs : List (Event A)) × (qs : List (Handled A)) × (ps : List (Handled A)) × (first : Bytes) × (others : Bytes) × (es ≡ fs ++ gs) × (rs ≡ qs ++ ps) ×
      (text ≡ first ++ others) × Carries catalog c fs qs first × CarriesAll catalog cs gs ps others

  -- events that a core carried out, what is printed of them, and the images that they took, in order
  pub record Carried (P : List (Event A) → List (Handled A) → Bytes → Type 0) (old new : CoreView) (text : Bytes) (images : Images) : Type 0 where
    pub events : List (Event A)
    pub each : List (Handled A)
    pub handled : HandlesAll events old new each
    pub says : P events each text
    pub taken : images ≡ images_in each

module _ (A : Type 0) where
  -- some of the commands from the front on, carried out
  pub record HasRun (catalog : List Procedure) (commands : List (Command (List Bytes))) (old new : CoreView) (text : Bytes) : Type 0 where
    pub front : List (Command (List Bytes))
    pub left : List (Command (List Bytes))
    pub parts : commands ≡ front ++ left
    pub images : Images
    pub carried : Carried {A = A} (CarriesAll catalog front) old new text images

-- what went out, by how the writing ended: all of the text, or a beginning of it
abbrev pub Sent : Result (Unit {0}) Fault → Option Bytes → Option Bytes → Bytes → Type 0
Sent (Ok x) old new text = Appends old new text
Sent (Err fault.Write) old new text = IsBegun old new text
Sent (Err fault.NoMemory) old new text = IsBegun old new text
Sent (Err _) old new text = ⊥
