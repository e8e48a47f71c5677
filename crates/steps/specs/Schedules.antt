-- What the events of a schedule do to a core, and how they are answered.
use Rattle.std.specs.Prelude.{◌≡◌, ◌↔◌, ℕ, Bool, true, false, List, [], ◌∷◌, ◌++◌, flat_map, map, option_to_list, slice_index_or, slice_set, Option, Some, None, Ok, OnOk, OnErr, IfOk}
use Rattle.std.specs.Prelude.{IsOk, IfSome, IsSome, is_ok, is_some, suc}
use Rattle.std.specs.declared.result.Result.{Result}
use Rattle.procedure.specs.Bytes.{Bytes}
use Rattle.commitlog.specs.Records.{Record, Call}
use Rattle.phase.specs.Phases.{successor}
use Rattle.phase.specs.declared.phases.Phase.{Phase}
use Rattle.commitlog.specs.Histories.{number_of, phase_of}
use Rattle.image.specs.Images.{Image}
use Rattle.image.specs.Merges.{table_of}
use Rattle.image.specs.declared.images.Kind.{Kind}
use Rattle.steps.specs.CoreViews.{CoreView, Finishes, GivesUp, AnswersCall, OfOpen, Steps, front_of, one_more, open_at, stepped_as, with_call, Begun}
use Rattle.steps.specs.Checkpointing.{AdvancesTo, CapturesAs, abandoned, started, taken}
use Rattle.steps.specs.CutImages.{IsTaken}
use Rattle.steps.specs.Reclaiming.{IsReclaimable, Reclaims}
use Rattle.steps.specs.Refusals.{Answers, abandon_refusal, advance_refusal, begin_refusal, capture_refusal, finish_refusal, start_refusal, step_refusal}
use Rattle.steps.specs.declared.captures.Captured.{Captured}
use Rattle.steps.specs.declared.checkpoints.Way.TheVariants.{Whole}
use Rattle.steps.specs.declared.errors.AbandonError.{AbandonError}
use Rattle.steps.specs.declared.errors.AbandonError.TheVariants as abandoning
use Rattle.steps.specs.declared.errors.AdvanceError.{AdvanceError}
use Rattle.steps.specs.declared.errors.AdvanceError.TheVariants as advancing
use Rattle.steps.specs.declared.errors.CaptureError.{CaptureError}
use Rattle.steps.specs.declared.errors.CaptureError.TheVariants as capturing
use Rattle.steps.specs.declared.errors.StartError.{StartError}
use Rattle.steps.specs.declared.errors.StartError.TheVariants as starting
use Rattle.steps.specs.declared.errors.BeginError.{BeginError}
use Rattle.steps.specs.declared.errors.BeginError.TheVariants as beginning
use Rattle.steps.specs.declared.errors.StepError.{StepError}
use Rattle.steps.specs.declared.errors.StepError.TheVariants as stepping
use Rattle.steps.specs.declared.errors.FinishError.{FinishError}
use Rattle.steps.specs.declared.errors.FinishError.TheVariants as finishing
use Rattle.steps.specs.declared.errors.NotActive.{NotActive}
use Rattle.steps.specs.declared.finish.Answer.{Answer}
use Rattle.steps.specs.declared.schedules.Event.{Event}
use Rattle.steps.specs.declared.schedules.Event.TheVariants as event
use Rattle.steps.specs.declared.schedules.Handled.{Handled}
use Rattle.steps.specs.declared.schedules.Reply.{Reply}
use Rattle.steps.specs.declared.schedules.Reply.TheVariants as reply
use Rattle.steps.specs.declared.step.Stepped.{Stepped}

-- ONE EVENT

-- where a call begins the session has it, and where none does nothing changes
pub record BeginsAs (old new : CoreView) (s n p : ℕ) (args : List Bytes) (r : Result (Unit {0}) BeginError) : Type 0 where
  pub begun : OnOk r (new ≡ with_call old s (Some (record { number = n; procedure = p; args = args; start = phase_of old.log; count = 0 })))
  pub refused : OnErr r (new ≡ old)
  pub refusal : Answers (begin_refusal old s n p args) beginning.NoMemory r

pub record StepsAs (old new : CoreView) (s : ℕ) (r : Result Stepped StepError) : Type 0 where
  pub stepped : OnOk r (OfOpen old s (Steps old new s))
  pub ready : IfOk r (λ x. OfOpen old s (λ c. x ≡ stepped_as (front_of old (one_more c))))
  pub refused : OnErr r (new ≡ old)
  pub refusal : Answers (step_refusal old s) stepping.NoMemory r

module _ {A : Type 0} where
  pub record FinishesAs (old new : CoreView) (s : ℕ) (r : Result (Answer A) FinishError) : Type 0 where
    pub finished : OnOk r (OfOpen old s (Finishes old new s))
    pub answer : IfOk r (λ a. OfOpen old s (λ c. AnswersCall old c a.place a.outcome a.replies))
    pub refused : OnErr r (new ≡ old)
    pub refusal : Answers (finish_refusal old s) finishing.NoMemory r

pub record GivesUpAs (old new : CoreView) (s : ℕ) (r : Result (Unit {0}) NotActive) : Type 0 where
  pub given_up : OnOk r (GivesUp old new s)
  pub refused : OnErr r (new ≡ old)
  pub active : IsOk r ↔ IsSome (open_at old s)

pub record StartsAs (old new : CoreView) (k : Kind) (r : Result ℕ StartError) : Type 0 where
  pub started : OnOk r (new ≡ started old k Whole)
  pub number : IfOk r (λ n. n ≡ suc (number_of old.log))
  pub refused : OnErr r (new ≡ old)
  pub refusal : Answers (start_refusal old) starting.NoMemory r

pub record AdvancesAs (old new : CoreView) (r : Result Phase AdvanceError) : Type 0 where
  pub advanced : IfOk r (λ p. AdvancesTo p old new)
  pub phase : IfOk r (λ p. p ≡ successor (phase_of old.log))
  pub refused : OnErr r (new ≡ old)
  pub refusal : Answers (advance_refusal old) advancing.NoMemory r

pub record VisitsAs (old new : CoreView) (r : Result Captured CaptureError) : Type 0 where
  pub captured : IfOk r (λ x. CapturesAs x old new)
  pub refused : OnErr r (new ≡ old)
  pub refusal : Answers (capture_refusal old) capturing.NoMemory r

-- the image that waits is taken: it is that of its cut
pub record TakesImage (old new : CoreView) (i : Option Image) : Type 0 where
  pub image : i ≡ old.checkpoint.waiting
  pub taken : new ≡ taken old
  pub cut : IfSome i (λ i. IsTaken old.catalog (table_of old.opening) old.log i)

pub record ReclaimsAs (old new : CoreView) (gone : Option Bytes) : Type 0 where
  pub key : IsReclaimable old gone
  pub reclaimed : Reclaims old new gone

pub record AbandonsAs (old new : CoreView) (r : Result ℕ AbandonError) : Type 0 where
  pub abandoned : OnOk r (new ≡ abandoned old)
  pub number : IfOk r (λ n. n ≡ number_of old.log)
  pub refused : OnErr r (new ≡ old)
  pub refusal : Answers (abandon_refusal old) abandoning.NoMemory r

module _ {A : Type 0} where
  -- the reply to an event that takes no image
  abbrev pub without_image : Reply A → Handled A
  without_image r = record { reply = r; image = None }

  abbrev pub Handles : Event A → (old new : CoreView) → Handled A → Type 0
  Handles (event.Begin s n p args) old new x = (r : Result (Unit {0}) BeginError) × (x ≡ without_image (reply.Begin r)) × BeginsAs old new s n p args r
  Handles (event.Step s) old new x = (r : Result Stepped StepError) × (x ≡ without_image (reply.Step r)) × StepsAs old new s r
  Handles (event.Finish s) old new x = (r : Result (Answer A) FinishError) × (x ≡ without_image (reply.Finish r)) × FinishesAs old new s r
  Handles (event.GiveUp s) old new x = (r : Result (Unit {0}) NotActive) × (x ≡ without_image (reply.GiveUp r)) × GivesUpAs old new s r
  Handles (event.Start k) old new x = (r : Result ℕ StartError) × (x ≡ without_image (reply.Start r)) × StartsAs old new k r
  Handles event.Advance old new x = (r : Result Phase AdvanceError) × (x ≡ without_image (reply.Advance r)) × AdvancesAs old new r
  Handles event.Capture old new x = (r : Result Captured CaptureError) × (x ≡ without_image (reply.Capture r)) × VisitsAs old new r
  Handles event.TakeImage old new x = (i : Option Image) × (x ≡ record { reply = reply.TakeImage (is_some i); image = i }) × TakesImage old new i
  Handles event.Reclaim old new x = (gone : Option Bytes) × (x ≡ without_image (reply.Reclaim gone)) × ReclaimsAs old new gone
  Handles event.Abandon old new x = (r : Result ℕ AbandonError) × (x ≡ without_image (reply.Abandon r)) × AbandonsAs old new r

  -- ALL OF THEM

  -- the events, one after another, each with what came of it
  abbrev pub HandlesAll : List (Event A) → (old new : CoreView) → List (Handled A) → Type 0
  HandlesAll [] old new [] = old ≡ new
  HandlesAll [] old new (h ∷ hs) = ⊥
  HandlesAll (e ∷ es) old new [] = ⊥
  HandlesAll (e ∷ es) old new (h ∷ hs) = (between : CoreView) × Handles e old between h × HandlesAll es between new hs

  -- the replies, one for each event
  abbrev pub replies_in : List (Handled A) → List (Reply A)
  replies_in hs = map (λ h. h.reply) hs

  abbrev pub image_in : Handled A → List Image
  image_in h = option_to_list h.image

  -- the images that were taken, in their order
  abbrev pub images_in : List (Handled A) → List Image
  images_in hs = flat_map image_in hs

  -- the events, one after another, with the replies to them and the images that they took
  pub record HandlesWith (events : List (Event A)) (old new : CoreView) (replies : List (Reply A)) (images : List Image) : Type 0 where
    pub each : List (Handled A)
    pub handled : HandlesAll events old new each
    pub replied : replies ≡ replies_in each
    pub taken : images ≡ images_in each

  -- WHAT WAS ANSWERED, BY THE EVENTS AND THE REPLIES ALONE

  abbrev pub is_accepted : Reply A → Bool
  is_accepted (reply.Begin r) = is_ok r
  is_accepted (reply.Step r) = is_ok r
  is_accepted (reply.Finish r) = is_ok r
  is_accepted (reply.GiveUp r) = is_ok r
  is_accepted (reply.Start r) = is_ok r
  is_accepted (reply.Advance r) = is_ok r
  is_accepted (reply.Capture r) = is_ok r
  is_accepted (reply.TakeImage took) = took
  is_accepted (reply.Reclaim key) = is_some key
  is_accepted (reply.Abandon r) = is_ok r

  -- with what each session's open call was begun, where an event is accepted
  abbrev pub begun_by : Event A → Bool → List (Option Begun) → List (Option Begun)
  begun_by e false b = b
  begun_by (event.Begin s n p args) true b = slice_set b s (Some (record { number = n; procedure = p; args = args }))
  begun_by (event.Finish s) true b = slice_set b s None
  begun_by (event.GiveUp s) true b = slice_set b s None
  begun_by _ true b = b

  -- a call at its place, with what its begin gave and what its answer gives
  abbrev pub answered_call : ℕ → Option Begun → Answer A → List (ℕ × Record)
  answered_call s None a = []
  answered_call s (Some b) a = (a.place, Call s b.number b.procedure b.args a.outcome a.replies) ∷ []

  abbrev pub answer_to : Event A → Reply A → List (Option Begun) → List (ℕ × Record)
  answer_to (event.Finish s) (reply.Finish (Ok a)) b = answered_call s (slice_index_or b s None) a
  answer_to _ _ b = []

  -- the calls of the accepted finishes, in order, each at the place that its answer gives
  abbrev pub answered_calls : List (Event A) → List (Reply A) → List (Option Begun) → List (ℕ × Record)
  answered_calls [] rs b = []
  answered_calls (e ∷ es) [] b = []
  answered_calls (e ∷ es) (r ∷ rs) b = answer_to e r b ++ answered_calls es rs (begun_by e (is_accepted r) b)

  -- does a reply say that an image was taken?
  abbrev pub is_taken : Reply A → Bool
  is_taken (reply.TakeImage took) = took
  is_taken _ = false
