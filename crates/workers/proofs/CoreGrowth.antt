-- Each call of a core grows its log by no record but what it says.
use Rattle.std.proofs.Common.{◌≡◌, ℕ, suc, ◌+◌, add-zero, List, [], ◌∷◌, ◌++◌, Option, Some, None, refl, sym, ap, ◌∙◌}
use Rattle.std.specs.Prelude.{Ok, Err, MatchResult}
use Rattle.std.specs.declared.result.Result.{Result}
use Rattle.std.proofs.lemmas.List.{append-nil}
use Rattle.procedure.specs.Bytes.{Bytes}
use Rattle.phase.specs.declared.phases.Phase.{Phase}
use Rattle.phase.specs.declared.phases.Phase.TheVariants as phase
use Rattle.commitlog.specs.Histories.{number_of}
use Rattle.commitlog.specs.Records.{Record, Token}
use Rattle.image.specs.declared.images.Kind.{Kind}
use Rattle.pipe.specs.declared.taps.Tap.{Tap}
use Rattle.steps.specs.CoreViews.{CoreView, Finishes, Steps, Underway, answer_of, open_at}
use Rattle.steps.specs.Checkpointing.{AdvancesTo, CompletesBy, taken}
use Rattle.steps.specs.Refusals.{unfinished, unstepped}
use Rattle.steps.specs.Schedules.{AdvancesAs, BeginsAs, FinishesAs, GivesUpAs, StartsAs, StepsAs, VisitsAs}
use Rattle.steps.specs.declared.captures.Captured.{Captured}
use Rattle.steps.specs.declared.captures.Captured.TheVariants.{Slot, Done}
use Rattle.steps.specs.declared.checkpoints.Way.{Way}
use Rattle.steps.specs.declared.checkpoints.Way.TheVariants.{Streamed, Whole}
use Rattle.steps.specs.declared.errors.AdvanceError.{AdvanceError}
use Rattle.steps.specs.declared.errors.BeginError.{BeginError}
use Rattle.steps.specs.declared.errors.CaptureError.{CaptureError}
use Rattle.steps.specs.declared.errors.CaptureToError.{CaptureToError}
use Rattle.steps.specs.declared.errors.FinishError.{FinishError}
use Rattle.steps.specs.declared.errors.NotActive.{NotActive}
use Rattle.steps.specs.declared.errors.StartError.{StartError}
use Rattle.steps.specs.declared.errors.StepError.{StepError}
use Rattle.steps.specs.declared.finish.Answer.{Answer}
use Rattle.steps.specs.declared.step.Stepped.{Stepped}
use Rattle.workers.specs.Checkpointed.{call_count}
use Rattle.workers.specs.Streams.{SendsAs, StreamsAs}
use Rattle.workers.proofs.Growth.{Grows, Keeps}

-- the core is now this one, which has some records more
becomes : (old new v : CoreView) (more : List Record) (n : ℕ) → new ≡ v → v.catalog ≡ old.catalog → v.opening ≡ old.opening → v.log ≡ old.log ++ more → call_count more ≡ n → Grows old new n
becomes old new v more n is catalog opening log count =
    record {
      more = more;
      catalog = ap (λ (x : CoreView). x.catalog) is ∙ catalog;
      opening = ap (λ (x : CoreView). x.opening) is ∙ opening;
      log = ap (λ (x : CoreView). x.log) is ∙ log;
      count = count;
    }

-- or one with the same log
keeps : (old new v : CoreView) → new ≡ v → v.catalog ≡ old.catalog → v.opening ≡ old.opening → v.log ≡ old.log → Keeps old new
keeps old new v is catalog opening log =
    record {
      catalog = ap (λ (x : CoreView). x.catalog) is ∙ catalog;
      opening = ap (λ (x : CoreView). x.opening) is ∙ opening;
      log = ap (λ (x : CoreView). x.log) is ∙ log;
    }

same : (old new : CoreView) → new ≡ old → Keeps old new
same old new is = keeps old new old is refl refl refl

as_before : (old new : CoreView) → new ≡ old → Grows old new 0
as_before old new is = becomes old new old [] 0 is refl refl (sym (append-nil old.log)) refl

pub begins : (old new : CoreView) (s n p : ℕ) (args : List Bytes) (r : Result (Unit {0}) BeginError) → BeginsAs old new s n p args r → Keeps old new
begins old new s n p args (Ok u) h = keeps old new _ h.begun refl refl refl
begins old new s n p args (Err e) h = same old new h.refused

-- a call that isn't refused is open
steps_open : (v : CoreView) (s : ℕ) (o : Option Underway) → unstepped v s o ≡ None → (c : Underway) × (o ≡ Some c)
steps_open v s None is = cc
steps_open v s (Some c) is = (c, refl)

finishes_open : (v : CoreView) (o : Option Underway) → unfinished v o ≡ None → (c : Underway) × (o ≡ Some c)
finishes_open v None is = cc
finishes_open v (Some c) is = (c, refl)

pub steps : (old new : CoreView) (s : ℕ) (r : Result Stepped StepError) → StepsAs old new s r → Keeps old new
steps old new s (Ok x) h =
    let o = steps_open old s (open_at old s) h.refusal in
    let t : Steps old new s o.0 = h.stepped o.0 o.1 in
    keeps old new new refl t.same.catalog t.same.opening t.log
steps old new s (Err e) h = same old new h.refused

pub gives_up : (old new : CoreView) (s : ℕ) (r : Result (Unit {0}) NotActive) → GivesUpAs old new s r → Keeps old new
gives_up old new s (Ok u) h = keeps old new new refl h.given_up.same.catalog h.given_up.same.opening h.given_up.log
gives_up old new s (Err e) h = same old new h.refused

pub starts : (old new : CoreView) (k : Kind) (r : Result ℕ StartError) → StartsAs old new k r → Grows old new 0
starts old new k (Ok n) h = becomes old new _ (Token phase.Prepare (suc (number_of old.log)) ∷ []) 0 h.started refl refl refl refl
starts old new k (Err e) h = as_before old new h.refused

pub streams : (old new : CoreView) (k : Kind) (r : Result ℕ StartError) → StreamsAs old new k r → Grows old new 0
streams old new k (Ok n) h = becomes old new _ (Token phase.Prepare (suc (number_of old.log)) ∷ []) 0 h.started refl refl refl refl
streams old new k (Err e) h = as_before old new h.refused

completed_grows : (w : Way) (old new : CoreView) → CompletesBy w old new → Grows old new 0
completed_grows Whole old new h = becomes old new _ (Token phase.Complete (number_of old.log) ∷ []) 0 h.2 refl refl refl refl
completed_grows Streamed old new h = becomes old new _ (Token phase.Complete (number_of old.log) ∷ []) 0 h.2 refl refl refl refl

entered_grows : (p : Phase) (old new : CoreView) → AdvancesTo p old new → Grows old new 0
entered_grows phase.Prepare old new h = absurd h
entered_grows phase.Resolve old new h = becomes old new _ (Token phase.Resolve (number_of old.log) ∷ []) 0 h refl refl refl refl
entered_grows phase.Capture old new h = becomes old new _ (Token phase.Capture (number_of old.log) ∷ []) 0 h.2 refl refl refl refl
entered_grows phase.Complete old new h = completed_grows old.checkpoint.way old new h
entered_grows phase.Rest old new h = becomes old new _ (Token phase.Rest (number_of old.log) ∷ []) 0 h refl refl refl refl

pub advances : (old new : CoreView) (r : Result Phase AdvanceError) → AdvancesAs old new r → Grows old new 0
advances old new (Ok p) h = entered_grows p old new h.advanced
advances old new (Err e) h = as_before old new h.refused

pub visits : (old new : CoreView) (r : Result Captured CaptureError) → VisitsAs old new r → Keeps old new
visits old new (Ok Slot) h = keeps old new _ h.captured.rest refl refl refl
visits old new (Ok Done) h = same old new h.captured.1
visits old new (Err e) h = same old new h.refused

pub takes : (old new : CoreView) → new ≡ taken old → Keeps old new
takes old new is = keeps old new _ is refl refl refl

module _ {A : Type 0} where
  pub sends : (old new : CoreView) (tap after : Tap A) (r : Result Captured CaptureToError) → SendsAs old new tap after r → Keeps old new
  sends old new tap after (Ok Slot) h = keeps old new _ h.captured.rest refl refl refl
  sends old new tap after (Ok Done) h = same old new h.captured.1
  sends old new tap after (Err e) h = same old new h.refused

  -- how many calls an answered finish adds
  abbrev pub added : Result (Answer A) FinishError → ℕ
  added (Ok a) = 1
  added (Err e) = 0

  pub finishes : (old new : CoreView) (s : ℕ) (r : Result (Answer A) FinishError) → FinishesAs old new s r → Grows old new (added r)
  finishes old new s (Ok a) h =
      let o = finishes_open old (open_at old s) h.refusal in
      let f : Finishes old new s o.0 = h.finished o.0 o.1 in
      becomes old new new (answer_of old s o.0 ∷ []) 1 refl f.same.catalog f.same.opening f.log refl
  finishes old new s (Err e) h = as_before old new h.refused

  pub counted : (new was : ℕ) (r : Result (Answer A) FinishError) → new ≡ was + added r → MatchResult r (λ _. new ≡ was + 1) (λ _. new ≡ was)
  counted new was (Ok a) is = is
  counted new was (Err e) is = is ∙ add-zero was
