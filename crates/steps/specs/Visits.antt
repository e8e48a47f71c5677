-- How many places the scan of a checkpoint visits.
use Rattle.std.specs.Prelude.{◌≡◌, ◌⊎◌, ℕ, suc, ◌+◌, Bool, false, ◌||◌, List, [], ◌∷◌, Ok, Err, IfOk, OnErr, is_ok}
use mathlib.Core.Logic.{inl, inr}
use Rattle.std.specs.declared.result.Result.{Result}
use Rattle.phase.specs.declared.phases.Phase.TheVariants.{Capture, Complete}
use Rattle.steps.specs.CoreViews.{CoreView}
use Rattle.steps.specs.Checkpointing.{CapturesAs}
use Rattle.steps.specs.Schedules.{AdvancesAs, Handles, HandlesAll, replies_in}
use Rattle.steps.specs.declared.captures.Captured.{Captured}
use Rattle.steps.specs.declared.captures.Captured.TheVariants.{Slot, Done}
use Rattle.steps.specs.declared.errors.CaptureToError.{CaptureToError}
use Rattle.steps.specs.declared.schedules.Event.{Event}
use Rattle.steps.specs.declared.schedules.Handled.{Handled}
use Rattle.steps.specs.declared.schedules.Reply.{Reply}
use Rattle.steps.specs.declared.schedules.Reply.TheVariants as reply

module _ {A : Type 0} where
  -- was the phase changed?
  abbrev pub enters : Reply A → Bool
  enters (reply.Start r) = is_ok r
  enters (reply.Advance r) = is_ok r
  enters (reply.Abandon r) = is_ok r
  enters _ = false

  abbrev pub any_enters : List (Reply A) → Bool
  any_enters [] = false
  any_enters (r ∷ rs) = enters r || any_enters rs

  -- how many times was a place visited?
  abbrev pub visits : List (Reply A) → ℕ
  visits [] = 0
  visits (reply.Capture (Ok Slot) ∷ rs) = suc (visits rs)
  visits (_ ∷ rs) = visits rs

-- where a core enters capture, then handles these events, by none of which the phase changes, and then enters complete, it has
-- visited exactly as many places as the scan had when it began
abbrev pub ScansWhole : Type 0 → Type 0
ScansWhole A =
    (events : List (Event A)) (each : List (Handled A)) (before first last after : CoreView) →
    AdvancesAs before first (Ok Capture) → HandlesAll events first last each → any_enters (replies_in each) ≡ false → AdvancesAs last after (Ok Complete) →
    visits (replies_in each) ≡ first.checkpoint.bound

-- CAPTURES INTO RINGS AMONG THE EVENTS

-- a capture into a ring, as far as the core goes
pub record SendsAs (old new : CoreView) (r : Result Captured CaptureToError) : Type 0 where
  pub captured : IfOk r (λ x. CapturesAs x old new)
  pub refused : OnErr r (new ≡ old)

abbrev pub sent_visits : Result Captured CaptureToError → ℕ
sent_visits (Ok Slot) = 1
sent_visits (Ok Done) = 0
sent_visits (Err e) = 0

-- an event and what came of it, or the answer to a capture into a ring
abbrev pub Turn : Type 0 → Type 0
Turn A = (Event A × Handled A) ⊎ Result Captured CaptureToError

module _ {A : Type 0} where
  -- the turns, one after another, by none of which the phase changes
  abbrev pub Takes : List (Turn A) → (old new : CoreView) → Type 0
  Takes [] old new = old ≡ new
  Takes (inl x ∷ ts) old new = (between : CoreView) × Handles x.0 old between x.1 × (enters x.1.reply ≡ false) × Takes ts between new
  Takes (inr r ∷ ts) old new = (between : CoreView) × SendsAs old between r × Takes ts between new

  -- how many times was a place visited, by either capture?
  abbrev pub visits_of : List (Turn A) → ℕ
  visits_of [] = 0
  visits_of (inl x ∷ ts) = visits (x.1.reply ∷ []) + visits_of ts
  visits_of (inr r ∷ ts) = sent_visits r + visits_of ts

-- the same where captures into rings stand among the events
abbrev pub ScansInTurns : Type 0 → Type 0
ScansInTurns A =
    (turns : List (Turn A)) (before first last after : CoreView) →
    AdvancesAs before first (Ok Capture) → Takes turns first last → AdvancesAs last after (Ok Complete) → visits_of turns ≡ first.checkpoint.bound
