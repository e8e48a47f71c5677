-- What a driven schedule makes of a core.
use Rattle.std.specs.Prelude.{◌≡◌, ℕ, List, [], ◌∷◌, slice_get, Some}
use Rattle.procedure.specs.Procedures.{Procedure}
use Rattle.commitlog.specs.Records.{Record, Token, Call}
use Rattle.image.specs.Images.{Image}
use Rattle.steps.specs.CoreViews.{CoreView}
use Rattle.steps.specs.Openings.{IsOpened}
use Rattle.steps.specs.Schedules.{HandlesWith}
use Rattle.steps.specs.declared.schedules.Event.{Event}
use Rattle.steps.specs.declared.schedules.Reply.{Reply}

-- the events from a core that was just opened, with their replies and the images that they took
pub record IsDriven {A : Type 0} (c : List Procedure) (i : Image) (events : List (Event A)) (core : CoreView) (replies : List (Reply A)) (images : List Image) : Type 0 where
  pub first : CoreView
  pub opened : IsOpened c i first
  pub handled : HandlesWith events first core replies images

-- each record stands at its place
abbrev pub EachStands : List Record → List (ℕ × Record) → Type 0
EachStands log [] = Unit {0}
EachStands log ((place, r) ∷ l) = (slice_get log place ≡ Some r) × EachStands log l

-- the calls of a history
abbrev pub calls_of : List Record → List Record
calls_of [] = []
calls_of (Token p n ∷ h) = calls_of h
calls_of (Call s n p args o r ∷ h) = Call s n p args o r ∷ calls_of h
