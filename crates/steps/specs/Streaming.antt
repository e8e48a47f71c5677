-- How a streamed checkpoint sends what its scan gives.
use Rattle.std.specs.Prelude.{◌≡◌, ◌≢◌, ◌⊎◌, ◌≤◌, [], ◌∷◌, ◌++◌, List, length, Option, Some, None, Ok, Err}
use Rattle.std.specs.declared.result.Result.{Result}
use Rattle.procedure.specs.Bytes.{Bytes}
use Rattle.image.specs.Headers.{FitsHeader, assembled, chain_digest}
use Rattle.image.specs.Images.{Entry}
use Rattle.image.specs.declared.headers.Header.{Header}
use Rattle.image.specs.declared.images.Kind.{Kind}
use Rattle.image.specs.declared.limits.TheConstants.{ENTRIES}
use Rattle.pipe.specs.Rings.{room, sent}
use Rattle.pipe.specs.declared.taps.Tap.{Tap}
use Rattle.steps.specs.Checkpointing.{VisitsNext}
use Rattle.steps.specs.CoreViews.{CoreView}
use Rattle.steps.specs.Refusals.{capture_to_refusal}
use Rattle.steps.specs.Versions.{Noted, given_of, kept_of, versions_in}
use Rattle.steps.specs.declared.captures.Captured.{Captured}
use Rattle.steps.specs.declared.errors.CaptureToError.{CaptureToError}
use Rattle.steps.specs.declared.errors.CaptureToError.TheVariants.{NoMemory, RingFull}

-- what a record gives is kept by an image of the kind
abbrev pub GivesOne : Kind → Option Noted → Type 0
GivesOne kind given = (e : Noted) × (kept_of kind given ≡ e ∷ [])

-- the place that a scan visits next gives an entry that the image keeps
pub record GivesNext (v : CoreView) : Type 0 where
  pub key : Option Bytes
  pub next : VisitsNext v.checkpoint.kind v key
  pub gives : GivesOne v.checkpoint.kind (given_of (versions_in v.slots) key)

module _ {A : Type 0} where
  -- the tap knows of no room in its ring, or has sent as many entries as an image may have
  abbrev pub MayBeFull : Tap A → Type 0
  MayBeFull tap = (room tap ≡ 0) ⊎ (ENTRIES ≤ length (sent tap))

  -- what is sent is what the scan gives
  abbrev pub SendsGiven : (old new : CoreView) → (tap after : Tap A) → Type 0
  SendsGiven old new tap after = (es : List Entry) × (new.checkpoint.given ≡ old.checkpoint.given ++ es) × (sent after ≡ sent tap ++ es)

  -- why nothing is captured where the core refuses nothing: memory is wanting, or an entry finds no room
  abbrev pub IsRefusedBy : CoreView → Tap A → CaptureToError → Type 0
  IsRefusedBy v tap e = (e ≡ NoMemory) ⊎ ((e ≡ RingFull) × GivesNext v × MayBeFull tap)

  -- what is answered is the core's refusal, or, where there is none, one of those
  abbrev pub AnswersTo : CoreView → Tap A → Result Captured CaptureToError → Type 0
  AnswersTo v tap (Ok x) = capture_to_refusal v ≡ None
  AnswersTo v tap (Err e) = (capture_to_refusal v ≡ Some e) ⊎ ((capture_to_refusal v ≡ None) × IsRefusedBy v tap e)

-- WHAT A HEADER FIXES

-- two different lists of entries with one digest
abbrev pub ShareDigest : (es fs : List Entry) → Type 0
ShareDigest es fs = (es ≢ fs) × (chain_digest es ≡ chain_digest fs)

-- entries that fit the header of others make the image of those, unless two different lists share a digest
abbrev pub HeadersFix : Type 0
HeadersFix =
    (h : Header) (given es : List Entry) → FitsHeader h given → FitsHeader h es → (assembled h es ≡ assembled h given) ⊎ ShareDigest es given
