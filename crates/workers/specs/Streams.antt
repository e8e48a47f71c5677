-- What a streamed checkpoint does to a core, and what is made of its entries.
use Rattle.std.specs.Prelude.{◌≡◌, ◌⊎◌, ℕ, List, IfOk, OnErr, OnOk, suc}
use Rattle.std.specs.declared.result.Result.{Result}
use Rattle.commitlog.specs.Histories.{number_of}
use Rattle.image.specs.Headers.{assembled}
use Rattle.image.specs.Images.{Entry, Image}
use Rattle.image.specs.Merges.{table_of}
use Rattle.image.specs.declared.headers.Header.{Header}
use Rattle.image.specs.declared.images.Kind.{Kind}
use Rattle.pipe.specs.declared.taps.Tap.{Tap}
use Rattle.steps.specs.Checkpointing.{CapturesAs, started}
use Rattle.steps.specs.CoreViews.{CoreView}
use Rattle.steps.specs.CutImages.{IsTaken}
use Rattle.steps.specs.Refusals.{Answers, start_refusal}
use Rattle.steps.specs.Streaming.{AnswersTo, SendsGiven, ShareDigest}
use Rattle.steps.specs.declared.captures.Captured.{Captured}
use Rattle.steps.specs.declared.checkpoints.Way.TheVariants.{Streamed}
use Rattle.steps.specs.declared.errors.CaptureToError.{CaptureToError}
use Rattle.steps.specs.declared.errors.StartError.{StartError}
use Rattle.steps.specs.declared.errors.StartError.TheVariants as starting

-- a streamed checkpoint begins, or nothing changes
pub record StreamsAs (old new : CoreView) (k : Kind) (r : Result ℕ StartError) : Type 0 where
  pub started : OnOk r (new ≡ started old k Streamed)
  pub number : IfOk r (λ n. n ≡ suc (number_of old.log))
  pub refused : OnErr r (new ≡ old)
  pub refusal : Answers (start_refusal old) starting.NoMemory r

module _ {A : Type 0} where
  -- the scan visits a place and sends what it gives, or nothing changes
  pub record SendsAs (old new : CoreView) (tap after : Tap A) (r : Result Captured CaptureToError) : Type 0 where
    pub captured : IfOk r (λ x. CapturesAs x old new)
    pub sent : SendsGiven old new tap after
    pub refused : OnErr r (new ≡ old)
    pub refusal : AnswersTo old tap r

-- one header makes an image of two different lists of entries which have one digest, and that of the second
-- is the image of a checkpoint
pub record SharesDigest (v : CoreView) (i : Image) : Type 0 where
  pub header : Header
  pub sent : List Entry
  pub given : List Entry
  pub made : i ≡ assembled header sent
  pub taken : IsTaken v.catalog (table_of v.opening) v.log (assembled header given)
  pub share : ShareDigest sent given

-- an image is the full or the partial one of its checkpoint in the core's log, unless it shares its digest
-- with that
abbrev pub IsStreamed : CoreView → Image → Type 0
IsStreamed v i = IsTaken v.catalog (table_of v.opening) v.log i ⊎ SharesDigest v i
