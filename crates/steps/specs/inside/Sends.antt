-- How the entries that a streamed scan gives are sent and counted.
use Rattle.std.specs.Prelude.{◌≡◌, ◌⊎◌, ◌+◌, ◌++◌, List, length, Option}
use Rattle.image.specs.Headers.{linked_all}
use Rattle.image.specs.Images.{Entry}
use Rattle.image.specs.declared.images.Kind.{Kind}
use Rattle.pipe.specs.Rings as ring
use Rattle.pipe.specs.declared.taps.Tap.{Tap}
use Rattle.steps.specs.Streaming.{GivesOne, MayBeFull}
use Rattle.steps.specs.Versions.{Noted}
use Rattle.steps.specs.declared.checkpoints.Tally.{Tally}
use Rattle.steps.specs.declared.errors.CaptureToError.{CaptureToError}
use Rattle.steps.specs.declared.errors.CaptureToError.TheVariants.{NoMemory, RingFull}
use Rattle.steps.specs.declared.given.Given.{Given}

module _ {A : Type 0} where
  -- these entries were sent, and counted
  pub record IsSent (es : List Entry) (tap after : Tap A) (given more : Given Entry) (tally next : Tally) : Type 0 where
    pub sent : ring.sent after ≡ ring.sent tap ++ es
    pub gave : more.entries ≡ given.entries ++ es
    pub count : next.count ≡ tally.count + length es
    pub chain : next.chain ≡ linked_all tally.chain es

  -- nothing was
  pub record SendsNothing (tap after : Tap A) (given more : Given Entry) (tally next : Tally) : Type 0 where
    pub sent : ring.sent after ≡ ring.sent tap
    pub gave : more ≡ given
    pub counted : next ≡ tally

  -- why what a record gives isn't sent: memory is wanting, or the image keeps it and the ring may be full
  abbrev pub IsRefused : Kind → Option Noted → Tap A → CaptureToError → Type 0
  IsRefused kind given tap e = (e ≡ NoMemory) ⊎ ((e ≡ RingFull) × GivesOne kind given × MayBeFull tap)
