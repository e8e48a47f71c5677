-- How a core keeps the checkpoint that runs, or the last one that ran.
use Rattle.std.specs.Prelude.{◌≡◌, ◌≤◌, ◌<◌, ℕ, Bool, true, false, List, length, Option, Some, None}
use Rattle.procedure.specs.Bytes.{Bytes}
use Rattle.procedure.specs.Table.{Changes}
use Rattle.phase.specs.declared.phases.Phase.{Phase}
use Rattle.phase.specs.declared.phases.Phase.TheVariants.{Rest, Capture, Complete}
use Rattle.image.specs.Headers.{EachKeyOnce, FitsHeader, assembled, chain_digest, map_of}
use Rattle.image.specs.Images as taken
use Rattle.image.specs.Images.{changes_of}
use Rattle.image.specs.declared.headers.Header.{Header}
use Rattle.image.specs.declared.images.Kind.{Kind}
use Rattle.image.specs.declared.images.Kind.TheVariants.{Full, Partial}
use Rattle.record_store.specs.ChangedSets.{KeySet, count}
use Rattle.record_store.specs.Stores.{Slots}
use Rattle.steps.specs.machine.NewestFirst.{MachineImage}
use Rattle.steps.specs.Refusals.{is_cutting}
pub use Rattle.steps.specs.Checkpointing.{spots}
use Rattle.steps.specs.machine.ScheduleAnswers.{Among}
use Rattle.steps.specs.declared.checkpoints.Checkpoint.{Checkpoint}
use Rattle.steps.specs.declared.checkpoints.Way.TheVariants.{Streamed, Whole}

-- how many places it visits
abbrev pub places : Kind → Slots → KeySet → ℕ
places Full slots frozen = length slots
places Partial slots frozen = count frozen

-- does a checkpoint run whose scan hasn't ended?
abbrev pub is_unfinished : Phase → Bool
is_unfinished Rest = false
is_unfinished Complete = false
is_unfinished _ = true

-- an image as the machine makes it
abbrev pub machine_image : taken.Image → MachineImage
machine_image i = record { kind = i.kind; number = i.number; base = i.base; place = i.place; entries = changes_of i }

-- a header of what a scan gave, which makes an image of the machine's
pub record IsHead (given : List taken.Entry) (images : List MachineImage) (h : Header) : Type 0 where
  pub fits : FitsHeader h given
  pub makes : Among (machine_image (assembled h given)) images

module _ {A : Type 0} where
  -- a scan between its places: what it has visited stands below its cursor, what it is to visit below its bound, what it
  -- gave is what the machine was given, each key once, and all of that is captured, or sent and counted
  pub record IsScan (k : Checkpoint A) (spot : ℕ → Option Bytes) (seen wanted : Bytes → Bool) (given : Changes) : Type 0 where
    pub visited : (q : Bytes) → seen q ≡ true → (i : ℕ) × (i < k.cursor) × (spot i ≡ Some q)
    pub to_visit : (q : Bytes) → wanted q ≡ true → (i : ℕ) × (i < k.bound) × (spot i ≡ Some q) × (i < k.cursor → seen q ≡ true)
    pub within : k.cursor ≤ k.bound
    pub gave : given ≡ map_of k.given.entries
    pub once : EachKeyOnce k.given.entries
    pub captured : k.way ≡ Whole → k.captured.items ≡ k.given.entries
    pub count : k.way ≡ Streamed → k.tally.count ≡ length k.given.entries
    pub chain : k.way ≡ Streamed → k.tally.chain ≡ chain_digest k.given.entries

  abbrev pub ScansIn : Phase → Checkpoint A → (ℕ → Option Bytes) → (seen wanted : Bytes → Bool) → Changes → Type 0
  ScansIn Capture k spot seen wanted given = IsScan k spot seen wanted given
  ScansIn _ k spot seen wanted given = Unit {0}

  -- the checkpoint is the machine's: its number, the last finished one, its kind, the records before its cut, its scan, its image,
  -- and its header
  pub record IsTracked (k : Checkpoint A) (spot : ℕ → Option Bytes) (p : Phase) (n f : ℕ) (sort : Kind) (cut : ℕ) (seen wanted : Bytes → Bool) (given : Changes) (images : List MachineImage) : Type 0
    where
      pub number : n ≡ k.number
      pub finished : f ≡ k.finished
      pub kind : sort ≡ k.kind
      pub place : is_cutting p ≡ true → cut ≡ k.place
      pub scan : ScansIn p k spot seen wanted given
      pub waits : (i : taken.Image) → k.waiting ≡ Some i → Among (machine_image i) images
      pub heads : (h : Header) → k.header ≡ Some h → IsHead k.given.entries images h
      pub none_yet : is_unfinished p ≡ true → k.header ≡ None
