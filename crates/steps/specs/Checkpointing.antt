-- What the calls that make a checkpoint do to a core.
use Rattle.std.specs.Prelude.{◌≡◌, ◌<◌, ℕ, suc, Bool, cond, [], ◌∷◌, ◌++◌, length, map, slice_get, Option, Some, None}
use Rattle.std.specs.Option.{option_map}
use Rattle.procedure.specs.Bytes.{Bytes, same}
use Rattle.phase.specs.declared.phases.Phase.{Phase}
use Rattle.phase.specs.declared.phases.Phase.TheVariants.{Rest, Prepare, Resolve, Capture, Complete}
use Rattle.commitlog.specs.Cuts.{cut, finished_below, written}
use Rattle.commitlog.specs.Histories.{number_of}
use Rattle.commitlog.specs.Records.{Token}
use Rattle.image.specs.Headers.{FitsHeader, assembled}
use Rattle.image.specs.Images.{Image}
use Rattle.image.specs.Merges.{table_of}
use Rattle.image.specs.declared.headers.Header.{Header}
use Rattle.image.specs.declared.images.Kind.{Kind}
use Rattle.image.specs.declared.images.Kind.TheVariants.{Full, Partial}
use Rattle.record_store.specs.ChangedSets.{KeySet, count, has, keys_of}
use Rattle.record_store.specs.Stores.{Slots, record_at_rest, key_at}
use Rattle.steps.specs.CoreViews.{CoreView, SameKeys, Underway}
use Rattle.steps.specs.CutImages.{IsCutOf}
use Rattle.steps.specs.Versions.{given_of, kept_of, versions_in, KeyVersions, captured_at}
use Rattle.steps.specs.declared.checkpoints.Way.{Way}
use Rattle.steps.specs.declared.checkpoints.Way.TheVariants.{Streamed, Whole}
use Rattle.steps.specs.declared.captures.Captured.{Captured}
use Rattle.steps.specs.declared.captures.Captured.TheVariants.{Slot, Done}

-- THE PHASES

-- the core, where a token more stands in the log
abbrev pub with_token : CoreView → Phase → ℕ → CoreView
with_token v p n = record v { log = v.log ++ Token p n ∷ [] }

-- the running checkpoint enters the phase
abbrev pub entered : CoreView → Phase → CoreView
entered v p = with_token v p (number_of v.log)

-- a checkpoint of this kind begins, whose entries leave in this way
abbrev pub started : CoreView → Kind → Way → CoreView
started v kind way = record (with_token v Prepare (suc (number_of v.log))) { checkpoint = record v.checkpoint { kind = kind; way = way } }

-- every record is not available, and has no stable version
abbrev pub rested_core : CoreView → CoreView
rested_core v = record v { slots = map (option_map record_at_rest) v.slots }

-- THE SCAN

-- was the key written between the cut of the checkpoint that runs and that of the last one that was finished before?
abbrev pub written_between : CoreView → Bytes → Bool
written_between v q =
    let n = number_of v.log in
    written v.catalog (table_of v.opening) v.log (cut v.log (finished_below v.log n)) (cut v.log n) q

-- these keys
abbrev pub IsFrozen : CoreView → KeySet → Type 0
IsFrozen v s = (q : Bytes) → has s q ≡ written_between v q

-- where a scan ends: at the number of slots, or of those keys
abbrev pub EndsAt : Kind → CoreView → ℕ → Type 0
EndsAt Full v bound = bound ≡ length v.slots
EndsAt Partial v bound = (s : KeySet) × IsFrozen v s × (bound ≡ count s)

-- the key that a scan visits next, if there is one: that of the slot at its cursor, or of those keys, in their order
abbrev pub VisitsNext : Kind → CoreView → Option Bytes → Type 0
VisitsNext Full v key = key ≡ key_at v.slots v.checkpoint.cursor
VisitsNext Partial v key = (s : KeySet) × IsFrozen v s × (key ≡ slice_get (keys_of s) v.checkpoint.cursor)

-- the key at each place that a scan visits: in the slots in turn, or of the frozen keys in their order
abbrev pub spots : Kind → Slots → KeySet → ℕ → Option Bytes
spots Full slots frozen i = key_at slots i
spots Partial slots frozen i = slice_get (keys_of frozen) i

-- the versions of a key, after a scan visited its record: the stable version is taken where the record is available, and the
-- record is available
abbrev pub visited : Option Bytes → Bytes → Option KeyVersions → Option KeyVersions
visited None q v = v
visited (Some key) q v = cond (same q key) (option_map (λ v. captured_at v.available v) v) v

-- one place of a scan: the image keeps what the record there held at the cut
pub record Visits (old new : CoreView) : Type 0 where
  pub key : Option Bytes
  pub next : VisitsNext old.checkpoint.kind old key
  pub below : old.checkpoint.cursor < old.checkpoint.bound
  pub rest : new ≡ record old {
    slots = new.slots;
    checkpoint = record old.checkpoint {
      cursor = suc old.checkpoint.cursor;
      given =
          old.checkpoint.given ++ kept_of old.checkpoint.kind (given_of (versions_in old.slots) key);
    };
  }
  pub slots : length new.slots ≡ length old.slots
  pub keys : SameKeys old.slots new.slots
  pub versions : (q : Bytes) → versions_in new.slots q ≡ visited key q (versions_in old.slots q)

abbrev pub CapturesAs : Captured → (old new : CoreView) → Type 0
CapturesAs Slot old new = Visits old new
CapturesAs Done old new = (old.checkpoint.cursor ≡ old.checkpoint.bound) × (new ≡ old)

-- THE IMAGE

-- the image of the running checkpoint: that of its cut
pub record IsImageOf (v : CoreView) (i : Image) : Type 0 where
  pub kind : i.kind ≡ v.checkpoint.kind
  pub number : i.number ≡ number_of v.log
  pub cut : IsCutOf v.catalog (table_of v.opening) v.log i

-- its header, where it is streamed: with what the scan gave, in that order, it makes the image
pub record IsHeaderOf (v : CoreView) (h : Header) : Type 0 where
  pub fits : FitsHeader h v.checkpoint.given
  pub image : IsImageOf v (assembled h v.checkpoint.given)

-- the scan ends: the image waits, or the header
abbrev pub CompletesBy : Way → (old new : CoreView) → Type 0
CompletesBy Whole old new = (i : Image) × IsImageOf old i × (new ≡ record (entered old Complete) { checkpoint = record old.checkpoint { waiting = Some i } })
CompletesBy Streamed old new = (h : Header) × IsHeaderOf old h × (new ≡ record (entered old Complete) { checkpoint = record old.checkpoint { header = Some h } })

-- what a change to this phase does
abbrev pub AdvancesTo : Phase → (old new : CoreView) → Type 0
AdvancesTo Prepare old new = ⊥
AdvancesTo Resolve old new = new ≡ entered old Resolve
AdvancesTo Capture old new =
    (b : ℕ) × EndsAt old.checkpoint.kind old b × (new ≡ record (entered old Capture) { checkpoint = record old.checkpoint { scan = old.checkpoint.kind; cursor = 0; bound = b; given = [] } })
AdvancesTo Complete old new = CompletesBy old.checkpoint.way old new
AdvancesTo Rest old new = new ≡ rested_core (entered old Rest)

-- the image was taken
abbrev pub taken : CoreView → CoreView
taken v = record v { checkpoint = record v.checkpoint { waiting = None } }

-- the header was taken
abbrev pub header_taken : CoreView → CoreView
header_taken v = record v { checkpoint = record v.checkpoint { header = None } }

-- an open call starts at rest from now on
abbrev pub restarted : Underway → Underway
restarted c = record c { start = Rest }

-- the checkpoint is given up: no image of it is left
abbrev pub abandoned : CoreView → CoreView
abandoned v = record (rested_core (entered v Rest)) { calls = map (option_map restarted) v.calls; checkpoint = record v.checkpoint { waiting = None } }
