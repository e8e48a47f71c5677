-- The status of a key's record between the calls of a core, phase by phase: when it is available, and what its stable version is.
use Rattle.std.specs.Prelude.{◌≡◌, ◌<◌, ℕ, Bool, true, false, Option, Some, None, is_some}
use Rattle.procedure.specs.Bytes.{Bytes, Cell}
use Rattle.procedure.specs.Table.{change_at, value_at}
use Rattle.phase.specs.declared.phases.Phase.{Phase}
use Rattle.phase.specs.declared.phases.Phase.TheVariants.{Rest, Prepare, Resolve, Capture, Complete}
use Rattle.commitlog.specs.Cuts.{at_cut}
use Rattle.commitlog.specs.Histories.{number_of, phase_of}
use Rattle.image.specs.Merges.{table_of}
use Rattle.image.specs.declared.images.Kind.{Kind}
use Rattle.image.specs.declared.images.Kind.TheVariants.{Full, Partial}
use Rattle.record_store.specs.ChangedSets.{KeySet, has}
use Rattle.steps.specs.Checkpointing.{IsFrozen, spots, written_between}
use Rattle.steps.specs.CoreViews.{CoreView, Underway, front_of, open_at, table_now}
use Rattle.steps.specs.Versions.{KeyVersions}

-- The status by availability and stable version. a is what the table holds, b what it held at the cut; U says that no open
-- call has changed the key, H that one from prepare has, E that none from prepare has
abbrev pub StatusAtPrepare : Cell → (H E : Type 0) → Bool → Option Cell → Type 0
StatusAtPrepare a H E false None = E
StatusAtPrepare a H E false (Some x) = (x ≡ a) × H
StatusAtPrepare a H E true s = ⊥

abbrev pub StatusAtResolve : (a b : Cell) → (U H : Type 0) → Bool → Option Cell → Type 0
StatusAtResolve a b U H true (Some x) = x ≡ b
StatusAtResolve a b U H true None = ⊥
StatusAtResolve a b U H false None = (a ≡ b) × U
StatusAtResolve a b U H false (Some x) = (x ≡ b) × (a ≡ b) × H

abbrev pub StatusAtCapture : (a b : Cell) (visited frozen : Bool) → (U : Type 0) → Bool → Option Cell → Type 0
StatusAtCapture a b true fro U true None = Unit {0}
StatusAtCapture a b false fro U true (Some x) = x ≡ b
StatusAtCapture a b false fro U true None = (b ≡ None) × (fro ≡ false)
StatusAtCapture a b false fro U false None = (a ≡ b) × U
StatusAtCapture a b _ fro U _ _ = ⊥

abbrev pub StatusAtComplete : (visited : Bool) → Bool → Option Cell → Type 0
StatusAtComplete false av s = Unit {0}
StatusAtComplete true true None = Unit {0}
StatusAtComplete true true (Some x) = ⊥
StatusAtComplete true false s = ⊥

abbrev pub StatusAtRest : Bool → Option Cell → Type 0
StatusAtRest false None = Unit {0}
StatusAtRest false (Some x) = ⊥
StatusAtRest true s = ⊥

-- OF A CORE

-- what the table holds, and what it held at the cut of the checkpoint that runs
abbrev pub holds : CoreView → Bytes → Cell
holds v q = value_at (table_now v) q

abbrev pub held : CoreView → Bytes → Cell
held v q = value_at (at_cut v.catalog (table_of v.opening) v.log (number_of v.log)) q

-- what an open call has made of the key, if it has changed it
abbrev pub change_by : CoreView → Bytes → Underway → Option Cell
change_by v q c = change_at (front_of v c).changes q

-- no open call has changed the key
abbrev pub Unchanged : CoreView → Bytes → Type 0
Unchanged v q = (s : ℕ) (c : Underway) → open_at v s ≡ Some c → change_by v q c ≡ None

-- one that began in prepare has
abbrev pub ChangedFromPrepare : CoreView → Bytes → Type 0
ChangedFromPrepare v q = (s : ℕ) × (c : Underway) × (open_at v s ≡ Some c) × (c.start ≡ Prepare) × (is_some (change_by v q c) ≡ true)

-- none that began in prepare has
abbrev pub UnchangedFromPrepare : CoreView → Bytes → Type 0
UnchangedFromPrepare v q = (s : ℕ) (c : Underway) → open_at v s ≡ Some c → c.start ≡ Prepare → change_by v q c ≡ None

-- the scan has visited the key's place
abbrev pub IsVisited : CoreView → (frozen : KeySet) → Bytes → Type 0
IsVisited v frozen q = (place : ℕ) × (place < v.checkpoint.cursor) × (spots v.checkpoint.kind v.slots frozen place ≡ Some q)

-- the status during a scan, by whether it has visited the key's place
pub record ScanStatus (v : CoreView) (q : Bytes) (k : KeyVersions) : Type 0 where
  pub frozen : KeySet
  pub is_frozen : IsFrozen v frozen
  pub visited : IsVisited v frozen q → StatusAtCapture (holds v q) (held v q) true (has frozen q) (Unchanged v q) k.available k.stable
  pub ahead : (IsVisited v frozen q → ⊥) → StatusAtCapture (holds v q) (held v q) false (has frozen q) (Unchanged v q) k.available k.stable

-- the scan that has ended had a place for the key
abbrev pub HadPlace : Kind → CoreView → Bytes → Type 0
HadPlace Full v q = Unit {0}
HadPlace Partial v q = written_between v q ≡ true

-- the status in a phase; of a key without a record, that it held nothing at the cut
abbrev pub StatusIn : Phase → CoreView → Bytes → Option KeyVersions → Type 0
StatusIn Rest v q (Some k) = StatusAtRest k.available k.stable
StatusIn Prepare v q (Some k) = StatusAtPrepare (holds v q) (ChangedFromPrepare v q) (UnchangedFromPrepare v q) k.available k.stable
StatusIn Resolve v q None = held v q ≡ None
StatusIn Resolve v q (Some k) = StatusAtResolve (holds v q) (held v q) (Unchanged v q) (ChangedFromPrepare v q) k.available k.stable
StatusIn Capture v q None = held v q ≡ None
StatusIn Capture v q (Some k) = ScanStatus v q k
StatusIn Complete v q (Some k) = HadPlace v.checkpoint.kind v q → StatusAtComplete true k.available k.stable
StatusIn _ v q None = Unit {0}

-- the status in the phase of the log
abbrev pub HasStatus : CoreView → Bytes → Option KeyVersions → Type 0
HasStatus v q k = StatusIn (phase_of v.log) v q k
