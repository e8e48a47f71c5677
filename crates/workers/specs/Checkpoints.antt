-- How checkpoints are made: what their worker asks for, and how far it comes.
use Rattle.std.specs.Prelude.{◌≡◌, ℕ, Bool, true, false, List, [], ◌∷◌, ◌+◌, suc, Ok, Err}
use Rattle.std.specs.declared.result.Result.{Result}
use Rattle.image.specs.declared.images.Kind.{Kind}
use Rattle.image.specs.declared.limits.TheConstants.{ENTRIES}
use Rattle.phase.specs.declared.phases.Phase.{Phase}
use Rattle.phase.specs.declared.phases.Phase.TheVariants as phase
use Rattle.procedure.specs.declared.memory.NoMemory.{NoMemory}
use Rattle.steps.specs.declared.errors.AdvanceError.{AdvanceError}
use Rattle.steps.specs.declared.errors.AdvanceError.TheVariants.{NotScanned, StillActive}
use Rattle.steps.specs.declared.errors.CaptureError.{CaptureError}
use Rattle.steps.specs.declared.errors.StartError.{StartError}
use Rattle.steps.specs.declared.captures.Captured.{Captured}
use Rattle.steps.specs.declared.captures.Captured.TheVariants.{Slot, Done}
use Rattle.workers.specs.declared.checkpoints.TheConstants.{MOVES}
use Rattle.workers.specs.declared.checkpoints.Progress.{Progress}
use Rattle.workers.specs.declared.checkpoints.Progress.TheVariants as progress
use Rattle.workers.specs.declared.checkpoints.Reached.{Reached}
use Rattle.workers.specs.declared.checkpoints.Reached.TheVariants as reached
use Rattle.workers.specs.declared.errors.CheckpointRefusal.{CheckpointRefusal}
use Rattle.workers.specs.declared.errors.CheckpointRefusal.TheVariants as refusal

-- one thing that the worker asks for, and the answer
pub data Deed : Type 0 where
  finds : Phase → Deed
  starts : Kind → Result ℕ StartError → Deed
  advances : Result Phase AdvanceError → Deed
  captures : Result Captured CaptureError → Deed
  takes : Result (Unit {0}) NoMemory → Deed

-- a scan visits place after place, at most so many
pub data Scans {S : Type 0} (does : Deed → S → S → Type 0) : ℕ → (old new : S) → Result (Unit {0}) CaptureError → Type 0 where
  visits : {n : ℕ} {s t u : S} {r : Result (Unit {0}) CaptureError} → does (captures (Ok Slot)) s t → Scans does n t u r → Scans does (suc n) s u r
  scanned : {n : ℕ} {s t : S} {x : Unit {0}} → does (captures (Ok Done)) s t → Scans does (suc n) s t (Ok x)
  refused : {n : ℕ} {s t : S} {e : CaptureError} → does (captures (Err e)) s t → Scans does (suc n) s t (Err e)
  visited_all : {s : S} {x : Unit {0}} → Scans does 0 s s (Ok x)

-- what a phase asks for is done: a scan in capture, and at complete the image is taken
pub data Works {S : Type 0} (does : Deed → S → S → Type 0) : Phase → (old new : S) → Result Reached CheckpointRefusal → Type 0 where
  at_rest : {s : S} → Works does phase.Rest s s (Ok reached.Rest)
  in_prepare : {s : S} → Works does phase.Prepare s s (Ok reached.Next)
  in_resolve : {s : S} → Works does phase.Resolve s s (Ok reached.Next)
  captured : {s t : S} {x : Unit {0}} → Scans does (ENTRIES + 1) s t (Ok x) → Works does phase.Capture s t (Ok reached.Next)
  not_captured : {s t : S} {e : CaptureError} → Scans does (ENTRIES + 1) s t (Err e) → Works does phase.Capture s t (Err (refusal.Capture e))
  taken : {s t : S} {x : Unit {0}} → does (takes (Ok x)) s t → Works does phase.Complete s t (Ok reached.Next)
  not_taken : {s t : S} {e : NoMemory} → does (takes (Err e)) s t → Works does phase.Complete s t (Err refusal.NoMemory)

-- the next phase is entered and worked in, or a scan that was left goes on
pub data Moves {S : Type 0} (does : Deed → S → S → Type 0) : (old new : S) → Result Reached CheckpointRefusal → Type 0 where
  enters : {s t u : S} {p : Phase} {r : Result Reached CheckpointRefusal} → does (advances (Ok p)) s t → Works does p t u r → Moves does s u r
  scans_on : {s t u : S} {r : Result Reached CheckpointRefusal} → does (advances (Err NotScanned)) s t → Works does phase.Capture t u r → Moves does s u r
  waits : {s t : S} → does (advances (Err StillActive)) s t → Moves does s t (Ok reached.StillActive)
  not_entered : {s t : S} {e : AdvanceError} → (e ≡ NotScanned → ⊥) → (e ≡ StillActive → ⊥) → does (advances (Err e)) s t → Moves does s t (Err (refusal.Advance e))

-- one phase is entered after another, at most so many
pub data GoesOn {S : Type 0} (does : Deed → S → S → Type 0) : ℕ → (old new : S) → Result Reached CheckpointRefusal → Type 0 where
  moves : {n : ℕ} {s t u : S} {r : Result Reached CheckpointRefusal} → Moves does s t (Ok reached.Next) → GoesOn does n t u r → GoesOn does (suc n) s u r
  reaches_rest : {n : ℕ} {s t : S} → Moves does s t (Ok reached.Rest) → GoesOn does (suc n) s t (Ok reached.Rest)
  has_to_wait : {n : ℕ} {s t : S} → Moves does s t (Ok reached.StillActive) → GoesOn does (suc n) s t (Ok reached.StillActive)
  stands : {n : ℕ} {s t : S} {e : CheckpointRefusal} → Moves does s t (Err e) → GoesOn does (suc n) s t (Err e)
  moved_all : {s : S} → GoesOn does 0 s s (Ok reached.StillActive)

-- a checkpoint begins at rest; one that runs already goes on, and has its image taken if that waits
pub data Begins {S : Type 0} (does : Deed → S → S → Type 0) (k : Kind) : (old new : S) → Result (Unit {0}) CheckpointRefusal → Type 0 where
  started : {s t u : S} {n : ℕ} {x : Unit {0}} → does (finds phase.Rest) s t → does (starts k (Ok n)) t u → Begins does k s u (Ok x)
  not_started : {s t u : S} {e : StartError} → does (finds phase.Rest) s t → does (starts k (Err e)) t u → Begins does k s u (Err (refusal.Start e))
  took_image : {s t u : S} {x y : Unit {0}} → does (finds phase.Complete) s t → does (takes (Ok x)) t u → Begins does k s u (Ok y)
  took_none : {s t u : S} {e : NoMemory} → does (finds phase.Complete) s t → does (takes (Err e)) t u → Begins does k s u (Err refusal.NoMemory)
  runs_already : {s t : S} {p : Phase} {x : Unit {0}} → (p ≡ phase.Rest → ⊥) → (p ≡ phase.Complete → ⊥) → does (finds p) s t → Begins does k s t (Ok x)

-- it goes on to rest, again after each time that an open call has to end first, which takes one of so many
-- turns and leaves so many; false where none was left
pub data Ends {S : Type 0} (does : Deed → S → S → Type 0) : (turns left : ℕ) → (old new : S) → Result Bool CheckpointRefusal → Type 0 where
  rested : {n : ℕ} {s t : S} → GoesOn does MOVES s t (Ok reached.Rest) → Ends does (suc n) (suc n) s t (Ok true)
  stopped : {n : ℕ} {s t : S} {e : CheckpointRefusal} → GoesOn does MOVES s t (Err e) → Ends does (suc n) (suc n) s t (Err e)
  again : {n m : ℕ} {s t u : S} {p : Reached} {r : Result Bool CheckpointRefusal} → (p ≡ reached.Rest → ⊥) → GoesOn does MOVES s t (Ok p) → Ends does n m t u r → Ends does (suc n) m s u r
  no_turn : {s : S} → Ends does 0 0 s s (Ok false)

-- a checkpoint is made, where a turn is left
pub data Makes {S : Type 0} (does : Deed → S → S → Type 0) (k : Kind) : (turns left : ℕ) → (old new : S) → Result Bool CheckpointRefusal → Type 0 where
  begun : {n m : ℕ} {s t u : S} {x : Unit {0}} {r : Result Bool CheckpointRefusal} → Begins does k s t (Ok x) → Ends does (suc n) m t u r → Makes does k (suc n) m s u r
  not_begun : {n : ℕ} {s t : S} {e : CheckpointRefusal} → Begins does k s t (Err e) → Makes does k (suc n) (suc n) s t (Err e)
  without_turn : {s : S} → Makes does k 0 0 s s (Ok false)

-- checkpoints are made in turn, from this position on, up to one that isn't made
pub data MakesAll {S : Type 0} (does : Deed → S → S → Type 0) : (turns from : ℕ) → List Kind → (old new : S) → Progress → Type 0 where
  all_made : {n i : ℕ} {s : S} → MakesAll does n i [] s s progress.Done
  one_more : {n m i : ℕ} {k : Kind} {ks : List Kind} {s t u : S} {p : Progress} → Makes does k n m s t (Ok true) → MakesAll does m (i + 1) ks t u p → MakesAll does n i (k ∷ ks) s u p
  out_of_turns : {n m i : ℕ} {k : Kind} {ks : List Kind} {s t : S} → Makes does k n m s t (Ok false) → MakesAll does n i (k ∷ ks) s t (progress.TurnsOut i)
  was_refused : {n m i : ℕ} {k : Kind} {ks : List Kind} {s t : S} {e : CheckpointRefusal} → Makes does k n m s t (Err e) → MakesAll does n i (k ∷ ks) s t (progress.Refused i e)
