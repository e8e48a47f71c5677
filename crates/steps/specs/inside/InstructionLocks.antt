-- The lock that an instruction takes, and when it can't have it.
use Rattle.std.specs.Prelude.{◌≡◌, ℕ, Bool, true, false, if◌then◌else◌, length, Option, Some, None, Ok, Err, IfOk, OnOk, OnErr}
use Rattle.std.specs.declared.result.Result.{Result}
use Rattle.procedure.specs.Bytes.{Bytes}
use Rattle.procedure.specs.Needs.{Touch, Nothing, Reads, Writes}
use Rattle.procedure.specs.Runs.{is_nil}
use Rattle.procedure.specs.declared.limits.TheConstants.{SESSIONS}
use Rattle.phase.specs.declared.phases.Phase.{Phase}
use Rattle.locktable.specs.declared.modes.Mode.{Mode}
use Rattle.locktable.specs.declared.modes.Mode.TheVariants.{Shared, Exclusive}
use Rattle.locktable.specs.Modes.{stronger}
use Rattle.locktable.specs.Locks.{Conflicts, Locks, mode_of, with_lock}
use Rattle.record_store.specs.Stores.{Slots}
use Rattle.steps.specs.inside.Instructions.{Advances, SameOpen, lacks_place, touch_in}
use Rattle.steps.specs.declared.calls.OpenCall.{OpenCall}
use Rattle.steps.specs.declared.step.Stepped.{Stepped}
use Rattle.steps.specs.declared.step.Stepped.TheVariants.{Ran, Ready}
use Rattle.steps.specs.declared.errors.StepError.{StepError}
use Rattle.steps.specs.declared.errors.StepError.TheVariants as refused

-- how a session holds the key of a touch
abbrev pub mode_of_touch : Locks → ℕ → Touch → Option Mode
mode_of_touch locks s Nothing = None
mode_of_touch locks s (Reads k) = mode_of locks s k
mode_of_touch locks s (Writes k) = mode_of locks s k

-- the locks, where a session holds the key of a touch so, or not at all
abbrev pub held_so : Locks → ℕ → Touch → Option Mode → Locks
held_so locks s Nothing mode = locks
held_so locks s (Reads k) mode = with_lock locks s k mode
held_so locks s (Writes k) mode = with_lock locks s k mode

-- what it holds once it is granted what a touch asks for: shared to read, exclusive to write
abbrev pub grant : Locks → ℕ → Touch → Option Mode
grant locks s Nothing = None
grant locks s (Reads k) = Some (stronger (mode_of locks s k) Shared)
grant locks s (Writes k) = Some (stronger (mode_of locks s k) Exclusive)

-- the locks after that
abbrev pub locked : Locks → ℕ → Touch → Locks
locked locks s n = held_so locks s n (grant locks s n)

-- another session's lock excludes it
abbrev pub IsExcluded : Locks → ℕ → Touch → Type 0
IsExcluded locks s Nothing = ⊥
IsExcluded locks s (Reads k) = Conflicts locks s k Shared
IsExcluded locks s (Writes k) = Conflicts locks s k Exclusive

-- every session holds what it held before
abbrev pub SameLocks : Locks → Locks → Type 0
SameLocks old new = (s : ℕ) (q : Bytes) → mode_of new s q ≡ mode_of old s q

-- how a step is answered: by whether the call has ended, whether it is excluded, and whether a record can't be made
abbrev pub AnswersTo : {X : Type 0} → (done : Bool) (excluded : Type 0) (full : Bool) → Result X StepError → Type 0
AnswersTo done excluded full (Ok x) = (done ≡ false) × (excluded → ⊥) × (full ≡ false)
AnswersTo done excluded full (Err refused.NotActive) = ⊥
AnswersTo done excluded full (Err refused.AlreadyReady) = done ≡ true
AnswersTo done excluded full (Err refused.Conflict) = (done ≡ false) × excluded
AnswersTo done excluded full (Err refused.TableFull) = (done ≡ false) × (excluded → ⊥) × (full ≡ true)
AnswersTo done excluded full (Err refused.NoMemory) = (done ≡ false) × (excluded → ⊥) × (full ≡ false)

-- the refusal of a write for which the memory or the place is wanting
abbrev pub short : (full : Bool) → StepError
short true = refused.TableFull
short false = refused.NoMemory

module _ {A : Type 0} where
  -- the next instruction of an open call is executed under its lock, or refused
  pub record StepsOpen (phase : Phase) (session : ℕ) (s : Slots) (l : Locks) (c : OpenCall A) (t : Slots) (m : Locks) (d : OpenCall A) (r : Result Stepped StepError) : Type 0 where
    pub ok : OnOk r (Advances phase s c t d)
    pub granted : OnOk r (m ≡ locked l session (touch_in c.machine))
    pub ready : IfOk r (λ x. x ≡ (if is_nil d.machine.progress.rest then Ready else Ran))
    pub err : OnErr r ((t ≡ s) × SameOpen c d)
    pub unlocked : OnErr r (SameLocks l m × (length m ≡ SESSIONS))
    pub refusal : AnswersTo (is_nil c.machine.progress.rest) (IsExcluded l session (touch_in c.machine)) (lacks_place s c.machine) r

  -- the same of a place where a call may stand; without one nothing changes
  abbrev pub StepsIn : Phase → ℕ → Slots → Locks → Option (OpenCall A) → Slots → Locks → Option (OpenCall A) → Result Stepped StepError → Type 0
  StepsIn phase session s l None t m d r = (t ≡ s) × (m ≡ l) × (d ≡ None) × (r ≡ Err refused.NotActive)
  StepsIn phase session s l (Some c) t m None r = ⊥
  StepsIn phase session s l (Some c) t m (Some d) r = StepsOpen phase session s l c t m d r
