-- How the calls of a session are made: what its worker asks for, and what it answers to each call.
use Rattle.std.specs.Prelude.{◌≡◌, ℕ, Bool, true, false, List, [], ◌∷◌, ◌+◌, Option, Some, None, suc, Ok, Err}
use Rattle.std.specs.declared.result.Result.{Result}
use Rattle.procedure.specs.declared.instructions.Call.{Call}
use Rattle.procedure.specs.declared.limits.TheConstants.{INSTRUCTIONS}
use Rattle.steps.specs.declared.finish.Answer.{Answer}
use Rattle.steps.specs.declared.errors.BeginError.{BeginError}
use Rattle.steps.specs.declared.errors.FinishError.{FinishError}
use Rattle.steps.specs.declared.errors.StepError.{StepError}
use Rattle.steps.specs.declared.errors.StepError.TheVariants as unready
use Rattle.steps.specs.declared.step.Stepped.{Stepped}
use Rattle.steps.specs.declared.step.Stepped.TheVariants.{Ran, Ready}
use Rattle.workers.specs.declared.errors.CallRefusal.TheVariants as refusal
use Rattle.workers.specs.declared.shares.Given.{Given}
use Rattle.workers.specs.declared.shares.Given.TheVariants.{Answered, Refused, TurnsOut}
use Rattle.workers.specs.declared.shares.Response.{Response}
use Rattle.workers.specs.Shares.{stops}

-- one thing that a worker asks for, and the answer
pub data Deed (A : Type 0) : Type 0 where
  asks : Bool → Deed A
  begins : Call A → Result (Unit {0}) BeginError → Deed A
  steps : Result Stepped StepError → Deed A
  finishes : Result (Answer A) FinishError → Deed A
  gives_up : Deed A

-- 1 where a call is answered
abbrev pub gains : {A : Type 0} → Deed A → ℕ
gains (asks goes_on) = 0
gains (begins c r) = 0
gains (steps r) = 0
gains (finishes (Ok a)) = 1
gains (finishes (Err e)) = 0
gains gives_up = 0

-- the open call isn't ready, and was refused for another reason
abbrev pub IsRefusal : StepError → Type 0
IsRefusal e = e ≡ unready.AlreadyReady → ⊥

-- the open call takes steps, at most this many, until it is ready or refused one
pub data Executes {A S : Type 0} (does : Deed A → S → S → Type 0) : ℕ → (old new : S) → Result (Unit {0}) StepError → Type 0 where
  runs : {n : ℕ} {s t u : S} {r : Result (Unit {0}) StepError} → does (steps (Ok Ran)) s t → Executes does n t u r → Executes does (suc n) s u r
  readied : {n : ℕ} {s t : S} {x : Unit {0}} → does (steps (Ok Ready)) s t → Executes does (suc n) s t (Ok x)
  was_ready : {n : ℕ} {s t : S} {x : Unit {0}} → does (steps (Err unready.AlreadyReady)) s t → Executes does (suc n) s t (Ok x)
  refused : {n : ℕ} {s t : S} {e : StepError} → IsRefusal e → does (steps (Err e)) s t → Executes does (suc n) s t (Err e)
  ran_all : {s : S} {x : Unit {0}} → Executes does 0 s s (Ok x)

-- a call is made once; at a conflict it has no answer
pub data Attempts {A S : Type 0} (does : Deed A → S → S → Type 0) (c : Call A) : (old new : S) → Option (Given A) → Type 0 where
  not_begun : {s t : S} {e : BeginError} → does (begins c (Err e)) s t → Attempts does c s t (Some (Refused (refusal.Begin e)))
  met_conflict : {s t u v : S} {x : Unit {0}} → does (begins c (Ok x)) s t → Executes does (INSTRUCTIONS + 1) t u (Err unready.Conflict) → does gives_up u v → Attempts does c s v None
  not_executed : {s t u v : S} {x : Unit {0}} {e : StepError} → (e ≡ unready.Conflict → ⊥) → does (begins c (Ok x)) s t → Executes does (INSTRUCTIONS + 1) t u (Err e) → does gives_up u v → Attempts does c s v (Some (Refused (refusal.Step e)))
  not_finished : {s t u v w : S} {x y : Unit {0}} {e : FinishError} → does (begins c (Ok x)) s t → Executes does (INSTRUCTIONS + 1) t u (Ok y) → does (finishes (Err e)) u v → does gives_up v w → Attempts does c s w (Some (Refused (refusal.Finish e)))
  answered : {s t u v : S} {x y : Unit {0}} {a : Answer A} → does (begins c (Ok x)) s t → Executes does (INSTRUCTIONS + 1) t u (Ok y) → does (finishes (Ok a)) u v → Attempts does c s v (Some (Answered a))

-- a call is made again after each conflict, which takes one of so many turns and leaves so many
pub data Makes {A S : Type 0} (does : Deed A → S → S → Type 0) (c : Call A) : (turns left : ℕ) → (old new : S) → Given A → Type 0 where
  at_last : {n : ℕ} {s t : S} {g : Given A} → Attempts does c s t (Some g) → Makes does c (suc n) (suc n) s t g
  again : {n m : ℕ} {s t u : S} {g : Given A} → Attempts does c s t None → Makes does c n m t u g → Makes does c (suc n) m s u g
  without_turn : {s : S} → Makes does c 0 0 s s TurnsOut

-- each call of a session is made in turn while the session goes on, up to one whose refusal stops it
pub data MakesAll {A S : Type 0} (does : Deed A → S → S → Type 0) : (turns : ℕ) → List (Call A) → (old new : S) → List (Response A) → Type 0 where
  no_call : {n : ℕ} {s : S} → MakesAll does n [] s s []
  goes_no_further : {n : ℕ} {c : Call A} {cs : List (Call A)} {s t : S} → does (asks false) s t → MakesAll does n (c ∷ cs) s t []
  one_more : {n m : ℕ} {c : Call A} {cs : List (Call A)} {s t u v : S} {g : Given A} {rs : List (Response A)} → does (asks true) s t → Makes does c n m t u g → stops g ≡ false → MakesAll does m cs u v rs → MakesAll does n (c ∷ cs) s v (record { number = c.number; given = g } ∷ rs)
  the_last : {n m : ℕ} {c : Call A} {cs : List (Call A)} {s t u : S} {g : Given A} → does (asks true) s t → Makes does c n m t u g → stops g ≡ true → MakesAll does n (c ∷ cs) s u (record { number = c.number; given = g } ∷ [])
