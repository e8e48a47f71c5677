-- What a core that is renewed leaves to the new one, and when it isn't renewed.
use Rattle.std.specs.Prelude.{◌≡◌, ◌++◌, Bool, true, not, List, [], ◌∷◌, codes, Option, Ok, Err}
use Rattle.std.specs.List.{AllByRecursion}
use Rattle.std.specs.declared.result.Result.{Result}
use Rattle.std.specs.Option.{option_or}
use Rattle.procedure.specs.Bytes.{Bytes}
use Rattle.commitlog.specs.Histories.{IsLegal, after, phase_of}
use Rattle.commitlog.specs.Records.{Record}
use Rattle.image.specs.Images.{Image, full_image}
use Rattle.image.specs.Merges.{table_of}
use Rattle.steps.specs.CoreViews.{CoreView, Underway, any_open, table_now}
use Rattle.steps.specs.Refusals.{is_rest, nothing_waits, refused_unless}
use Rattle.steps.specs.declared.errors.RenewError.{RenewError}
use Rattle.steps.specs.declared.errors.RenewError.TheVariants.{NotAtRest, SessionBusy, NotTaken, NoMemory}

-- the opening of the new core: the full image of the table now, with number, base and place 0
abbrev pub next_opening : CoreView → Image
next_opening v = full_image 0 0 (table_now v)

-- is a call of any session open?
abbrev pub is_busy : List (Option Underway) → Bool
is_busy calls = any_open (λ c. true) calls

-- why a core isn't renewed, want of memory apart
abbrev pub renew_refusal : CoreView → Option RenewError
renew_refusal v =
    option_or (refused_unless (is_rest (phase_of v.log)) NotAtRest)
    (option_or (refused_unless (not (is_busy v.calls)) SessionBusy) (refused_unless (nothing_waits v.checkpoint) NotTaken))

-- an answer, without the core that a refusal hands back
abbrev pub no_core : {X E : Type 0} → Result X (CoreView × E) → Result X E
no_core (Ok x) = Ok x
no_core (Err e) = Err e.1

abbrev pub renew_error_text : RenewError → Bytes
renew_error_text NotAtRest = codes "not at rest"
renew_error_text SessionBusy = codes "session busy"
renew_error_text NotTaken = codes "not taken"
renew_error_text NoMemory = codes "no memory"

-- ---- cores of which each goes on from the one before

-- each has the procedures of the one before, and opens with its table
abbrev pub AreRenewed : CoreView → List CoreView → Type 0
AreRenewed v [] = Unit {0}
AreRenewed v (w ∷ ws) = (w.catalog ≡ v.catalog) × (table_of w.opening ≡ table_now v) × AreRenewed w ws

abbrev pub last_core : CoreView → List CoreView → CoreView
last_core v [] = v
last_core v (w ∷ ws) = last_core w ws

-- their logs, one after another
abbrev pub logs_of : CoreView → List CoreView → List Record
logs_of v [] = v.log
logs_of v (w ∷ ws) = v.log ++ logs_of w ws

-- as the log of each core is (`Core::records`)
abbrev pub HasLegalLog : CoreView → Type 0
HasLegalLog v = IsLegal v.catalog (table_of v.opening) v.log

-- from the first opening on, each call of these logs gives what its run gives on the table after those before it, and
-- all of them leave the table of the last core
pub record AreOneHistory (v : CoreView) (ws : List CoreView) : Type 0 where
  pub legal : IsLegal v.catalog (table_of v.opening) (logs_of v ws)
  pub table : after v.catalog (table_of v.opening) (logs_of v ws) ≡ table_now (last_core v ws)

abbrev pub RenewalsJoin : Type 0
RenewalsJoin = (v : CoreView) (ws : List CoreView) → AllByRecursion HasLegalLog (v ∷ ws) → AreRenewed v ws → AreOneHistory v ws
