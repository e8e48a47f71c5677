-- What a run gives to a journal on its way.
use Rattle.std.specs.Prelude.{◌⊎◌, ◌≡◌, ℕ, length, List, [], ◌∷◌, ◌++◌, Option, None, Some, option_map, option_to_list, Result, Ok, Err}
use Rattle.std.specs.Borrow.{Bor}
use Rattle.std.specs.Io.KnownBytes.{Appends}
use Rattle.procedure.specs.Bytes.{Bytes}
use Rattle.procedure.specs.Procedures.{Procedure}
use Rattle.commitlog.specs.Records.{Record}
use Rattle.image.specs.Images.{Image}
use Rattle.steps.specs.CoreViews.{CoreView}
use Rattle.steps.specs.Openings.{IsOpened}
use Rattle.calcdb.specs.Runs.{Carried, Carries, CarriesAll, HasRun, Images, Sent}
use Rattle.calcdb.specs.Scripts.{Schedule, ThreadScript}
use Rattle.calcdb.specs.declared.commands.Command.{Command}
use Rattle.calcdb.specs.declared.faults.Fault.{Fault}
use Rattle.calcdb.specs.declared.faults.Fault.TheVariants as fault
use Rattle.calcdb.specs.declared.journals.Stop.{Stop}
use Rattle.calcdb.specs.declared.journals.Stop.TheVariants as stop
use Rattle.calcdb.specs.declared.scripts.ScriptFault.{ScriptFault}

-- what a core was opened with, and of its log and its images those so far
pub record Taken : Type 0 where
  pub catalog : List Procedure
  pub opening : Image
  pub records : List Record
  pub images : List Image

-- all of a core, with these images
abbrev pub taken_of : CoreView → List Image → Taken
taken_of v is = record { catalog = v.catalog; opening = v.opening; records = v.log; images = is }

-- records and images more
abbrev pub with_more : Taken → List Record → List Image → Taken
with_more t rs is = record t { records = t.records ++ rs; images = t.images ++ is }

-- the image that was given, if one was
abbrev pub images_given : Option (Bor Image) → List Image
images_given i = option_to_list (option_map (λ i. i.now) i)

-- how a journal is that is told of all that a run adds
module _ {J : Type 0} (Has : J → J → Taken → Type 0) (Front : J → J → Taken → ℕ → Type 0) (start now : J) where
  -- it failed: before, it had all that it was told of; then, with more, a front of it, with each record from before at least; it was told of the rest since
  pub record HasFailed (told : Taken) : Type 0 where
    pub before : Taken
    pub records : List Record
    pub images : List Image
    pub later_records : List Record
    pub later_images : List Image
    pub all : told ≡ with_more (with_more before records images) later_records later_images
    pub front : Front start now (with_more before records images) (length before.records)

  -- it has all, or it failed
  abbrev pub IsTold : {F : Type 0} → Option F → Taken → Type 0
  IsTold None t = Has start now t
  IsTold (Some f) t = HasFailed t

module _ {F : Type 0} where
  -- where it was no journal that failed
  abbrev pub IfFault : (Fault → Type 0) → Stop F → Type 0
  IfFault P (stop.Fault f) = P f
  IfFault P (stop.Journal e) = Unit {0}

  -- what went out of one command's text: nothing where the journal failed
  abbrev pub SentUnlessUnkept : Result (Unit {0}) (Stop F) → Option Bytes → Option Bytes → Bytes → Type 0
  SentUnlessUnkept (Ok x) old new text = Appends old new text
  SentUnlessUnkept (Err (stop.Fault f)) old new text = Sent (Err f) old new text
  SentUnlessUnkept (Err (stop.Journal e)) old new text = Appends old new []

  -- the journal has all, or where it failed a front
  abbrev pub IsKept : Result (Unit {0}) (Stop F) → (has front : Type 0) → Type 0
  IsKept (Ok x) has front = has
  IsKept (Err (stop.Fault f)) has front = has
  IsKept (Err (stop.Journal e)) has front = front

  -- there was no memory to open the core with: nothing went out
  abbrev pub IsUnopened : Stop F → (Same : Type 0) → Option Bytes → Option Bytes → Type 0
  IsUnopened s Same old new = (s ≡ stop.Fault fault.NoMemory) × Same × Appends old new []

  -- what a journal has before the first call: what the core was opened with, or where it failed a front of that
  abbrev pub HasOpening : CoreView → (Has : Taken → Type 0) (Front : Taken → ℕ → Type 0) → Stop F → Type 0
  HasOpening first Has Front (stop.Fault f) = Has (taken_of first [])
  HasOpening first Has Front (stop.Journal e) = Front (taken_of first []) 0

  -- how the journal of a run in threads is left that isn't carried out: as it was, where no core was opened
  abbrev pub LeavesUnrun : Result ThreadScript ScriptFault → Image → (Same : Type 0) (Has : Taken → Type 0) (Front : Taken → ℕ → Type 0) → Stop F → Type 0
  LeavesUnrun says opening Same Has Front s =
      Same ⊎ ((script : ThreadScript) × (says ≡ Ok script) × (first : CoreView) × IsOpened script.catalog opening first × HasOpening first Has Front s)

module _ (A : Type 0) where
  -- commands from the front on were carried out and answered, and one more that isn't answered
  pub record HasLeftOff (catalog : List Procedure) (commands : List (Command (List Bytes))) (old new : CoreView) (text : Bytes) : Type 0 where
    pub front : List (Command (List Bytes))
    pub command : Command (List Bytes)
    pub left : List (Command (List Bytes))
    pub parts : commands ≡ front ++ (command ∷ left)
    pub before : CoreView
    pub images : Images
    pub answered : Carried {A = A} (CarriesAll catalog front) old before text images
    pub last : Bytes
    pub taken : Images
    pub unanswered : Carried {A = A} (Carries catalog command) before new last taken

  -- how commands stop on the way: at a fault that isn't the journal's it has the whole log and all images; where it failed itself, a front of them with those of
  -- the command that isn't answered, and at least the records of those that are
  module _ (catalog : List Procedure) (commands : List (Command (List Bytes))) (first core : CoreView) (old new : Option Bytes) (Has : Taken → Type 0) (Front : Taken → ℕ → Type 0) where
    abbrev pub StopsIn : {F : Type 0} → Stop F → Type 0
    StopsIn (stop.Fault f) = (text : Bytes) × (run : HasRun A catalog commands first core text) × Sent (Err f) old new text × Has (taken_of core run.images)
    StopsIn (stop.Journal e) = (text : Bytes) × (cut : HasLeftOff catalog commands first core text) × Appends old new text × Front (taken_of core (cut.images ++ cut.taken)) (length cut.before.log)

  -- and how a run of them stops: the journal may fail before the first command too
  module _ (catalog : List Procedure) (commands : List (Command (List Bytes))) (first : CoreView) (old new : Option Bytes) (Has : Taken → Type 0) (Front : Taken → ℕ → Type 0) where
    abbrev pub StopsFrom : {F : Type 0} → Stop F → Type 0
    StopsFrom {F} (stop.Fault f) = (core : CoreView) × StopsIn catalog commands first core old new Has Front {F = F} (stop.Fault f)
    StopsFrom {F} (stop.Journal e) = (Appends old new [] × Front (taken_of first []) 0) ⊎ ((core : CoreView) × StopsIn catalog commands first core old new Has Front {F = F} (stop.Journal e))

  module _ (script : Schedule) (opening : Image) (old new : Option Bytes) (Has : Taken → Type 0) (Front : Taken → ℕ → Type 0) where
    -- and that of a script, once its core is opened
    abbrev pub StopsKept : {F : Type 0} → Stop F → Type 0
    StopsKept s = (first : CoreView) × IsOpened script.catalog opening first × StopsFrom script.catalog script.commands first old new Has Front s

  -- how a run's journal is left: as it was, where no core was opened
  abbrev pub LeavesJournal : {F : Type 0} → Result Schedule ScriptFault → Image → Option Bytes → Option Bytes → (Same : Type 0) (Has : Taken → Type 0) (Front : Taken → ℕ → Type 0) → Stop F → Type 0
  LeavesJournal says opening old new Same Has Front s = Same ⊎ ((script : Schedule) × (says ≡ Ok script) × StopsKept script opening old new Has Front s)
