-- What a run in threads comes to, and what is printed of it.
use Rattle.std.specs.Prelude.{◌≡◌, ℕ, Bool, true, false, ◌-◌, codes, decimal, List, [], ◌∷◌, ◌++◌, length, Option, Result, Ok, Err}
use Rattle.std.specs.Io.KnownBytes.{Appends}
use mathlib.Core.List.{IsPrefix}
use Rattle.procedure.specs.Bytes.{Bytes}
use Rattle.procedure.specs.Table.{value_at}
use Rattle.image.specs.Images.{Image}
use Rattle.replay.specs.Refusals.{audit_error_text}
use Rattle.replay.specs.declared.errors.AuditError.{AuditError}
use Rattle.view.specs.Shown.{number_of, shown}
use Rattle.steps.specs.CoreViews.{CoreView}
use Rattle.workers.specs.Checkpointed.{AreCuts, call_count}
use Rattle.calcdb.specs.Runs.{Sent}
use Rattle.calcdb.specs.declared.faults.Fault.{Fault}
use Rattle.calcdb.specs.declared.journals.Stop.{Stop}
use Rattle.calcdb.specs.declared.journals.Stop.TheVariants as stop
use Rattle.calcdb.specs.Output.{cell_text, numbered_text, value_text}
use Rattle.calcdb.specs.declared.looking.Found.{Found}
use Rattle.calcdb.specs.declared.looking.Found.TheVariants.{Held, NotEntered, NoMemory}

-- how many calls there are, how many were answered with a place, and how many weren't
abbrev pub calls_text : (count answered : ℕ) → Bytes
calls_text count answered = codes "calls " ++ decimal count ++ codes " answered " ++ decimal answered ++ numbered_text (codes " stopped ") (count - answered)

abbrev pub audit_text : Result (Unit {0}) AuditError → Bytes
audit_text (Ok x) = codes "audit ok\n"
audit_text (Err e) = codes "audit refused " ++ audit_error_text e ++ codes "\n"

-- the lines of a run
abbrev pub run_text : (count answered images : ℕ) → Result (Unit {0}) AuditError → Bytes
run_text count answered images audited = calls_text count answered ++ numbered_text (codes "images ") images ++ audit_text audited

abbrev pub found_text : Found Bytes → Bytes
found_text (Held n v) = decimal n ++ codes " " ++ cell_text v
found_text NotEntered = codes "not entered"
found_text NoMemory = codes "no memory"

-- a key, and what was found of it
abbrev pub view_text : Bytes → Found Bytes → Bytes
view_text key found = codes "view " ++ value_text key ++ codes " " ++ found_text found ++ codes "\n"

-- what is found of a key where these images were seen
abbrev pub IsFound : List Image → Bytes → Found Bytes → Type 0
IsFound seen key (Held n v) = (n ≡ number_of seen) × (v ≡ value_at (shown seen) key)
IsFound seen key NotEntered = Unit {0}
IsFound seen key NoMemory = Unit {0}

-- the lines of keys that are looked up one after another by a looker that was told these images: each is that of what
-- they, or they and later ones, show
abbrev pub ShowsEach : List Image → List Bytes → Bytes → Type 0
ShowsEach told [] text = text ≡ []
ShowsEach told (k ∷ ks) text =
    (seen : List Image) × (f : Found Bytes) × (rest : Bytes) × IsPrefix told seen × IsFound seen k f × (text ≡ view_text k f ++ rest) × ShowsEach told ks rest

-- a run in threads of so many calls: each image is that of its checkpoint in the core's log, and the text is the lines of
-- the run, whose audit found nothing, and those of the keys
pub record RunsInThreads (count : ℕ) (keys : List Bytes) (core : CoreView) (images : List Image) (text : Bytes) : Type 0 where
  pub cuts : AreCuts core images
  pub told : List Image
  pub views : Bytes
  pub shows : ShowsEach told keys views
  pub parts : text ≡ run_text count (call_count core.log) (length images) (Ok tt) ++ views

-- what a run in threads wrote: its lines, and nothing where its journal failed
abbrev pub WritesRun : (is_kept : Bool) → (count : ℕ) → (keys : List Bytes) → CoreView → List Image → (old new : Option Bytes) → Type 0
WritesRun true count keys core images old new = (text : Bytes) × RunsInThreads count keys core images text × Appends old new text
WritesRun false count keys core images old new = AreCuts core images × Appends old new []

-- where its lines weren't all written: a beginning of such a text with the first keys
abbrev pub StopsInThreads : (count : ℕ) → (keys : List Bytes) → CoreView → List Image → (old new : Option Bytes) → Fault → Type 0
StopsInThreads count keys core images old new f =
    (front left : List Bytes) × (keys ≡ front ++ left) × (text : Bytes) × RunsInThreads count front core images text × Sent (Err f) old new text

-- and how that went
abbrev pub Writes : (is_kept : Bool) → (count : ℕ) → (keys : List Bytes) → CoreView → List Image → (old new : Option Bytes) → Result (Unit {0}) Fault → Type 0
Writes is_kept count keys core images old new (Ok x) = WritesRun is_kept count keys core images old new
Writes is_kept count keys core images old new (Err f) = (is_kept ≡ true) × StopsInThreads count keys core images old new f

-- why a run isn't carried out: a fault, or its journal couldn't begin
abbrev pub StopsWith : {F : Type 0} → (Fault → Type 0) → Type 0 → Stop F → Type 0
StopsWith P Unbegun (stop.Fault f) = P f
StopsWith P Unbegun (stop.Journal e) = Unbegun
