-- How runs in threads end, in the words of what they were given.
use Rattle.std.proofs.Common.{◌≡◌, ◌⊎◌, inl, inr, true, [], Option, Result, Ok, Err, refl}
use Rattle.std.specs.Io.KnownBytes.{Appends}
use Rattle.procedure.specs.Bytes.{Bytes}
use Rattle.image.specs.Images.{Image}
use Rattle.image.specs.Openings.{is_opening}
use Rattle.calcdb.specs.Outcomes.{Refuses, RefusesScript}
use Rattle.calcdb.specs.Journals.{IfFault}
use Rattle.calcdb.specs.ThreadRuns.{StopsWith}
use Rattle.calcdb.specs.declared.journals.Stop.{Stop}
use Rattle.calcdb.specs.declared.journals.Stop.TheVariants as stop
use Rattle.calcdb.specs.ThreadOutcomes.{NotCarriedOut}
use Rattle.calcdb.specs.Scripts.{ThreadScript}
use Rattle.calcdb.specs.declared.faults.Fault.{Fault}
use Rattle.calcdb.specs.declared.faults.Fault.TheVariants as fault
use Rattle.calcdb.specs.declared.faults.Reason.TheVariants.{NoView}
use Rattle.calcdb.specs.declared.scripts.ScriptFault.{ScriptFault}
use Rattle.calcdb.specs.declared.scripts.ScriptFault.TheVariants as script

module _ (says : Result ThreadScript ScriptFault) (opening : Image) (old new : Option Bytes) where
  -- a text that is no script
  pub ends_script : (f : ScriptFault) (r : Fault) → is_opening opening ≡ true → (f ≡ script.NoMemory) ⊎ (says ≡ Err f) → RefusesScript f old new r → NotCarriedOut says opening old new r
  ends_script (script.Line n) r lawful (inl e) h = absurd (cc)
  ends_script (script.Line n) r lawful (inr reads) h = inr (fault.Line n, (lawful, reads), h)
  ends_script script.Size r lawful (inl e) h = absurd (cc)
  ends_script script.Size r lawful (inr reads) h = inr (fault.Size, (lawful, reads), h)
  ends_script script.NoMemory r lawful read (is, out) = inl (inr is, out)

  -- a run without a view, or without memory
  pub ends_run : (s : ThreadScript) (f : Fault) → is_opening opening ≡ true → says ≡ Ok s → Refuses (fault.Refused NoView) old new f ⊎ ((f ≡ fault.NoMemory) × Appends old new []) → NotCarriedOut says opening old new f
  ends_run s f lawful reads (inl h) = inr (fault.Refused NoView, inr (lawful, s, reads, refl), h)
  ends_run s f lawful reads (inr (is, out)) = inl (inr is, out)

-- what is said of the fault by which a run ends, and of one whose journal couldn't begin
pub stops_so : {F U V : Type 0} (P Q : Fault → Type 0) (s : Stop F) → ((f : Fault) → P f → Q f) → (U → V) → StopsWith P U s → StopsWith Q V s
stops_so P Q (stop.Fault f) more same h = more f h
stops_so P Q (stop.Journal e) more same h = same h

pub stops_if_fault : {F : Type 0} (U : Type 0) (P Q : Fault → Type 0) (s : Stop F) → ((f : Fault) → P f → Q f) → StopsWith P U s → IfFault Q s
stops_if_fault U P Q (stop.Fault f) more h = more f h
stops_if_fault U P Q (stop.Journal e) more h = tt
