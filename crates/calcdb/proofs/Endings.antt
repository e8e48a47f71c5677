-- How runs end, in the words of what they were given.
use Rattle.std.proofs.Common.{◌≡◌, ◌⊎◌, inl, inr, true, List, Option, Result, Ok, Err, refl, subst}
use Rattle.std.specs.Io.KnownBytes.{Appends}
use Rattle.procedure.specs.Bytes.{Bytes}
use Rattle.image.specs.Images.{Image}
use Rattle.steps.specs.CoreViews.{CoreView}
use Rattle.image.specs.Openings.{is_opening}
use Rattle.steps.specs.Openings.{IsOpened}
use Rattle.calcdb.specs.Outcomes.{EndsRun, IsRunFault, Refuses, RefusesScript, StopsAs, fault_text}
use Rattle.calcdb.specs.Runs.{Carried, CarriesAll, HasRun}
use Rattle.calcdb.specs.declared.commands.Command.{Command}
use Rattle.calcdb.specs.declared.scripts.ScriptFault.TheVariants as script
use Rattle.calcdb.specs.Scripts.{Schedule}
use Rattle.calcdb.specs.declared.faults.Fault.{Fault}
use Rattle.calcdb.specs.declared.faults.Fault.TheVariants as fault
use Rattle.calcdb.specs.declared.scripts.ScriptFault.{ScriptFault}

module _ (A : Type 0) where
  module _ (says : Result Schedule ScriptFault) (opening : Image) (old new : Option Bytes) where
    pub ends_refused : (f r : Fault) → IsRunFault A says opening f → Refuses f old new r → EndsRun A says opening old new r
    ends_refused f fault.Read is h = absurd h
    ends_refused f fault.Write is h = inr (fault_text f, inr (f, is, refl), h)
    ends_refused f fault.NoMemory is h = inr (fault_text f, inr (f, is, refl), h)
    ends_refused f (fault.Line n) is (same, out) = (subst (IsRunFault A says opening) same is, subst (λ g. Appends old new (fault_text g)) same out)
    ends_refused f fault.Size is (same, out) = (subst (IsRunFault A says opening) same is, subst (λ g. Appends old new (fault_text g)) same out)
    ends_refused f (fault.Refused r) is (same, out) = (subst (IsRunFault A says opening) same is, subst (λ g. Appends old new (fault_text g)) same out)

    pub ends_stopped : (s : Schedule) (f : Fault) → is_opening opening ≡ true → says ≡ Ok s → StopsAs A s opening old new f → EndsRun A says opening old new f
    ends_stopped s f lawful reads (inl (is, out)) = rw is (inl out)
    ends_stopped s fault.Write lawful reads (inr (first, core, text, opened, run, sent)) =
        inr (text, inl (record { lawful = lawful; script = s; reads = reads; first = first; core = core; opened = opened; run = run }), sent)
    ends_stopped s fault.NoMemory lawful reads (inr (first, core, text, opened, run, sent)) =
        inr (text, inl (record { lawful = lawful; script = s; reads = reads; first = first; core = core; opened = opened; run = run }), sent)
    ends_stopped s fault.Read lawful reads (inr (first, core, text, opened, run, sent)) = absurd sent
    ends_stopped s (fault.Line n) lawful reads (inr (first, core, text, opened, run, sent)) = absurd sent
    ends_stopped s fault.Size lawful reads (inr (first, core, text, opened, run, sent)) = absurd sent
    ends_stopped s (fault.Refused r) lawful reads (inr (first, core, text, opened, run, sent)) = absurd sent

module _ {A : Type 0} where
  -- in the words of the script
  pub carried_script : (s : Schedule) (opening : Image) (core new : CoreView) (commands : List (Command (List Bytes))) (text : Bytes) (images : List Image) → IsOpened s.catalog opening core →
      commands ≡ s.commands →
      Carried {A = A} (CarriesAll core.catalog commands) core new text images → Carried {A = A} (CarriesAll s.catalog s.commands) core new text images
  carried_script s opening core new commands text images opened same h =
      subst (λ k. Carried {A = A} (CarriesAll k s.commands) core new text images) opened.catalog (subst (λ l. Carried {A = A} (CarriesAll core.catalog l) core new text images) same h)

pub run_script_for : (A : Type 0) (s : Schedule) (opening : Image) (core new : CoreView) (commands : List (Command (List Bytes))) (text : Bytes) → IsOpened s.catalog opening core →
    commands ≡ s.commands →
    HasRun A core.catalog commands core new text → HasRun A s.catalog s.commands core new text
run_script_for A s opening core new commands text opened same h =
    subst (λ k. HasRun A k s.commands core new text) opened.catalog (subst (λ l. HasRun A core.catalog l core new text) same h)

module _ (A : Type 0) (says : Result Schedule ScriptFault) (opening : Image) (old new : Option Bytes) where
  -- a text that is no script
  pub ends_script : (f : ScriptFault) (r : Fault) → is_opening opening ≡ true → (f ≡ script.NoMemory) ⊎ (says ≡ Err f) → RefusesScript f old new r → EndsRun A says opening old new r
  ends_script (script.Line n) r lawful (inl e) h = absurd (cc)
  ends_script (script.Line n) r lawful (inr reads) h = ends_refused A says opening old new (fault.Line n) r (lawful, reads) h
  ends_script script.Size r lawful (inl e) h = absurd (cc)
  ends_script script.Size r lawful (inr reads) h = ends_refused A says opening old new fault.Size r (lawful, reads) h
  ends_script script.NoMemory r lawful read (is, out) = rw is (inl out)
