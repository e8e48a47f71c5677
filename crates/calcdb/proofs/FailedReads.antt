-- What reads nothing doesn't end at a read that failed.
use Rattle.std.proofs.Common.{◌≡◌, ◌≢◌, ◌⊎◌, inl, inr, [], ℕ, Option, Err, sym, subst, ◌∙◌}
use Rattle.std.specs.Io.KnownBytes.{Appends}
use Rattle.procedure.specs.Bytes.{Bytes}
use Rattle.image.specs.Images.{Image}
use Rattle.calcdb.specs.Journals.{IfFault, IsUnopened, StopsKept, Taken}
use Rattle.calcdb.specs.Outcomes.{Refuses, RefusesScript}
use Rattle.calcdb.specs.Refusing.{Declines, FailsText, text_fault}
use Rattle.calcdb.specs.Runs.{Sent}
use Rattle.calcdb.specs.Scripts.{Schedule}
use Rattle.calcdb.specs.declared.faults.Fault.{Fault}
use Rattle.calcdb.specs.declared.faults.Fault.TheVariants as fault
use Rattle.calcdb.specs.declared.faults.Reason.TheVariants.{NoView}
use Rattle.calcdb.specs.declared.journals.Stop.{Stop}
use Rattle.calcdb.specs.declared.journals.Stop.TheVariants as stop
use Rattle.calcdb.specs.declared.scripts.ScriptFault.{ScriptFault}
use Rattle.calcdb.specs.declared.scripts.ScriptFault.TheVariants as script

pub text_not_read : (f : ScriptFault) → text_fault f ≢ fault.Read
text_not_read (script.Line n) = λ e. absurd (cc)
text_not_read script.Size = λ e. absurd (cc)
text_not_read script.NoMemory = λ e. absurd (cc)

module _ (old new : Option Bytes) where
  refusing : (f r : Fault) → Refuses f old new r → r ≢ fault.Read
  refusing f r h = λ e. subst (Refuses f old new) e h

  sending : (f : Fault) (text : Bytes) → Sent (Err f) old new text → f ≢ fault.Read
  sending f text h = λ e. subst (λ (x : Fault). Sent (Err x) old new text) e h

  -- a text that is no script
  pub refusing_script : (f : ScriptFault) (r : Fault) → RefusesScript f old new r → r ≢ fault.Read
  refusing_script (script.Line n) r h = refusing (fault.Line n) r h
  refusing_script script.Size r h = refusing fault.Size r h
  refusing_script script.NoMemory r (is, out) = λ e. absurd (cc)

  -- a run in threads that isn't carried out
  pub in_threads : (f : Fault) → Refuses (fault.Refused NoView) old new f ⊎ ((f ≡ fault.NoMemory) × Appends old new []) → f ≢ fault.Read
  in_threads f (inl h) = refusing (fault.Refused NoView) f h
  in_threads f (inr (is, out)) = λ e. absurd (cc)

  not_read : (text : Bytes) → FailsText text old new fault.Read → ⊥
  not_read text (is, out) = absurd (cc)

  -- a header line that wasn't written
  pub in_header : (f : Fault) (text : Bytes) → FailsText text old new f → f ≢ fault.Read
  in_header f text h = λ e. not_read text (subst (FailsText text old new) e h)

  -- a fault that was said
  pub in_line : (f r : Fault) → f ≢ fault.Read → Declines f old new r → r ≢ fault.Read
  in_line f r other (inl (inl (is, out))) = λ e. other (sym is ∙ e)
  in_line f r other (inl (inr (is, out))) = λ e. absurd (cc)
  in_line f r other (inr (inl (is, out))) = λ e. absurd (cc)
  in_line f r other (inr (inr (is, out))) = λ e. absurd (cc)

module _ (A F : Type 0) (old new : Option Bytes) (Has : Taken → Type 0) (Front : Taken → ℕ → Type 0) where
  -- a run with a journal
  pub in_run : (script : Schedule) (opening : Image) (Same : Type 0) (stopped : Stop F) →
      IsUnopened stopped Same old new ⊎ StopsKept A script opening old new Has Front stopped → IfFault (λ f. f ≢ fault.Read) stopped
  in_run script opening Same (stop.Fault f) (inl (is, same, out)) = λ e. absurd (cc)
  in_run script opening Same (stop.Fault f) (inr (first, opened, h)) = sending old new f h.1.0 h.1.2
  in_run script opening Same (stop.Journal e) h = tt
