-- How a recovery ends, by what was recovered or refused.
use Rattle.std.proofs.Common.{◌≡◌, ◌⊎◌, inl, inr, List, Option, Result, Ok, Err, refl, sym}
use Rattle.std.specs.Prelude.{IfOk, IfErr}
use Rattle.std.specs.Io.KnownBytes.{Appends}
use Rattle.std.proofs.lemmas.Result.{IfErr-weaker}
use Rattle.procedure.specs.Bytes.{Bytes}
use Rattle.procedure.specs.Procedures.{Procedure}
use Rattle.image.specs.Images.{Image}
use Rattle.replay.specs.Recovery.{Recovery}
use Rattle.calcdb.proofs.Declined.{declined, fails_wider}
use Rattle.calcdb.specs.Outcomes.{HasLine}
use Rattle.calcdb.specs.Recovering.{AgreesWithRecovery, EndsRecovery, IsRecoveryFault, IsRecoveryLine, IsRecovered, OfCatalog, as_fault, recovered_image, recovered_line}
use Rattle.calcdb.specs.Refusing.{Declines, FailsAs, no_memory, text_fault}
use Rattle.calcdb.specs.Preambles.{catalog_of}
use Rattle.calcdb.specs.declared.faults.Fault.{Fault}
use Rattle.calcdb.specs.declared.faults.Fault.TheVariants as fault
use Rattle.calcdb.specs.declared.faults.Reason.{Reason}
use Rattle.calcdb.specs.declared.scripts.ScriptFault.{ScriptFault}
use Rattle.calcdb.specs.declared.scripts.ScriptFault.TheVariants as script

text_has_line : (e : ScriptFault) → HasLine (text_fault e)
text_has_line (script.Line n) = tt
text_has_line script.Size = tt
text_has_line script.NoMemory = tt

reason_has_line : (f : Fault) (a : Result Recovery Reason) → Err f ≡ as_fault a → HasLine f
reason_has_line f (Ok r) same = absurd (cc)
reason_has_line f (Err r) same =
    let which : f ≡ fault.Refused r = cc in
    rw which tt

told_has_line : (log : Bytes) (files : List Bytes) (k : Result (List Procedure) ScriptFault) (f : Fault) → OfCatalog k log files (Err f) → HasLine f
told_has_line log files (Err e) f same =
    let which : f ≡ text_fault e = cc in
    rw which (text_has_line e)
told_has_line log files (Ok c) f (a, h, same) = reason_has_line f a same

module _ (text log : Bytes) (files : List Bytes) where
  has_line : (f : Fault) → IsRecoveryFault text log files f → HasLine f
  has_line f (inl told) = told_has_line log files (catalog_of text) f told
  has_line f (inr none) = rw none tt

  module _ (old new : Option Bytes) where
    -- a fault of the files that was declined
    pub fault_declined : (f x : Fault) → IsRecoveryFault text log files f → Declines f old new x → EndsRecovery text log files old new x
    fault_declined f x is said = declined (IsRecoveryFault text log files) (IsRecoveryLine text log files) old new f x (has_line f is) is (inr refl) said

    -- what was recovered, where that isn't written
    pub line_fails : (r : Recovery) (x : Result Image Fault) → IsRecovered text log files (Ok r) → IfErr x (λ f. FailsAs (λ g. g ≡ no_memory) (λ t. t ≡ recovered_line r) old new f) →
        IfErr x (λ f. EndsRecovery text log files old new f)
    line_fails r x told h =
        IfErr-weaker x (λ f. FailsAs (λ g. g ≡ no_memory) (λ t. t ≡ recovered_line r) old new f) (λ f. EndsRecovery text log files old new f)
        (λ f out. fails_wider (λ g. g ≡ no_memory) (IsRecoveryFault text log files) (λ (t : Bytes). t ≡ recovered_line r) (IsRecoveryLine text log files) (λ g is. inr is) (λ t is. (r, told, is)) old
        new f out) h

-- ---- nothing else is answered

module _ (says : Result Recovery Fault) (old new : Option Bytes) where
  failed_agrees : (text : Bytes) (f : Fault) → FailsAs (λ g. g ≡ no_memory) (λ (t : Bytes). t ≡ text) old new f → AgreesWithRecovery (Err f) says
  failed_agrees text (fault.Line n) (is, out) = inr (inl is)
  failed_agrees text fault.Size (is, out) = inr (inl is)
  failed_agrees text (fault.Refused r) (is, out) = inr (inl is)
  failed_agrees text fault.Read (is, out) = inr (inl is)
  failed_agrees text fault.Write h = inl refl
  failed_agrees text fault.NoMemory h = absurd h

  pub finished_agrees : (r : Recovery) (x : Result Image Fault) → IfOk x (λ i. (i ≡ recovered_image r) × Appends old new (recovered_line r)) →
      IfErr x (λ f. FailsAs (λ g. g ≡ no_memory) (λ t. t ≡ recovered_line r) old new f) → (Ok r ≡ says) ⊎ (Ok r ≡ Err no_memory) → AgreesWithRecovery x says
  finished_agrees r (Ok i) ok err (inl same) = (r, sym same, ok.0)
  finished_agrees r (Ok i) ok err (inr same) = absurd (cc)
  finished_agrees r (Err f) ok err told = failed_agrees (recovered_line r) f err
