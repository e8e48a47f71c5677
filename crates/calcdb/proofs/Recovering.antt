-- What is recovered of files, from what is recovered of the images that they spell.
use Rattle.std.proofs.Common.{◌≡◌, ◌⊎◌, inl, inr, List, Result, Ok, Err, refl, sym, ap, subst, ◌∙◌}
use Rattle.procedure.specs.Bytes.{Bytes}
use Rattle.procedure.specs.Procedures.{Procedure}
use Rattle.image.specs.Images.{Image}
use Rattle.image.specs.Mergers.{Merging, after}
use Rattle.replay.specs.Recovery.{IsRecovery, Recovery}
use Rattle.replay.specs.declared.errors.RecoverError.{RecoverError}
use Rattle.replay.specs.declared.errors.RecoverError.TheVariants as refused
use Rattle.calcdb.specs.ImageFiles.{AreRead, Spell}
use Rattle.calcdb.specs.Merging.{HasTaken}
use Rattle.calcdb.specs.OwnFiles.{OfScript, OfSpelled, OrNoMemory}
use Rattle.calcdb.specs.Reasons.{Tells, recover_reason}
use Rattle.calcdb.specs.Recovering.{IsRecovered, IsRecoveryFault, OfCatalog, OfFiles, OfImages, recovery_in_words, as_fault}
use Rattle.calcdb.specs.Refusing.{no_memory, text_fault}
use Rattle.calcdb.specs.Preambles.{catalog_of}
use Rattle.calcdb.proofs.Merges.{came, never_refused, same_after}
use Rattle.calcdb.specs.declared.faults.Fault.{Fault}
use Rattle.calcdb.specs.declared.faults.Fault.TheVariants as fault
use Rattle.calcdb.specs.declared.faults.Reason.{Reason}
use Rattle.calcdb.specs.declared.faults.Reason.TheVariants as reason
use Rattle.calcdb.specs.declared.scripts.ScriptFault.{ScriptFault}
use Rattle.calcdb.specs.declared.scripts.ScriptFault.TheVariants as script

tells_itself : (x : Result Recovery Reason) → Tells (λ r. r) x x
tells_itself (Ok r) = refl
tells_itself (Err e) = inr refl

module _ (c : List Procedure) (log : Bytes) (files : List Bytes) where
  pub file_refused : (x : Reason) → (x ≡ reason.NoMemory) ⊎ AreRead files (Err x) → (x ≡ reason.NoMemory) ⊎ OfFiles c log files (Err x)
  file_refused x (inl none) = inl none
  file_refused x (inr h) = inr (Err x, h, refl)

  recovered : (is : List Image) (r : Recovery) → Spell is files → OrNoMemory c is log (Ok r) → OfFiles c log files (Ok r)
  recovered is r spell (inl told) = (Ok is, spell, (Ok r, told, refl))
  recovered is r spell (inr none) = absurd (cc)

  recovery_refused : (is : List Image) (e : RecoverError) → Spell is files → OrNoMemory c is log (Err e) → (recover_reason e ≡ reason.NoMemory) ⊎ OfFiles c log files (Err (recover_reason e))
  recovery_refused is e spell (inl told) = inr (Ok is, spell, (Err e, told, refl))
  recovery_refused is e spell (inr none) =
      let wanting : e ≡ refused.NoMemory = cc in
      inl (ap recover_reason wanting)

  pub only_refused : (x : Reason) → ((read : Result (List Image) Reason) → AreRead files read → (x ≡ reason.NoMemory) ⊎ (read ≡ Err x)) →
      (says : Result Recovery Reason) → OfFiles c log files says → (x ≡ reason.NoMemory) ⊎ (says ≡ Err x)
  only_refused x only says (read, h, told) = elim (only read h) [ inl none ↦ inl none | inr which ↦ inr (rw which at told) ]

  only_of_images : (is : List Image) (x : Result Recovery RecoverError) → ((a : Result Recovery RecoverError) → IsRecovery c is log a → (x ≡ a) ⊎ (x ≡ Err refused.NoMemory)) →
      (says : Result Recovery Reason) → OfImages c log (Ok is) says → Tells (λ r. r) (recovery_in_words x) says
  only_of_images is x only says (a, told, same) =
      elim (only a told) [
        | inl which ↦ rw (same, ← which) (tells_itself (recovery_in_words x))
        | inr none ↦ rw none (inl refl)
      ]

  -- of files that spell images
  pub spelled_refused : (x : Reason) → ((read : Result (List Image) Reason) → AreRead files read → (x ≡ reason.NoMemory) ⊎ (read ≡ Err x)) → OfSpelled c log files (Err x)
  spelled_refused x only is spell = elim (only (Ok is) spell) [ inl none ↦ (Err refused.NoMemory, inr refl, inr (ap (λ (r : Reason). Err r) none)) | inr which ↦ absurd (cc) ]

  -- of files that were taken one after another
  pub only_taken : (m : Merging) (x : Result Recovery RecoverError) → HasTaken files (Ok m) →
      ((is : List Image) → m ≡ after is → (a : Result Recovery RecoverError) → IsRecovery c is log a → (x ≡ a) ⊎ (x ≡ Err refused.NoMemory)) →
      (says : Result Recovery Reason) → OfFiles c log files says → Tells (λ r. r) (recovery_in_words x) says
  only_taken m x h only says (read, at, told) = of_read read at told
    where
      of_read : (read : Result (List Image) Reason) → AreRead files read → OfImages c log read says → Tells (λ r. r) (recovery_in_words x) says
      of_read (Ok is) at told = only_of_images is x (only is (same_after m is (h.only (Ok is) at))) says told
      of_read (Err y) at told = absurd (never_refused m y (h.only (Err y) at))

  pub spelled_taken : (m : Merging) (a : Result Recovery RecoverError) → HasTaken files (Ok m) → ((is : List Image) → m ≡ after is → OrNoMemory c is log a) → OfSpelled c log files (recovery_in_words a)
  spelled_taken m a h told is spell = (a, told is (same_after m is (h.only (Ok is) spell)), inl refl)

  pub recovered_taken : (m : Merging) (r : Recovery) → HasTaken files (Ok m) → ((is : List Image) → m ≡ after is → OrNoMemory c is log (Ok r)) → OfFiles c log files (Ok r)
  recovered_taken m r h told = let (is, spell, same) = came files m h in recovered is r spell (told is same)

  pub refused_taken : (m : Merging) (e : RecoverError) → HasTaken files (Ok m) → ((is : List Image) → m ≡ after is → OrNoMemory c is log (Err e)) →
      (recover_reason e ≡ reason.NoMemory) ⊎ OfFiles c log files (Err (recover_reason e))
  refused_taken m e h told = let (is, spell, same) = came files m h in recovery_refused is e spell (told is same)

-- and of a script's procedures
pub only_by_script : (script log : Bytes) (files : List Bytes) (c : List Procedure) (x : Result Recovery Reason) → catalog_of script ≡ Ok c →
    ((a : Result Recovery Reason) → OfFiles c log files a → Tells (λ r. r) x a) →
    (says : Result Recovery Fault) → IsRecovered script log files says → (as_fault x ≡ says) ⊎ (as_fault x ≡ Err no_memory)
only_by_script script log files c (Ok r) reads only says told =
    let (a, h, same) = rw reads at told in
    inl (sym (same ∙ ap as_fault (only a h)))
only_by_script script log files c (Err e) reads only says told =
    let (a, h, same) = rw reads at told in
    elim (only a h) [
      | inl none ↦ inr (ap (λ (r : Reason). as_fault (Err r)) none)
      | inr which ↦ inl (sym (same ∙ ap as_fault which))
    ]

pub fault_by_script : (script log : Bytes) (files : List Bytes) (c : List Procedure) (x : Reason) → catalog_of script ≡ Ok c → (x ≡ reason.NoMemory) ⊎ OfFiles c log files (Err x) →
    IsRecoveryFault script log files (fault.Refused x)
fault_by_script script log files c x reads (inl none) = inr (ap (λ (r : Reason). fault.Refused r) none)
fault_by_script script log files c x reads (inr told) =
    inl (subst (λ (k : Result (List Procedure) ScriptFault). OfCatalog k log files (Err (fault.Refused x))) (sym reads) (Err x, told, refl))

module _ (text log : Bytes) (files : List Bytes) where
  pub script_refused : (e : ScriptFault) → (e ≡ script.NoMemory) ⊎ (catalog_of text ≡ Err e) → OfScript text log files (Err (text_fault e))
  script_refused e (inl none) c is reads spell = (Err refused.NoMemory, inr refl, inr (ap (λ (f : ScriptFault). Err (text_fault f)) none))
  script_refused e (inr told) c is reads spell = absurd (cc)

  pub scripted : (c : List Procedure) (x : Result Recovery Reason) → catalog_of text ≡ Ok c → OfSpelled c log files x → OfScript text log files (as_fault x)
  scripted c x reads told d is again spell =
      let given : Ok d ≡ Ok c = sym again ∙ reads in
      let same : d ≡ c = cc in
      let (a, recovered, says) = told is spell in
      (a, rw same recovered, elim says [ inl which ↦ inl (ap as_fault which) | inr none ↦ inr (ap as_fault none) ])
