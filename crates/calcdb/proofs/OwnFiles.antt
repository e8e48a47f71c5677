-- What is answered to the files that a history left.
use Rattle.std.proofs.Common.{◌≡◌, ◌⊎◌, inl, inr, List, [], ◌∷◌, Option, Result, Ok, Err, refl, ap, ◌∙◌}
use Rattle.std.specs.Prelude.{IfOk, IfErr}
use Rattle.std.specs.Io.KnownBytes.{Appends}
use Rattle.procedure.specs.Bytes.{Bytes}
use Rattle.image.specs.Images.{Image}
use Rattle.image.specs.Merges.{last_of}
use Rattle.replay.proofs.Promised.{from_images, from_opening}
use Rattle.replay.specs.Recovery.{Recovery}
use Rattle.replay.specs.declared.errors.RecoverError.{RecoverError}
use Rattle.replay.specs.declared.errors.RecoverError.TheVariants as refused
use Rattle.calcdb.specs.OwnFiles.{FromImageFiles, FromOpeningFile, GivesRecovery, OfScript, history_recovery}
use Rattle.calcdb.specs.Recovering.{recovery_in_words, as_fault, recovered_image, recovered_line}
use Rattle.calcdb.specs.Refusing.{Declines, FailsAs, IsSaid, no_memory}
use Rattle.calcdb.specs.declared.faults.Fault.{Fault}
use Rattle.calcdb.specs.declared.faults.Fault.TheVariants as fault

-- this is recovered, unless memory was wanting
abbrev pub Given : Recovery → Result Recovery Fault → Type 0
Given r x = (x ≡ Ok r) ⊎ (x ≡ Err no_memory)

given : (r : Recovery) (a : Result Recovery RecoverError) (x : Result Recovery Fault) → (a ≡ Ok r) ⊎ (a ≡ Err refused.NoMemory) → (x ≡ as_fault (recovery_in_words a)) ⊎ (x ≡ Err no_memory) → Given r x
given r a x (inl is) (inl same) = inl (same ∙ ap (λ (b : Result Recovery RecoverError). as_fault (recovery_in_words b)) is)
given r a x (inr none) (inl same) = inr (same ∙ ap (λ (b : Result Recovery RecoverError). as_fault (recovery_in_words b)) none)
given r a x h (inr none) = inr none

module _ (script text : Bytes) (files : List Bytes) (x : Result Recovery Fault) (y : Result Image Fault) (told : OfScript script text files x) (ends : (r : Recovery) → Given r x → GivesRecovery r y)
  where
    pub from_opening_file : FromOpeningFile script text files y
    from_opening_file c opening v h l reads history front spell =
        let s = told c (opening ∷ []) reads spell in
        let f = from_opening c (opening ∷ []) text s.0 s.1 opening v h l history front refl in
        (f.0, f.1, f.2, f.3, f.4, ends (history_recovery c opening 0 f.0 f.3) (given (history_recovery c opening 0 f.0 f.3) s.0 x f.5 s.2))

    pub from_image_files : FromImageFiles script text files y
    from_image_files c opening v h m left e full ps reads history read spell chain holds =
        let s = told c (full ∷ ps) reads spell in
        let f = from_images c (full ∷ ps) text s.0 s.1 opening v h m left e full ps history read refl chain holds in
        let r = history_recovery c opening (last_of full ps).place m e in
        ends r (given r s.0 x f s.2)

module _ (old new : Option Bytes) where
  failed_gives : (text : Bytes) (s : Recovery) (f : Fault) → FailsAs (λ g. g ≡ no_memory) (λ (t : Bytes). t ≡ text) old new f → GivesRecovery s (Err f)
  failed_gives text s (fault.Line n) (is, out) = inr is
  failed_gives text s fault.Size (is, out) = inr is
  failed_gives text s (fault.Refused r) (is, out) = inr is
  failed_gives text s fault.Read (is, out) = inr is
  failed_gives text s fault.Write h = inl refl
  failed_gives text s fault.NoMemory h = absurd h

  -- where it is finished
  pub finished_gives : (r : Recovery) (y : Result Image Fault) → IfOk y (λ i. (i ≡ recovered_image r) × Appends old new (recovered_line r)) →
      IfErr y (λ f. FailsAs (λ g. g ≡ no_memory) (λ t. t ≡ recovered_line r) old new f) → (s : Recovery) → Given s (Ok r) → GivesRecovery s y
  finished_gives r (Ok i) ok err s (inl same) =
      let which : r ≡ s = cc in
      ok.0 ∙ ap recovered_image which
  finished_gives r (Ok i) ok err s (inr same) = absurd (cc)
  finished_gives r (Err f) ok err s h = failed_gives (recovered_line r) s f err

  said_gives : (f x : Fault) (s : Recovery) → f ≡ no_memory → IsSaid f old new x → GivesRecovery s (Err x)
  said_gives f x s none (inl (same, out)) = inr (same ∙ none)
  said_gives f x s none (inr (same, out)) = inl same

  -- where it is declined
  pub declined_gives : (f x : Fault) → Declines f old new x → (s : Recovery) → Given s (Err f) → GivesRecovery s (Err x)
  declined_gives f x h s (inl same) = absurd (cc)
  declined_gives f x (inl h) s (inr same) =
      let none : f ≡ no_memory = cc in
      said_gives f x s none h
  declined_gives f x (inr h) s (inr same) = said_gives no_memory x s refl h
