-- What is recovered from a log, and that nothing else is.
use Rattle.std.proofs.Common.{◌≡◌, ◌⊎◌, inl, inr, ℕ, ◌+◌, ◌<◌, Bool, List, Ok, Err, refl, sym, ap, ◌∙◌, subst, arith}
use Rattle.std.specs.declared.result.Result.{Result}
use Rattle.std.proofs.Math.Logic.{⊎_map}
use Rattle.procedure.specs.Bytes.{Bytes}
use Rattle.procedure.specs.Table.{Table}
use Rattle.procedure.specs.Procedures.{Procedure}
use Rattle.commitlog.specs.Records.{Record}
use Rattle.commitlog.specs.declared.formats.Version.{Version}
use Rattle.commitlog.specs.declared.formats.LogHeader.{LogHeader}
use Rattle.commitlog.specs.declared.decoding.Ending.{Ending}
use Rattle.commitlog.specs.Histories.{EachAfter}
use Rattle.commitlog.specs.declared.decoding.LogError.{LogError}
use Rattle.image.specs.Images.{Image}
use Rattle.image.specs.declared.merges.MergeError.{MergeError}
use Rattle.image.specs.Merges.{table_of}
use Rattle.replay.proofs.Answering.{ToBytes, one_of_bytes}
use Rattle.replay.specs.Parts.{RunAgain}
use Rattle.replay.specs.Replays.{is_torn, RunsAgain, Diverges, Overflows}
use Rattle.replay.specs.Headers.{NamesCatalog}
use Rattle.replay.specs.Refusals.{of_log}
use Rattle.replay.specs.Recovery.{BeginsLog, FailsAt, GoesOn, IsPlaced, IsRecovery, OfChain, OfLog, Recovery, chain_of, recovery, uncovered}
use Rattle.replay.specs.declared.errors.RecoverError.{RecoverError}
use Rattle.replay.specs.declared.errors.RecoverError.TheVariants as refused
use Rattle.replay.proofs.Firsts.{Excludes, each_or_first, same_first, one_fault}

module _ (c : List Procedure) (i : Image) (v : Version) (h : LogHeader) (l : List Record) (e : Ending) (goes : GoesOn c i v h l) where
  run_of_log : (x : Result Recovery RecoverError) → RunAgain c (table_of i) i.place l (is_torn e) x → OfLog c i v h l e x ⊎ (x ≡ Err refused.NoMemory)
  run_of_log (Ok r) ran = inl (goes, ran.0, ran.1)
  run_of_log (Err (refused.Diverged p)) ran = inl (goes, ran.0, ran.1, ran.2)
  run_of_log (Err refused.TooMany) ran = inl (goes, ran.0, ran.1)
  run_of_log (Err refused.NoMemory) ran = inr refl
  run_of_log (Err refused.WrongCatalog) ran = absurd ran
  run_of_log (Err refused.WrongOpening) ran = absurd ran
  run_of_log (Err refused.PlaceOutside) ran = absurd ran
  run_of_log (Err refused.NotFull) ran = absurd ran
  run_of_log (Err (refused.NotPartial j)) ran = absurd ran
  run_of_log (Err (refused.Gap j)) ran = absurd ran
  run_of_log (Err refused.NotALog) ran = absurd ran
  run_of_log (Err (refused.Damaged j)) ran = absurd ran

  pub runs_of_log : (t : Table) (k : ℕ) (torn : Bool) (x : Result Recovery RecoverError) → t ≡ table_of i → k ≡ i.place → torn ≡ is_torn e → RunAgain c t k l torn x →
      OfLog c i v h l e x ⊎ (x ≡ Err refused.NoMemory)
  runs_of_log t k torn x table_is place_is torn_is ran =
      run_of_log x
      (subst (λ (u : Table). RunAgain c u i.place l (is_torn e) x) table_is
      (subst (λ (n : ℕ). RunAgain c t n l (is_torn e) x) place_is
      (subst (λ (b : Bool). RunAgain c t k l b x) torn_is ran)))

-- ---- nothing else

module _ (c : List Procedure) (t : Table) where
  pub diverged_fails : Excludes (RunsAgain c t) (Diverges c t)
  diverged_fails l r again fails = fails again.0

  pub overflow_fails : Excludes (RunsAgain c t) (Overflows c t)
  overflow_fails l r again fails = fails.1 again.1

  pub diverged_or_overflow : Excludes (Diverges c t) (Overflows c t)
  diverged_or_overflow l r fails full = fails full.0

-- what running the uncovered records gives
data Ran (c : List Procedure) (i : Image) (l : List Record) (e : Ending) (x : Result Recovery RecoverError) : Type 0 where
  all_again : EachAfter (RunsAgain c (table_of i)) (uncovered i l) → x ≡ Ok (recovery c i l e) → Ran c i l e x
  diverged : (j : ℕ) → FailsAt (Diverges c (table_of i)) c i l j → x ≡ Err (refused.Diverged (i.place + j)) → Ran c i l e x
  overflowed : (j : ℕ) → FailsAt (Overflows c (table_of i)) c i l j → x ≡ Err refused.TooMany → Ran c i l e x

module _ (c : List Procedure) (i : Image) (l : List Record) (e : Ending) where
  one_run : (x y : Result Recovery RecoverError) → Ran c i l e x → Ran c i l e y → x ≡ y
  one_run x y (all_again a p) (all_again b q) = p ∙ sym q
  one_run x y (all_again a p) (diverged j f q) = absurd (each_or_first (diverged_fails c (table_of i)) (uncovered i l) j a f)
  one_run x y (all_again a p) (overflowed j f q) = absurd (each_or_first (overflow_fails c (table_of i)) (uncovered i l) j a f)
  one_run x y (diverged j f p) (all_again b q) = absurd (each_or_first (diverged_fails c (table_of i)) (uncovered i l) j b f)
  one_run x y (diverged j f p) (diverged k g q) =
      p ∙ ap (λ n. Err (refused.Diverged (i.place + n))) (same_first (uncovered i l) j k (diverged_fails c (table_of i)) (diverged_fails c (table_of i)) f g) ∙ sym q
  one_run x y (diverged j f p) (overflowed k g q) =
      absurd (one_fault (uncovered i l) j k (diverged_fails c (table_of i)) (overflow_fails c (table_of i)) (diverged_or_overflow c (table_of i)) f g)
  one_run x y (overflowed j f p) (all_again b q) = absurd (each_or_first (overflow_fails c (table_of i)) (uncovered i l) j b f)
  one_run x y (overflowed j f p) (diverged k g q) =
      absurd (one_fault (uncovered i l) k j (diverged_fails c (table_of i)) (overflow_fails c (table_of i)) (diverged_or_overflow c (table_of i)) g f)
  one_run x y (overflowed j f p) (overflowed k g q) = p ∙ sym q

-- the kinds of answer
data Told (c : List Procedure) (i : Image) (v : Version) (h : LogHeader) (l : List Record) (e : Ending) (x : Result Recovery RecoverError) : Type 0 where
  other_catalog : (NamesCatalog h c → ⊥) → x ≡ Err refused.WrongCatalog → Told c i v h l e x
  other_opening : NamesCatalog h c → i.number ≡ 0 → (BeginsLog v h i → ⊥) → x ≡ Err refused.WrongOpening → Told c i v h l e x
  outside : NamesCatalog h c → 0 < i.number → (IsPlaced l i → ⊥) → x ≡ Err refused.PlaceOutside → Told c i v h l e x
  ran : GoesOn c i v h l → Ran c i l e x → Told c i v h l e x

module _ (c : List Procedure) (i : Image) (v : Version) (h : LogHeader) (l : List Record) (e : Ending) where
  told : (x : Result Recovery RecoverError) → OfLog c i v h l e x → Told c i v h l e x
  told (Ok r) a = ran a.0 (all_again a.1 (ap (λ (s : Recovery). Ok s) a.2))
  told (Err refused.WrongCatalog) a = other_catalog a refl
  told (Err refused.WrongOpening) a = other_opening a.0 a.1 a.2 refl
  told (Err refused.PlaceOutside) a = outside a.0 a.1 a.2 refl
  told (Err (refused.Diverged p)) a = ran a.0 (diverged a.1 a.2 (ap (λ n. Err (refused.Diverged n)) a.3))
  told (Err refused.TooMany) a = ran a.0 (overflowed a.1 a.2 refl)
  told (Err refused.NotFull) a = absurd a
  told (Err (refused.NotPartial j)) a = absurd a
  told (Err (refused.Gap j)) a = absurd a
  told (Err refused.NotALog) a = absurd a
  told (Err (refused.Damaged j)) a = absurd a
  told (Err refused.NoMemory) a = absurd a

  one_told : (x y : Result Recovery RecoverError) → Told c i v h l e x → Told c i v h l e y → x ≡ y
  one_told x y (other_catalog a p) (other_catalog b q) = p ∙ sym q
  one_told x y (other_catalog a p) (other_opening b n o q) = absurd (a b)
  one_told x y (other_catalog a p) (outside b n o q) = absurd (a b)
  one_told x y (other_catalog a p) (ran g r) = absurd (a g.catalog)
  one_told x y (other_opening b n o p) (other_catalog a q) = absurd (a b)
  one_told x y (other_opening b n o p) (other_opening d m u q) = p ∙ sym q
  one_told x y (other_opening b n o p) (outside d m u q) = absurd (omega (arith, n, m))
  one_told x y (other_opening b n o p) (ran g r) = absurd (o (g.opening n))
  one_told x y (outside b n o p) (other_catalog a q) = absurd (a b)
  one_told x y (outside b n o p) (other_opening d m u q) = absurd (omega (arith, n, m))
  one_told x y (outside b n o p) (outside d m u q) = p ∙ sym q
  one_told x y (outside b n o p) (ran g r) = absurd (o (g.place n))
  one_told x y (ran g r) (other_catalog a q) = absurd (a g.catalog)
  one_told x y (ran g r) (other_opening b n o q) = absurd (o (g.opening n))
  one_told x y (ran g r) (outside b n o q) = absurd (o (g.place n))
  one_told x y (ran g r) (ran f s) = one_run c i l e x y r s

  pub one_of_log : (x y : Result Recovery RecoverError) → OfLog c i v h l e x → OfLog c i v h l e y → x ≡ y
  one_of_log x y a b = one_told x y (told x a) (told y b)

-- the answer to bytes that are no log
abbrev pub refusal_of : LogError → Result Recovery RecoverError
refusal_of e = Err (of_log e)

one_of_chain : (c : List Procedure) (text : Bytes) (k : Result Image MergeError) (x y : Result Recovery RecoverError) → OfChain c text k x → OfChain c text k y → x ≡ y
one_of_chain c text (Err e) x y a b = a ∙ sym b
one_of_chain c text (Ok i) x y a b = one_of_bytes refusal_of (OfLog c i) (one_of_log c i) text x y a b

-- there is one answer
pub one_recovery : (c : List Procedure) (is : List Image) (text : Bytes) (x y : Result Recovery RecoverError) → IsRecovery c is text x → IsRecovery c is text y → x ≡ y
one_recovery c is text x y a b = one_of_chain c text (chain_of is) x y a b

pub or_no_memory : (c : List Procedure) (is : List Image) (text : Bytes) (x y : Result Recovery RecoverError) → IsRecovery c is text x ⊎ (x ≡ Err refused.NoMemory) → IsRecovery c is text y →
    (x ≡ y) ⊎ (x ≡ Err refused.NoMemory)
or_no_memory c is text x y a b = ⊎_map (λ told. one_recovery c is text x y told b) (λ none. none) a

-- what is answered to the bytes, where the images are one, is what is recovered
pub is_recovery :
    (c : List Procedure) (is : List Image) (text : Bytes) (i : Image) → chain_of is ≡ Ok i → (x : Result Recovery RecoverError) → ToBytes refusal_of (OfLog c i) text x → IsRecovery c is text x
is_recovery c is text i chained x told = subst (λ k. OfChain c text k x) (sym chained) told
