-- Places, phases and turns of checkpoints that are left.
use Rattle.std.proofs.Common.{◌≡◌, ◌<◌, ◌≤◌, ◌+◌, ◌-◌, ℕ, suc, zero, Bool, true, false, List, ◌∷◌, drop, length, slice_index_or, Ok, Err, refl, sym, subst, arith}
use Rattle.std.specs.declared.result.Result.{Result}
use Rattle.std.specs.Result.{IsErrAnd}
use Rattle.std.proofs.lemmas.List.{drop_all, drop_more}
use Rattle.image.specs.declared.images.Kind.{Kind}
use Rattle.phase.specs.declared.phases.Phase.{Phase}
use Rattle.phase.specs.declared.phases.Phase.TheVariants as phase
use Rattle.steps.specs.declared.errors.CaptureError.{CaptureError}
use Rattle.steps.specs.declared.errors.AdvanceError.{AdvanceError}
use Rattle.steps.specs.declared.captures.Captured.{Captured}
use Rattle.steps.specs.declared.captures.Captured.TheVariants.{Slot, Done}
use Rattle.workers.specs.declared.checkpoints.TheConstants.{MOVES}
use Rattle.workers.specs.declared.checkpoints.Progress.{Progress}
use Rattle.workers.specs.declared.checkpoints.Progress.TheVariants as progress
use Rattle.workers.specs.declared.checkpoints.Reached.{Reached}
use Rattle.workers.specs.declared.checkpoints.Reached.TheVariants as reached
use Rattle.workers.specs.declared.errors.CheckpointRefusal.{CheckpointRefusal}
use Rattle.workers.specs.Checkpoints.{Deed, advances, captures, Scans, visits, scanned, refused, visited_all, Works, in_prepare, in_resolve, Moves, GoesOn, moves, reaches_rest, has_to_wait, stands, moved_all, Begins, Ends, rested, stopped, again, no_turn, Makes, begun, not_begun, without_turn, MakesAll, all_made, one_more, out_of_turns, was_refused}

before : (n : ℕ) → suc n - 1 ≡ n
before n = omega arith

-- what holds of a refusal holds of a result that is this refusal
pub refused_as : {X E : Type 0} (P : Result X E → Type 0) (r : Result X E) {e : E} → IsErrAnd r (λ y. y ≡ e) → P (Err e) → P r
refused_as P (Err y) is p = subst (λ x. P (Err x)) (sym is) p
refused_as P (Ok x) is p = absurd is

module _ {S : Type 0} (does : Deed → S → S → Type 0) where
  pub visited_on : (n : ℕ) {s t u : S} {r : Result (Unit {0}) CaptureError} → 0 < n → does (captures (Ok Slot)) s t → Scans does (n - 1) t u r → Scans does n s u r
  visited_on zero p d e = absurd (omega (arith, p))
  visited_on (suc n) {t = t} {u = u} {r = r} p d e = visits d (subst (λ k. Scans does k t u r) (before n) e)

  pub scanned_now : (n : ℕ) {s t : S} {x : Unit {0}} → 0 < n → does (captures (Ok Done)) s t → Scans does n s t (Ok x)
  scanned_now zero p d = absurd (omega (arith, p))
  scanned_now (suc n) p d = scanned d

  pub refused_now : (n : ℕ) {s t : S} {e : CaptureError} → 0 < n → does (captures (Err e)) s t → Scans does n s t (Err e)
  refused_now zero p d = absurd (omega (arith, p))
  refused_now (suc n) p d = refused d

  pub visited_out : (n : ℕ) {s : S} {x : Unit {0}} → n ≤ 0 → Scans does n s s (Ok x)
  visited_out zero p = visited_all
  visited_out (suc n) p = absurd (omega (arith, p))

  -- nothing is asked for in the other phases
  pub works_not : (p : Phase) {s : S} → (p ≡ phase.Rest → ⊥) → (p ≡ phase.Capture → ⊥) → (p ≡ phase.Complete → ⊥) → Works does p s s (Ok reached.Next)
  works_not phase.Rest a b c = absurd (a refl)
  works_not phase.Prepare a b c = in_prepare
  works_not phase.Resolve a b c = in_resolve
  works_not phase.Capture a b c = absurd (b refl)
  works_not phase.Complete a b c = absurd (c refl)

  pub moved_on : (n : ℕ) {s t u : S} {r : Result Reached CheckpointRefusal} → 0 < n → Moves does s t (Ok reached.Next) → GoesOn does (n - 1) t u r → GoesOn does n s u r
  moved_on zero p d e = absurd (omega (arith, p))
  moved_on (suc n) {t = t} {u = u} {r = r} p d e = moves d (subst (λ k. GoesOn does k t u r) (before n) e)

  pub stood : (n : ℕ) {s t : S} {p : Reached} → 0 < n → (p ≡ reached.Next → ⊥) → Moves does s t (Ok p) → GoesOn does n s t (Ok p)
  stood zero l i d = absurd (omega (arith, l))
  stood (suc n) {p = reached.Next} l i d = absurd (i refl)
  stood (suc n) {p = reached.Rest} l i d = reaches_rest d
  stood (suc n) {p = reached.StillActive} l i d = has_to_wait d

  pub stood_refused : (n : ℕ) {s t : S} {e : CheckpointRefusal} → 0 < n → Moves does s t (Err e) → GoesOn does n s t (Err e)
  stood_refused zero l d = absurd (omega (arith, l))
  stood_refused (suc n) l d = stands d

  pub moved_out : (n : ℕ) {s : S} → n ≤ 0 → GoesOn does n s s (Ok reached.StillActive)
  moved_out zero p = moved_all
  moved_out (suc n) p = absurd (omega (arith, p))

  pub rested_now : (n : ℕ) {s t : S} → 0 < n → GoesOn does MOVES s t (Ok reached.Rest) → Ends does n n s t (Ok true)
  rested_now zero p d = absurd (omega (arith, p))
  rested_now (suc n) p d = rested d

  pub stopped_now : (n : ℕ) {s t : S} {e : CheckpointRefusal} → 0 < n → GoesOn does MOVES s t (Err e) → Ends does n n s t (Err e)
  stopped_now zero p d = absurd (omega (arith, p))
  stopped_now (suc n) p d = stopped d

  pub once_again : (n m : ℕ) {s t u : S} {p : Reached} {r : Result Bool CheckpointRefusal} → 0 < n → (p ≡ reached.Rest → ⊥) → GoesOn does MOVES s t (Ok p) → Ends does (n - 1) m t u r → Ends does n m s u r
  once_again zero m l i d e = absurd (omega (arith, l))
  once_again (suc n) m {t = t} {u = u} {r = r} l i d e = again i d (subst (λ k. Ends does k m t u r) (before n) e)

  pub no_turn_left : (n : ℕ) {s : S} → n ≤ 0 → Ends does n n s s (Ok false)
  no_turn_left zero p = no_turn
  no_turn_left (suc n) p = absurd (omega (arith, p))

  pub begun_on : (n m : ℕ) {k : Kind} {s t u : S} {x : Unit {0}} {r : Result Bool CheckpointRefusal} → (n ≡ 0 → ⊥) → Begins does k s t (Ok x) → Ends does n m t u r → Makes does k n m s u r
  begun_on zero m i d e = absurd (i refl)
  begun_on (suc n) m i d e = begun d e

  pub never_begun : (n : ℕ) {k : Kind} {s t : S} {e : CheckpointRefusal} → (n ≡ 0 → ⊥) → Begins does k s t (Err e) → Makes does k n n s t (Err e)
  never_begun zero i d = absurd (i refl)
  never_begun (suc n) i d = not_begun d

  pub without : (n : ℕ) {k : Kind} {s : S} → n ≡ 0 → Makes does k n n s s (Ok false)
  without zero p = without_turn
  without (suc n) p = absurd (omega (arith, p))

  -- an answer that is another one
  pub captured_as : {x y : Captured} {s t : S} → x ≡ y → does (captures (Ok x)) s t → does (captures (Ok y)) s t
  captured_as {s = s} {t = t} e d = subst (λ x. does (captures (Ok x)) s t) e d

  pub advanced_as : {x y : AdvanceError} {s t : S} → x ≡ y → does (advances (Err x)) s t → does (advances (Err y)) s t
  advanced_as {s = s} {t = t} e d = subst (λ x. does (advances (Err x)) s t) e d

  pub moved_as : {x y : Reached} {s t : S} → x ≡ y → Moves does s t (Ok x) → Moves does s t (Ok y)
  moved_as {s = s} {t = t} e d = subst (λ x. Moves does s t (Ok x)) e d

  pub gone_as : {x y : Reached} {s t : S} → x ≡ y → GoesOn does MOVES s t (Ok x) → GoesOn does MOVES s t (Ok y)
  gone_as {s = s} {t = t} e d = subst (λ x. GoesOn does MOVES s t (Ok x)) e d

  pub made_as : {x y : Bool} {k : Kind} {n m : ℕ} {s t : S} → x ≡ y → Makes does k n m s t (Ok x) → Makes does k n m s t (Ok y)
  made_as {k = k} {n = n} {m = m} {s = s} {t = t} e d = subst (λ x. Makes does k n m s t (Ok x)) e d

  -- the kind at a position is the first of those that are left
  first_left : (P : List Kind → Type 0) (ks : List Kind) (i : ℕ) (d : Kind) → i < length ks → P (slice_index_or ks i d ∷ drop (i + 1) ks) → P (drop i ks)
  first_left P ks i d within p = subst P (sym (drop_more ks i d within)) p

  pub made_one : (ks : List Kind) (i : ℕ) (d : Kind) {n m : ℕ} {s t u : S} {p : Progress} → i < length ks → Makes does (slice_index_or ks i d) n m s t (Ok true) → MakesAll does m (i + 1) (drop (i + 1) ks) t u p → MakesAll does n i (drop i ks) s u p
  made_one ks i d {n = n} {s = s} {u = u} {p = p} within one rest = first_left (λ l. MakesAll does n i l s u p) ks i d within (one_more one rest)

  pub out_at : (ks : List Kind) (i : ℕ) (d : Kind) {n m : ℕ} {s t : S} → i < length ks → Makes does (slice_index_or ks i d) n m s t (Ok false) → MakesAll does n i (drop i ks) s t (progress.TurnsOut i)
  out_at ks i d {n = n} {s = s} {t = t} within one = first_left (λ l. MakesAll does n i l s t (progress.TurnsOut i)) ks i d within (out_of_turns one)

  pub refused_at : (ks : List Kind) (i : ℕ) (d : Kind) {n m : ℕ} {s t : S} {e : CheckpointRefusal} → i < length ks → Makes does (slice_index_or ks i d) n m s t (Err e) → MakesAll does n i (drop i ks) s t (progress.Refused i e)
  refused_at ks i d {n = n} {s = s} {t = t} {e = e} within one = first_left (λ l. MakesAll does n i l s t (progress.Refused i e)) ks i d within (was_refused one)

  pub made_all : (ks : List Kind) (i : ℕ) {n : ℕ} {s : S} → length ks ≤ i → MakesAll does n i (drop i ks) s s progress.Done
  made_all ks i {n = n} {s = s} past = subst (λ l. MakesAll does n i l s s progress.Done) (sym (drop_all i ks past)) all_made
