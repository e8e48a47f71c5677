-- Histories with one record more, and their fronts.
use Rattle.std.proofs.Common.{◌≡◌, ℕ, ◌≤◌, ◌<◌, List, [], ◌∷◌, ◌++◌, length, take, drop, Some, sym, ap, ◌∙◌, subst, ◌⊎◌, inl, inr, arith}
use Rattle.std.specs.Prelude.{slice_get}
use Rattle.std.proofs.lemmas.List.{take-append-le, length-append, take-append-drop}
use Rattle.std.proofs.lemmas.List.Sums.{fold-append}
use Rattle.std.proofs.Math.Seq.{take-append_seam}
use Rattle.std.proofs.lemmas.Option.{slice_get_within}
use Rattle.procedure.specs.Table.{Table}
use Rattle.procedure.specs.Procedures.{Procedure}
use Rattle.commitlog.specs.Records.{Record}
use Rattle.commitlog.specs.Histories.{EachAfter, after, table_after, phase_of, phase_after, number_of, number_after, last_number, answered_after}
use Rattle.commitlog.specs.Cuts.{last_finished, finished_after}
use Rattle.commitlog.proofs.Lists.{slice_get-left, slice_get-seam}

pub same_some : {X : Type 0} {x y : X} → Some x ≡ Some y → x ≡ y
same_some e = cc

module _ (P : List Record → Record → Type 0) where
  pub each-front : (l m : List Record) → EachAfter P (l ++ m) → EachAfter P l
  each-front l m h i r e =
      let w = slice_get_within l i r e in
      subst (λ k. P k r) (take-append-le i l m (omega arith)) (h i r (slice_get-left l m i w ∙ e))

  pub each-take : (l : List Record) (j : ℕ) → EachAfter P l → EachAfter P (take j l)
  each-take l j h = each-front (take j l) (drop j l) (subst (EachAfter P) (sym (take-append-drop j l)) h)

  pub each-last : (l : List Record) (r : Record) (m : List Record) → EachAfter P (l ++ r ∷ m) → P l r
  each-last l r m h = subst (λ k. P k r) (take-append_seam l (r ∷ m)) (h (length l) r (slice_get-seam l r m))

  pub each-push : (l : List Record) (r : Record) → EachAfter P l → P l r → EachAfter P (l ++ r ∷ [])
  each-push l r h p i x e = at_place (split i (length l) within)
    where
      within : i ≤ length l
      within = let b = slice_get_within (l ++ r ∷ []) i x e in let c = length-append l (r ∷ []) in omega arith

      split : (i n : ℕ) → i ≤ n → (i < n) ⊎ (i ≡ n)
      split i n le = grind arith

      at_place : (i < length l) ⊎ (i ≡ length l) → P (take i (l ++ r ∷ [])) x
      at_place (inl w) = subst (λ k. P k x) (sym (take-append-le i l (r ∷ []) (omega arith))) (h i x (sym (slice_get-left l (r ∷ []) i w) ∙ e))
      at_place (inr q) =
          subst (λ k. P k x) (sym (ap (λ j. take j (l ++ r ∷ [])) q ∙ take-append_seam l (r ∷ [])))
          (subst (P l) (same_some (sym (slice_get-seam l r []) ∙ ap (slice_get (l ++ r ∷ [])) (sym q) ∙ e)) p)

pub after-append : (c : List Procedure) (t : Table) (l m : List Record) → after c t (l ++ m) ≡ after c (after c t l) m
unfolding after
after-append c t l m = fold-append (table_after c) t l m

pub after-push : (c : List Procedure) (t : Table) (l : List Record) (r : Record) → after c t (l ++ r ∷ []) ≡ table_after c (after c t l) r
unfolding after
after-push c t l r = fold-append (table_after c) t l (r ∷ [])

pub phase_of-push : (l : List Record) (r : Record) → phase_of (l ++ r ∷ []) ≡ phase_after (phase_of l) r
unfolding phase_of
phase_of-push l r = fold-append phase_after _ l (r ∷ [])

pub number_of-push : (l : List Record) (r : Record) → number_of (l ++ r ∷ []) ≡ number_after (number_of l) r
unfolding number_of
number_of-push l r = fold-append number_after _ l (r ∷ [])

pub last_number-push : (s : ℕ) (l : List Record) (r : Record) → last_number s (l ++ r ∷ []) ≡ answered_after s (last_number s l) r
unfolding last_number
last_number-push s l r = fold-append (answered_after s) _ l (r ∷ [])

pub last_finished-push : (l : List Record) (r : Record) → last_finished (l ++ r ∷ []) ≡ finished_after (last_finished l) r
unfolding last_finished
last_finished-push l r = fold-append finished_after _ l (r ∷ [])
