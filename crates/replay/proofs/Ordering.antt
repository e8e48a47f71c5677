-- What is known of the records so far, with one more.
use Rattle.std.proofs.Common.{◌≡◌, ℕ, zero, suc, ◌<◌, Bool, true, false, cond, List, [], ◌∷◌, ◌++◌, length, replicate, Option, Some, None, refl, sym, ap, ◌∙◌, subst, slice_set, ◌⊎◌, inl, inr}
use Rattle.std.specs.Prelude.{slice_index_or, ◌==◌}
use Rattle.std.proofs.Common.{get_or-set_same, get_or-set_other}
use Rattle.std.proofs.lemmas.Bool.{eq-eqb, eqb-true}
use Rattle.std.proofs.Math.ListN.{length-set}
use Rattle.procedure.specs.Bytes.{Bytes, Cell}
use Rattle.procedure.specs.declared.limits.TheConstants.{SESSIONS}
use Rattle.phase.specs.declared.phases.Phase.{Phase}
use Rattle.phase.specs.declared.phases.Phase.TheVariants.{Rest}
use Rattle.commitlog.specs.Records.{Record, Token, Call}
use Rattle.commitlog.specs.Histories.{phase_of, phase_after, number_of, number_after, last_number, answered_after}
use Rattle.commitlog.proofs.Histories.{phase_of-push, number_of-push, last_number-push}
use Rattle.replay.specs.Orders.{IsAfter}
use Rattle.replay.specs.declared.orders.Order.{Order}

abbrev nothing : Option ℕ
nothing = None

none_at : (n s : ℕ) → slice_index_or (replicate n nothing) s None ≡ None
none_at zero s = refl
none_at (suc n) zero = refl
none_at (suc n) (suc s) = none_at n s

-- before the first
pub after_none : (o : Order) → o.phase ≡ Rest → o.number ≡ 0 → o.last ≡ replicate 64 nothing → IsAfter o []
unfolding phase_of number_of last_number
after_none o p n l = record { phase = p; number = n; numbers = ap length l; last = λ s lt. ap (λ xs. slice_index_or xs s None) l ∙ none_at 64 s }

module _ (o : Order) (l : List Record) (a : IsAfter o l) where
  pub after_token : (p : Phase) (n : ℕ) (r : Record) → r ≡ Token p n → IsAfter (record o { phase = p; number = n }) (l ++ r ∷ [])
  after_token p n r e = record {
    phase = sym (phase_of-push l r ∙ ap (λ x. phase_after (phase_of l) x) e);
    number = sym (number_of-push l r ∙ ap (λ x. number_after (number_of l) x) e);
    numbers = a.numbers;
    last = λ s lt. a.last s lt ∙ sym (last_number-push s l r ∙ ap (λ x. answered_after s (last_number s l) x) e);
  }

  pub after_call : (s n p : ℕ) (args : List Bytes) (out : ℕ) (rs : List Cell) (r : Record) (last : List (Option ℕ)) → s < SESSIONS → r ≡ Call s n p args out rs → last ≡ slice_set o.last s (Some n) →
      IsAfter (record o { last = last }) (l ++ r ∷ [])
  after_call s n p args out rs r last lt e f = record {
    phase = a.phase ∙ sym (phase_of-push l r ∙ ap (λ x. phase_after (phase_of l) x) e);
    number = a.number ∙ sym (number_of-push l r ∙ ap (λ x. number_after (number_of l) x) e);
    numbers = ap length f ∙ length-set o.last s (Some n) ∙ a.numbers;
    last = λ t u. ap (λ xs. slice_index_or xs t None) f ∙ told t u (split s t) ∙ sym (last_number-push t l r ∙ ap (λ x. answered_after t (last_number t l) x) e);
  }
    where
      split : (s t : ℕ) → (s ≡ t) ⊎ ((s == t) ≡ false)
      split s t = by (s == t) refl
        where
          by : (b : Bool) → (s == t) ≡ b → (s ≡ t) ⊎ ((s == t) ≡ false)
          by true h = inl (eqb-true s t h)
          by false h = inr h

      told : (t : ℕ) → t < SESSIONS → (s ≡ t) ⊎ ((s == t) ≡ false) → slice_index_or (slice_set o.last s (Some n)) t None ≡ cond (s == t) (Some n) (last_number t l)
      told t u (inl same) =
          ap (λ i. slice_index_or (slice_set o.last s (Some n)) i None) (sym same)
          ∙ get_or-set_same o.last s (Some n) None (subst (λ k. s < k) (sym a.numbers) lt)
          ∙ sym (ap (λ b. cond b (Some n) (last_number t l)) (eq-eqb s t same))
      told t u (inr other) =
          get_or-set_other o.last s t (Some n) None (λ e. absurd (cc (sym (eq-eqb s t (sym e)), other)))
          ∙ a.last t u
          ∙ sym (ap (λ b. cond b (Some n) (last_number t l)) other)
