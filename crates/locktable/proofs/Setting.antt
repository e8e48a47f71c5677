-- A session's lock on a key changes among the holders.
use Rattle.std.proofs.Common.{◌≡◌, ℕ, Bool, inl, inr, true, false, cond, Option, Some, None, refl, sym, ap, ◌∙◌, subst, eqb, eq-eqb, true≢false, IfSome, IsSome, Ok, Err}
use Rattle.std.proofs.lemmas.Bool.Decides.{eqb_tells}
use Rattle.std.specs.FinMap.{get}
use Rattle.std.specs.Result.{IsErrAnd}
use Rattle.std.specs.declared.result.Result.{Result}
use Rattle.procedure.specs.Bytes.{Bytes, same}
use Rattle.procedure.specs.Table.{KeyMap}
use Rattle.procedure.proofs.Base.{keys, same_refl}
use Rattle.locktable.specs.declared.errors.LockError.{LockError}
use Rattle.locktable.specs.declared.errors.LockError.TheVariants.{Conflict, NoMemory}
use Rattle.locktable.specs.declared.holders.Holders.{Holders}
use Rattle.locktable.specs.Modes.{Mode, IsAtMost}
use Rattle.locktable.specs.Locks.{with_entry}
use Rattle.locktable.specs.Holders.{mode_in, mode_among, ChangesTo, IsHeld, Refuses}
use Rattle.locktable.specs.Tables.{SetsMode}
use Rattle.locktable.proofs.Lookups.{get-with_entry_same, get-with_entry_other}

module _ (before after : KeyMap Holders) (s : ℕ) (k : Bytes) (mode : Option Mode) where
  -- the holders of one key are others
  pub sets_mode : (those : Option Holders) → after ≡ with_entry before k those → ChangesTo (get before k) those s mode → ((h : Holders) → those ≡ Some h → IsHeld h) → SetsMode before after s k mode
  sets_mode those entry changes held =
      let here : get after k ≡ those = ap (λ (m : KeyMap Holders). get m k) entry ∙ get-with_entry_same before k those in
      record {
        at_key = subst (λ o. ChangesTo (get before k) o s mode) (sym here) changes;
        others = λ q f. ap (λ (m : KeyMap Holders). get m q) entry ∙ get-with_entry_other before k those q f;
        held_by_one = λ h e. held h (sym here ∙ e);
      }

  -- the session is not among the holders, since there are none
  pub sets_nothing : after ≡ before → get before k ≡ None → IsAtMost mode (mode_among (get before k) s) → SetsMode before after s k mode
  sets_nothing same none weaker =
      let none_after : get after k ≡ None = ap (λ (m : KeyMap Holders). get m k) same ∙ none in
      record {
        at_key = λ r. ap (λ o. mode_among o r) none_after ∙ nobody mode (eqb r s) (subst (λ o. IsAtMost mode (mode_among o s)) none weaker) ∙ ap (λ o. cond (eqb r s) mode (mode_among o r)) (sym none);
        others = λ q f. ap (λ (m : KeyMap Holders). get m q) same;
        held_by_one = λ h e. absurd (none_is_some (sym none_after ∙ e));
      }
    where
      nobody : (o : Option Mode) (b : Bool) → IsAtMost o None → None ≡ cond b o None
      nobody None true h = refl
      nobody None false h = refl
      nobody (Some m) b h = absurd h

      none_is_some : {those : Holders} → None ≡ Some those → ⊥
      none_is_some e = cc

  own_or : (o : Option Holders) (r : ℕ) → cond (eqb r s) (mode_among o s) (mode_among o r) ≡ mode_among o r
  own_or o r =
      elim (eqb_tells r s) [
        | inl e ↦ ap (λ b. cond b (mode_among o s) (mode_among o r)) e.0 ∙ ap (mode_among o) (sym e.1)
        | inr e ↦ ap (λ b. cond b (mode_among o s) (mode_among o r)) e.0
      ]

  -- which mode each session has of each key after it
  pub moved : SetsMode before after s k mode → (r : ℕ) (q : Bytes) →
      mode_among (get after q) r ≡ cond (eqb r s) (cond (same q k) mode (mode_among (get before q) s)) (mode_among (get before q) r)
  moved sets r q =
      elim (keys q k) [
        | inl e ↦ subst (λ x. mode_among (get after x) r ≡ cond (eqb r s) (cond (same x k) mode (mode_among (get before x) s)) (mode_among (get before x) r)) (sym e)
            (sets.at_key r ∙ ap (λ b. cond (eqb r s) (cond b mode (mode_among (get before k) s)) (mode_among (get before k) r)) (sym (same_refl k)))
        | inr f ↦ ap (λ o. mode_among o r) (sets.others q f) ∙ sym (own_or (get before q) r) ∙ ap (λ b. cond (eqb r s) (cond b mode (mode_among (get before q) s)) (mode_among (get before q) r)) (sym f)
      ]

-- who is granted a lock is among the holders
pub granted_is_held : (before : Option Holders) (those : Holders) (s : ℕ) (mode : Mode) → ChangesTo before (Some those) s (Some mode) → (t : Holders) → Some those ≡ Some t → IsHeld t
granted_is_held before those s mode changes t e =
    let one : those ≡ t = cc in
    (s, mode, ap (λ h. mode_in h s) (sym one) ∙ changes s ∙ ap (λ b. cond b (Some mode) (mode_among before s)) (eq-eqb s s refl))

pub if_some : (o : Option Holders) → IfSome o IsHeld → (those : Holders) → o ≡ Some those → IsHeld those
if_some None h those e = absurd cc
if_some (Some t) h those e = let one : t ≡ those = cc in subst IsHeld one h

-- of a key without holders no session is refused
pub nobody_refuses : (o : Option Holders) → o ≡ None → (s : ℕ) (mode : Mode) → Refuses o s mode → ⊥
nobody_refuses None e s mode r = let none : None ≡ Some r.1 = r.3 in cc
nobody_refuses (Some those) e s mode r = cc

pub nobody_holds : (o : Option Holders) → o ≡ None → (s : ℕ) → IsSome (mode_among o s) → ⊥
nobody_holds None e s is = true≢false (sym is)
nobody_holds (Some those) e s is = cc

pub not_conflict : {T : Type 0} (r : Result T LockError) → IsErrAnd r (λ e. e ≡ NoMemory) → r ≡ Err Conflict → ⊥
not_conflict (Ok x) h e = cc
not_conflict (Err y) h e = cc
