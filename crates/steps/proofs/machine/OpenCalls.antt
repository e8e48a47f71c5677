-- The open calls after one of them changed.
use Rattle.std.proofs.Common.{◌≡◌, ℕ, Bool, true, false, cond, Option, Some, None, refl, sym, ap, ◌∙◌, subst, ◌⊎◌, inl, inr, true≢false}
use Rattle.std.specs.Prelude.{◌==◌}
use Rattle.std.proofs.lemmas.Bool.{eqb-true, eq-eqb}
use Rattle.steps.specs.machine.Machine.{Open, CallsBySession, put}

pub none_some {ℓ} : {A : Type 0} {P : Type ℓ} {x : A} → None ≡ Some x → P
none_some e = absurd (no e)
  where
    no : {A : Type 0} {x : A} → None ≡ Some x → ⊥
    no e = cc

pub same_Some : {A : Type 0} {x y : A} → Some x ≡ Some y → x ≡ y
same_Some e = cc

pub yes_no {ℓ} : {P : Type ℓ} {b : Bool} → b ≡ true → b ≡ false → P
yes_no e f = absurd (true≢false (sym e ∙ f))

put_all_at :
    (P : ℕ → Open → Type 0) (calls : CallsBySession) (s : ℕ) (o : Option Open) (t : ℕ) (b : Bool) → (t == s) ≡ b → ((c : Open) → o ≡ Some c → P s c) →
    ((u : ℕ) (c : Open) → (u == s) ≡ false → calls u ≡ Some c → P u c) → (c : Open) → cond b o (calls t) ≡ Some c → P t c
put_all_at P calls s o t true e f g c h = subst (λ u. P u c) (sym (eqb-true t s e)) (f c h)
put_all_at P calls s o t false e f g c h = g t c e h

-- what holds of the call that was put, and of each other one, holds of all
pub put_all :
    (P : ℕ → Open → Type 0) (calls : CallsBySession) (s : ℕ) (o : Option Open) → ((c : Open) → o ≡ Some c → P s c) → ((t : ℕ) (c : Open) → (t == s) ≡ false → calls t ≡ Some c → P t c) →
    (t : ℕ) (c : Open) → put calls s o t ≡ Some c → P t c
put_all P calls s o f g t c h = put_all_at P calls s o t (t == s) refl f g c h

pub put_some :
    (P : ℕ → Open → Type 0) (calls : CallsBySession) (s : ℕ) (c' : Open) → P s c' → ((t : ℕ) (c : Open) → (t == s) ≡ false → calls t ≡ Some c → P t c) → (t : ℕ) (c : Open) →
    put calls s (Some c') t ≡ Some c → P t c
put_some P calls s c' f g = put_all P calls s (Some c') (λ c e. subst (P s) (same_Some e) f) g

pub put_none : (P : ℕ → Open → Type 0) (calls : CallsBySession) (s : ℕ) → ((t : ℕ) (c : Open) → (t == s) ≡ false → calls t ≡ Some c → P t c) → (t : ℕ) (c : Open) → put calls s None t ≡ Some c → P t c
put_none P calls s g = put_all P calls s None (λ c e. none_some e) g

pub put_self : (calls : CallsBySession) (s : ℕ) (o : Option Open) → put calls s o s ≡ o
put_self calls s o = ap (λ b. cond b o (calls s)) (eq-eqb s s refl)

pub put_other : (calls : CallsBySession) (s : ℕ) (o : Option Open) (t : ℕ) → (t == s) ≡ false → put calls s o t ≡ calls t
put_other calls s o t e = ap (λ b. cond b o (calls t)) e

other_at : (s t : ℕ) (b c : Bool) → (s == t) ≡ b → (t == s) ≡ c → b ≡ false → c ≡ false
other_at s t b true e f g = absurd (true≢false (sym (sym e ∙ eq-eqb s t (sym (eqb-true t s f))) ∙ g))
other_at s t b false e f g = refl

pub other : (s t : ℕ) → (s == t) ≡ false → (t == s) ≡ false
other s t e = other_at s t _ _ refl refl e

pub same_or_other : (s t : ℕ) → (s ≡ t) ⊎ ((s == t) ≡ false)
same_or_other s t = at (s == t) refl
  where
    at : (b : Bool) → (s == t) ≡ b → (s ≡ t) ⊎ ((s == t) ≡ false)
    at true e = inl (eqb-true s t e)
    at false e = inr e
