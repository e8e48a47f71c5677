-- Whether a touch is barred, by the locks and by the open calls.
use Rattle.std.proofs.Common.{◌≡◌, ◌≢◌, ℕ, zero, suc, Bool, true, false, ◌||◌, List, [], ◌∷◌, Option, Some, None, option_map, inl, inr, slice_set, slice_index_or, refl, sym, ap, ◌∙◌, subst, get_or-set_other, true≢false}
use Rattle.std.specs.Prelude.{◌==◌}
use Rattle.std.proofs.lemmas.Bool.{cases_eq, eq-eqb}
use Rattle.procedure.specs.Bytes.{Bytes}
use Rattle.procedure.specs.Needs.{Touch, Nothing, Reads, Writes}
use Rattle.procedure.specs.Runs.{Front}
use Rattle.locktable.specs.declared.modes.Mode.{Mode}
use Rattle.locktable.specs.declared.modes.Mode.TheVariants.{Shared, Exclusive}
use Rattle.locktable.specs.Modes.{Excludes}
use Rattle.locktable.specs.Locks.{mode_of}
use Rattle.steps.specs.inside.CoreFields.{IsCore, call_at, mode_held, mode_by, underway, view_of}
use Rattle.steps.specs.CoreViews.{Underway, any_open, bars, front_of, is_barred, open_at}
use Rattle.steps.specs.inside.InstructionLocks.{IsExcluded}
use Rattle.steps.specs.machine.Machine.{NoConflict, Open}
use Rattle.steps.specs.declared.calls.OpenCall.{OpenCall}
use Rattle.steps.specs.declared.cores.Core.TheInside.{Inside}
use Rattle.steps.proofs.sessions.EndedCall.{machine_is}
use Rattle.steps.proofs.machine.OpenCalls.{none_some}
use Rattle.steps.proofs.sessions.AcceptedCalls.{shown_at}
use Rattle.steps.proofs.views.CoreState.{none_open, some_open}

-- ANY OF THE OPEN CALLS

pub record Found (p : Underway → Bool) (l : List (Option Underway)) : Type 0 where
  pub at : ℕ
  pub call : Underway
  pub is : slice_index_or l at None ≡ Some call
  pub holds : p call ≡ true

further : (p : Underway → Bool) (x : Option Underway) (l : List (Option Underway)) → Found p l → Found p (x ∷ l)
further p x l f = record { at = suc f.at; call = f.call; is = f.is; holds = f.holds }

pub any_found : (p : Underway → Bool) (l : List (Option Underway)) → any_open p l ≡ true → Found p l
any_found p [] e = absurd (true≢false (sym e))
any_found p (None ∷ l) e = further p None l (any_found p l e)
any_found p (Some d ∷ l) e = by (p d) refl e (any_found p l)
  where
    by : (b : Bool) → p d ≡ b → (b || any_open p l) ≡ true → (any_open p l ≡ true → Found p l) → Found p (Some d ∷ l)
    by true f e more = record { at = zero; call = d; is = refl; holds = f }
    by false f e more = further p (Some d) l (more e)

pub any_none : (p : Underway → Bool) (l : List (Option Underway)) → any_open p l ≡ false → (t : ℕ) (d : Underway) → slice_index_or l t None ≡ Some d → p d ≡ false
any_none p [] e t d is = none_some is
any_none p (None ∷ l) e zero d is = none_some is
any_none p (None ∷ l) e (suc t) d is = any_none p l e t d is
any_none p (Some c ∷ l) e t d is = by (p c) refl e t is (λ f t. any_none p l f t d)
  where
    by :
        (b : Bool) → p c ≡ b → (b || any_open p l) ≡ false → (t : ℕ) → slice_index_or (Some c ∷ l) t None ≡ Some d → (any_open p l ≡ false → (t : ℕ) → slice_index_or l t None ≡ Some d → p d ≡ false) →
        p d ≡ false
    by true f e t is more = absurd (true≢false e)
    by false f e zero is more = let one : c ≡ d = cc in ap p (sym one) ∙ f
    by false f e (suc t) is more = more e t is

cleared : (l : List (Option Underway)) (s : ℕ) → slice_index_or (slice_set l s None) s None ≡ None
cleared [] s = refl
cleared (x ∷ l) zero = refl
cleared (x ∷ l) (suc s) = cleared l s

other_than : (l : List (Option Underway)) (s t : ℕ) (d : Underway) → slice_index_or (slice_set l s None) t None ≡ Some d → (t ≢ s) × (slice_index_or l t None ≡ Some d)
other_than l s t d e =
    elim (cases_eq t s) [
      | inl is ↦ none_some (sym (cleared l s) ∙ ap (λ i. slice_index_or (slice_set l s None) i None) (sym is) ∙ e)
      | inr differs ↦ (differs, sym (get_or-set_other l s t None None differs) ∙ e)
    ]

-- BY THE LOCKS

pub neither_of : (a b : Bool) → (a || b) ≡ false → (a ≡ false) × (b ≡ false)
neither_of true b e = absurd (true≢false e)
neither_of false b e = (refl, e)

reads_excluded : (w r : Bool) (h : Mode) → w ≡ false → mode_by w r ≡ Some h → Excludes Shared h → ⊥
reads_excluded true r h e is x = absurd (true≢false e)
reads_excluded false true h e is x = let one : Shared ≡ h = cc in subst (λ m. Excludes Shared m) (sym one) x
reads_excluded false false h e is x = none_some is

pub writes_excluded : (w r : Bool) (h : Mode) → (r || w) ≡ false → mode_by w r ≡ Some h → ⊥
writes_excluded true r h e is = absurd (true≢false (neither_of r true e).1)
writes_excluded false true h e is = absurd (true≢false e)
writes_excluded false false h e is = none_some is

module _ {A : Type 0} (c : Inside A) (ok : IsCore c) where
  record Kept (t : ℕ) (d : Underway) : Type 0 where
    call : OpenCall A
    is : call_at c t ≡ Some call
    same : underway call ≡ d

  kept_at : (t : ℕ) (d : Underway) → open_at (view_of c) t ≡ Some d → Kept t d
  kept_at t d e = by (call_at c t) refl (sym (shown_at c t) ∙ e)
    where
      by : (x : Option (OpenCall A)) → call_at c t ≡ x → option_map underway x ≡ Some d → Kept t d
      by None f e = none_some e
      by (Some k) f e = let one : underway k ≡ d = cc in record { call = k; is = f; same = one }

  -- a lock tells what its session's call has touched
  pub held_at :
      (t : ℕ) (k : OpenCall A) → call_at c t ≡ Some k → (q : Bytes) → mode_of c.locks t q ≡ mode_by ((front_of (view_of c) (underway k)).writes q) ((front_of (view_of c) (underway k)).reads q)
  held_at t k is q =
      let o = some_open c ok t k is in
      ok.stands.locks t q ∙ ap (λ x. mode_held x q) o.1 ∙ ap (λ (m : Front). mode_by (m.writes q) (m.reads q)) (machine_is c ok t k is c.calls c.store c.locks c.active c.aside)

  write_held : (t : ℕ) (k : OpenCall A) → call_at c t ≡ Some k → (q : Bytes) (w : Bool) → (front_of (view_of c) (underway k)).writes q ≡ w → w ≡ true → mode_of c.locks t q ≡ Some Exclusive
  write_held t k is q w e f = held_at t k is q ∙ ap (λ b. mode_by b ((front_of (view_of c) (underway k)).reads q)) (e ∙ f)

  touched_by :
      (s t : ℕ) (q : Bytes) → t ≢ s → (k : OpenCall A) → call_at c t ≡ Some k → (w r : Bool) → (front_of (view_of c) (underway k)).writes q ≡ w → (front_of (view_of c) (underway k)).reads q ≡ r →
      ((front_of (view_of c) (underway k)).reads q || (front_of (view_of c) (underway k)).writes q) ≡ true → IsExcluded c.locks s (Writes q)
  touched_by s t q ne k is true r f h e = (t, Exclusive, ne, write_held t k is q true f refl, tt)
  touched_by s t q ne k is false true f h e = (t, Shared, ne, held_at t k is q ∙ ap (λ b. mode_by b ((front_of (view_of c) (underway k)).reads q)) f ∙ ap (mode_by false) h, tt)
  touched_by s t q ne k is false false f h e = absurd (true≢false (sym e ∙ ap (λ b. b || (front_of (view_of c) (underway k)).writes q) h ∙ f))

  pub excluded_by : (s t : ℕ) (n : Touch) (d : Underway) → t ≢ s → open_at (view_of c) t ≡ Some d → bars (view_of c) n d ≡ true → IsExcluded c.locks s n
  excluded_by s t Nothing d ne is e = absurd (true≢false (sym e))
  excluded_by s t (Reads q) d ne is e =
      let k = kept_at t d is in
      (t, Exclusive, ne, write_held t k.call k.is q ((front_of (view_of c) (underway k.call)).writes q) refl (ap (λ (u : Underway). (front_of (view_of c) u).writes q) k.same ∙ e), tt)
  excluded_by s t (Writes q) d ne is e =
      let k = kept_at t d is in
      touched_by s t q ne k.call k.is ((front_of (view_of c) (underway k.call)).writes q) ((front_of (view_of c) (underway k.call)).reads q) refl refl
      (ap (λ (u : Underway). bars (view_of c) (Writes q) u) k.same ∙ e)

  -- a touch that is barred is excluded
  pub barred_excluded : (s : ℕ) (n : Touch) → is_barred (view_of c) s n ≡ true → IsExcluded c.locks s n
  barred_excluded s n e =
      let found = any_found (bars (view_of c) n) (slice_set (view_of c).calls s None) e in
      let other = other_than (view_of c).calls s found.at found.call found.is in
      excluded_by s found.at n found.call other.0 other.1 found.holds

  -- a lock on a key is of an open call
  pub holder : (t : ℕ) (q : Bytes) (h : Mode) → mode_of c.locks t q ≡ Some h → (k : OpenCall A) × (call_at c t ≡ Some k)
  holder t q h e = by (call_at c t) refl
    where
      by : (x : Option (OpenCall A)) → call_at c t ≡ x → (k : OpenCall A) × (call_at c t ≡ Some k)
      by None f = none_some (sym (ok.stands.locks t q ∙ ap (λ o. mode_held o q) (none_open c ok t f)) ∙ e)
      by (Some k) f = (k, f)

  unbarred_by : (s : ℕ) (n : Touch) → is_barred (view_of c) s n ≡ false → (t : ℕ) → t ≢ s → (k : OpenCall A) → call_at c t ≡ Some k → bars (view_of c) n (underway k) ≡ false
  unbarred_by s n e t ne k is =
      any_none (bars (view_of c) n) (slice_set (view_of c).calls s None) e t (underway k)
      (get_or-set_other (view_of c).calls s t None None ne ∙ shown_at c t ∙ ap (option_map underway) is)

  -- one that isn't is not
  pub unbarred_free : (s : ℕ) (n : Touch) → is_barred (view_of c) s n ≡ false → IsExcluded c.locks s n → ⊥
  unbarred_free s Nothing e x = x
  unbarred_free s (Reads q) e x =
      let k = holder x.0 q x.1 x.3 in
      reads_excluded ((front_of (view_of c) (underway k.0)).writes q) ((front_of (view_of c) (underway k.0)).reads q) x.1 (unbarred_by s (Reads q) e x.0 x.2 k.0 k.1)
      (sym (held_at x.0 k.0 k.1 q) ∙ x.3) x.4
  unbarred_free s (Writes q) e x =
      let k = holder x.0 q x.1 x.3 in
      writes_excluded ((front_of (view_of c) (underway k.0)).writes q) ((front_of (view_of c) (underway k.0)).reads q) x.1 (unbarred_by s (Writes q) e x.0 x.2 k.0 k.1)
      (sym (held_at x.0 k.0 k.1 q) ∙ x.3)

  -- A touch that no lock excludes is clear of the calls.
  module _ (s : ℕ) where
    unwritten : (q : Bytes) (t : ℕ) (o : Open) → t ≢ s → ok.world.calls t ≡ Some o → (IsExcluded c.locks s (Reads q) → ⊥) → (w : Bool) → o.machine.writes q ≡ w → w ≡ false
    unwritten q t o ne is free true e = absurd (free (t, Exclusive, ne, ok.stands.locks t q ∙ ap (λ x. mode_held x q) is ∙ ap (λ b. mode_by b (o.machine.reads q)) e, tt))
    unwritten q t o ne is free false e = refl

    unlocked :
        (q : Bytes) (t : ℕ) (o : Open) → t ≢ s → ok.world.calls t ≡ Some o → (IsExcluded c.locks s (Writes q) → ⊥) → (w r : Bool) → o.machine.writes q ≡ w → o.machine.reads q ≡ r →
        (w ≡ false) × (r ≡ false)
    unlocked q t o ne is free true r e f = absurd (free (t, Exclusive, ne, ok.stands.locks t q ∙ ap (λ x. mode_held x q) is ∙ ap (λ b. mode_by b (o.machine.reads q)) e, tt))
    unlocked q t o ne is free false true e f = absurd (free (t, Shared, ne, ok.stands.locks t q ∙ ap (λ x. mode_held x q) is ∙ ap (λ b. mode_by b (o.machine.reads q)) e ∙ ap (mode_by false) f, tt))
    unlocked q t o ne is free false false e f = (refl, refl)

    differs_from : (t : ℕ) → (t == s) ≡ false → t ≢ s
    differs_from t e f = true≢false (sym (eq-eqb t s f) ∙ e)

    pub free_clear : (n : Touch) → (IsExcluded c.locks s n → ⊥) → NoConflict ok.world.calls s n
    free_clear Nothing free t o ne is = tt
    free_clear (Reads q) free t o ne is = unwritten q t o (differs_from t ne) is free (o.machine.writes q) refl
    free_clear (Writes q) free t o ne is = unlocked q t o (differs_from t ne) is free (o.machine.writes q) (o.machine.reads q) refl refl
