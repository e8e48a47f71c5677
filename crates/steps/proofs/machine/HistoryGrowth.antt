-- The history as it grows.
use Rattle.std.proofs.Common.{◌≡◌, ℕ, ◌+◌, ◌≤◌, ◌<◌, Bool, true, false, cond, ◌||◌, List, [], ◌∷◌, Option, Some, None, refl, sym, ap, ◌∙◌, subst, inl, inr, true≢false, arith, is_some, le_refl, le_trans}
use Rattle.std.specs.Prelude.{◌==◌}
use Rattle.std.proofs.lemmas.Bool.{eq-eqb, ne_eqb}
use Rattle.commitlog.specs.Histories.{code_of, Follows}
use Rattle.commitlog.specs.Records.{Record, Token, Call}
use Rattle.phase.specs.declared.phases.Phase.{Phase}
use Rattle.phase.specs.declared.phases.Phase.TheVariants.{Rest, Prepare, Resolve, Capture, Complete}
use Rattle.procedure.proofs.Base.{value_at-merged}
use Rattle.procedure.specs.Bytes.{Bytes, Cell}
use Rattle.procedure.specs.Procedures.{Procedure}
use Rattle.procedure.specs.Runs.{whole, committed, no_keys}
use Rattle.procedure.specs.Table.{Table, Changes, value_at, change_at, changed_or}
use Rattle.steps.specs.machine.NewestFirst.{history_table, IsCyclicHistory, history_phase, history_number, before, history_resolves, since, history_last_finished, last_finished_at, IsCut, MachineImage}
use Rattle.steps.specs.machine.Invariant.{Sets, AllFinished}
use Rattle.steps.specs.machine.Machine.{Open, answer}

-- a checkpoint that runs has a number IsAbove that of the last finished one
abbrev pub pending : Phase → ℕ
pending Rest = 0
pending Complete = 0
pending _ = 1

below_at : (p p' : Phase) (n n' f : ℕ) → Follows p n p' n' → f + pending p ≤ n → last_finished_at p' n' f + pending p' ≤ n'
below_at Rest Prepare n n' f g l = omega arith
below_at Prepare Resolve n n' f g l = omega arith
below_at Resolve Capture n n' f g l = omega arith
below_at Resolve Rest n n' f g l = omega arith
below_at Capture Complete n n' f g l = omega arith
below_at Capture Rest n n' f g l = omega arith
below_at Complete Rest n n' f g l = omega arith
below_at _ _ n n' f g l = absurd g

pub finished_below : (h : List Record) → IsCyclicHistory h → history_last_finished h + pending (history_phase h) ≤ history_number h
unfolding history_last_finished
finished_below [] c = le_refl 0
finished_below (Token p n ∷ h) c = below_at (history_phase h) p (history_number h) n (history_last_finished h) c.0 (finished_below h c.1)
finished_below (Call s n p args o r ∷ h) c = finished_below h c

-- a key that was not written since a cut is as it was there
pub since_unchanged : (c : List Procedure) (t : Table) (n : ℕ) (h : List Record) (q : Bytes) → since c t n h q ≡ false → value_at (history_table c t h) q ≡ value_at (history_table c t (before n h)) q
unfolding since before history_table
since_unchanged c t n [] q e = refl
since_unchanged c t n (Token Resolve m ∷ h) q e = at_token (m == n) (since_unchanged c t n h q) e
  where
    at_token :
        (b : Bool) → (since c t n h q ≡ false → value_at (history_table c t h) q ≡ value_at (history_table c t (before n h)) q) → cond b false (since c t n h q) ≡ false →
        value_at (history_table c t h) q ≡ value_at (history_table c t (cond b h (before n h))) q
    at_token true ih e = refl
    at_token false ih e = ih e
since_unchanged c t n (Token Rest m ∷ h) q e = since_unchanged c t n h q e
since_unchanged c t n (Token Prepare m ∷ h) q e = since_unchanged c t n h q e
since_unchanged c t n (Token Capture m ∷ h) q e = since_unchanged c t n h q e
since_unchanged c t n (Token Complete m ∷ h) q e = since_unchanged c t n h q e
since_unchanged c t n (Call s m p args o r ∷ h) q e =
    value_at-merged (history_table c t h) (committed (whole (code_of c p) args (history_table c t h))) q
    ∙ not_changed (change_at (committed (whole (code_of c p) args (history_table c t h))) q) (since c t n h q) e
    ∙ since_unchanged c t n h q (or_left_false _ _ e)
  where
    not_changed : (o : Option Cell) (b : Bool) → (is_some o || b) ≡ false → changed_or o (value_at (history_table c t h) q) ≡ value_at (history_table c t h) q
    not_changed None b e = refl
    not_changed (Some x) b e = absurd (true≢false e)

    or_left_false : (a b : Bool) → (a || b) ≡ false → b ≡ false
    or_left_false true b e = absurd (true≢false e)
    or_left_false false b e = e

pub resolves-more : (r : Record) (h : List Record) (n : ℕ) → history_resolves n h → history_resolves n (r ∷ h)
resolves-more (Token Resolve m) h n x = inr x
resolves-more _ h n x = x

abbrev pub has_cut : Phase → Bool
has_cut Rest = false
has_cut Prepare = false
has_cut _ = true

resolved_at : (p q : Phase) (n m : ℕ) (h : List Record) → Follows p n q m → has_cut q ≡ true → (has_cut p ≡ true → history_resolves n h) → history_resolves m (Token q m ∷ h)
resolved_at p Resolve n m h g e x = inl refl
resolved_at Resolve Capture n m h g e x = subst (λ k. history_resolves k h) (sym g) (x refl)
resolved_at Capture Complete n m h g e x = subst (λ k. history_resolves k h) (sym g) (x refl)
resolved_at p Rest n m h g e x = absurd (true≢false (sym e))
resolved_at p Prepare n m h g e x = absurd (true≢false (sym e))
resolved_at _ Capture n m h g e x = absurd g
resolved_at _ Complete n m h g e x = absurd g

pub resolved_there : (h : List Record) → IsCyclicHistory h → has_cut (history_phase h) ≡ true → history_resolves (history_number h) h
resolved_there [] c e = absurd (true≢false (sym e))
resolved_there (Token q m ∷ h) c e = resolved_at (history_phase h) q (history_number h) m h c.0 e (resolved_there h c.1)
resolved_there (Call s m p a o r ∷ h) c e = resolved_there h c e

-- the sets, as the history grows
or_false : (a : Bool) → a ≡ (a || false)
or_false true = refl
or_false false = refl

or_between : (x a b c : Bool) → a ≡ (b || c) → (x || a) ≡ (b || (x || c))
or_between true a true c e = refl
or_between true a false c e = refl
or_between false a b c e = e

module _ (c : List Procedure) (t : Table) where
  pub sets_call : (b : Bool) (h : List Record) (n f : ℕ) (col col' fro : Bytes → Bool) (s : ℕ) (d : Open) (g : Changes) → committed (whole (code_of c d.procedure) d.args (history_table c t h)) ≡ g →
      ((q : Bytes) → col' q ≡ (is_some (change_at g q) || col q)) → Sets b c t h n f col fro → Sets b c t (answer s d ∷ h) n f col' fro
  unfolding since before history_last_finished
  sets_call true h n f col col' fro s d g e w x =
      record {
        collecting = λ q. w q ∙ (λ i. is_some (change_at (sym e i) q) || x.collecting q i);
        frozen = x.frozen;
        split = λ q. or_between _ _ _ _ (x.split q);
        base = x.base;
        inner = x.inner;
      }
  sets_call false h n f col col' fro s d g e w x = record { collecting = λ q. w q ∙ (λ i. is_some (change_at (sym e i) q) || x.collecting q i); frozen = x.frozen }

  pub sets_prepare : (h : List Record) (n m f : ℕ) (col fro : Bytes → Bool) → Sets false c t h n f col fro → Sets false c t (Token Prepare m ∷ h) m f col fro
  unfolding since
  sets_prepare h n m f col fro x = record { collecting = x.collecting; frozen = x.frozen }

  pub sets_resolve :
      (h : List Record) (n f : ℕ) (col fro : Bytes → Bool) → (n == f) ≡ false → history_last_finished h ≡ f → Sets false c t h n f col fro → Sets true c t (Token Resolve n ∷ h) n f no_keys col
  unfolding since before
  sets_resolve h n f col fro ne e x =
      let own : (n == n) ≡ true = eq-eqb n n refl in
      record {
        collecting = λ q. ap (λ b. cond b false (since c t n h q)) (sym own);
        frozen = λ q. x.collecting q ∙ ap (λ b. since c t f (cond b h (before n h)) q) (sym own);
        split = λ q. ap (λ b. cond b false (since c t f h q)) ne ∙ or_false (since c t f h q) ∙ ap (λ b. since c t f (cond b h (before n h)) q || cond b false (since c t n h q)) (sym own);
        base = ap (λ b. history_last_finished (cond b h (before n h))) own ∙ e;
        inner = ap (λ b. before f (cond b h (before n h))) own ∙ ap (λ b. cond b h (before f h)) (sym ne);
      }

  pub sets_capture : (h : List Record) (n m f : ℕ) (col fro : Bytes → Bool) → Sets true c t h n f col fro → Sets true c t (Token Capture m ∷ h) n f col fro
  unfolding since before
  sets_capture h n m f col fro x = record { collecting = x.collecting; frozen = x.frozen; split = x.split; base = x.base; inner = x.inner }

  pub sets_complete : (h : List Record) (n m f : ℕ) (col fro : Bytes → Bool) → Sets true c t h n f col fro → Sets false c t (Token Complete m ∷ h) n n col no_keys
  unfolding since
  sets_complete h n m f col fro x = record { collecting = x.collecting; frozen = λ q. refl }

  pub sets_rest : (h : List Record) (n m f : ℕ) (col fro : Bytes → Bool) → Sets false c t h n f col fro → Sets false c t (Token Rest m ∷ h) n f col fro
  unfolding since
  sets_rest h n m f col fro x = record { collecting = x.collecting; frozen = x.frozen }

  pub sets_abandon : (h : List Record) (n m f : ℕ) (col fro : Bytes → Bool) → Sets true c t h n f col fro → Sets false c t (Token Rest m ∷ h) n f (λ q. fro q || col q) no_keys
  unfolding since
  sets_abandon h n m f col fro x = record { collecting = λ q. (λ i. x.frozen q i || x.collecting q i) ∙ sym (x.split q); frozen = λ q. refl }

  -- finished images stay cuts of the history
  pub images_grow :
      (h : List Record) (r : Record) (f f' : ℕ) → ((n : ℕ) → n ≤ f → before n (r ∷ h) ≡ before n h) → f ≤ f' → (is : List MachineImage) → AllFinished c t h f is → AllFinished c t (r ∷ h) f' is
  images_grow h r f f' e l [] x = x
  images_grow h r f f' e l (i ∷ is) x = (
    record {
      cut = subst (λ b. IsCut c t b i.kind i) (sym (e i.number x.0.number)) x.0.cut;
      number = le_trans x.0.number l;
      base = le_trans x.0.base l;
      resolved = resolves-more r h i.number x.0.resolved;
      inner = λ k. ap (before i.base) (e i.number x.0.number) ∙ x.0.inner k ∙ sym (e i.base x.0.base);
    },
    images_grow h r f f' e l is x.1,
  )

pub before-resolve : (h : List Record) (n m : ℕ) → n < m → before n (Token Resolve m ∷ h) ≡ before n h
unfolding before
before-resolve h n m l = ap (λ b. cond b h (before n h)) (ne_eqb m n (λ e. absurd (omega arith)))

pub before-own : (h : List Record) (n : ℕ) → before n (Token Resolve n ∷ h) ≡ h
unfolding before
before-own h n = ap (λ b. cond b h (before n h)) (eq-eqb n n refl)
