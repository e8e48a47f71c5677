-- Cuts, the tables there and the written keys, in the words of the log.
use Rattle.std.proofs.Common.{◌≡◌, ℕ, zero, suc, ◌+◌, ◌-◌, ◌≤◌, ◌<◌, Bool, true, false, cond, ◌||◌, List, [], ◌∷◌, ◌++◌, length, take, drop, reverse, refl, sym, ap, ◌∙◌, subst, ◌⊎◌, inl, inr, arith, is_some}
use Rattle.std.specs.Prelude.{◌==◌, slice_range}
use Rattle.std.proofs.lemmas.Bool.{eq-eqb, ne_eqb}
use Rattle.std.proofs.lemmas.List.{drop-take, drop-append-le, take-append-drop}
use Rattle.std.proofs.Math.Seq.{drop-append_seam}
use Rattle.phase.specs.declared.phases.Phase.{Phase}
use Rattle.phase.specs.declared.phases.Phase.TheVariants.{Rest, Prepare, Resolve, Capture, Complete}
use Rattle.procedure.specs.Bytes.{Bytes}
use Rattle.procedure.specs.Table.{Table, change_at}
use Rattle.procedure.specs.Procedures.{Procedure}
use Rattle.procedure.specs.Runs.{whole, committed}
use Rattle.procedure.proofs.Copies.{whole_is_run}
use Rattle.commitlog.specs.Records.{Record, Token, Call}
use Rattle.commitlog.specs.Histories as log
use Rattle.commitlog.specs.Histories.{code_of, Follows}
use Rattle.commitlog.specs.Cuts as cuts
use Rattle.commitlog.specs.Cuts.{is_resolve, before_resolve, Stands}
use Rattle.commitlog.proofs.Cuts.{stands-left, stands-right, stands-append}
use Rattle.commitlog.proofs.Written.{written_from-append}
use Rattle.commitlog.proofs.Histories.{after-append}
use Rattle.steps.specs.machine.NewestFirst.{history_table, history_phase, history_number, IsCyclicHistory, before, history_resolves, history_last_finished, since, at}
use Rattle.steps.proofs.machine.HistoryGrowth.{finished_below, pending, resolves-more}
use Rattle.steps.proofs.log.OldestFirst.{reverse_push, length-reverse, after-reverse, first_ones, before-length}

abbrev ahead : Phase → ℕ
ahead Prepare = 1
ahead _ = 0

step_below : (p q : Phase) (k m n : ℕ) → Follows p k q m → n + ahead p ≤ k → n + ahead q ≤ m
step_below Rest Prepare k m n g l = omega arith
step_below Prepare Resolve k m n g l = omega arith
step_below Resolve Capture k m n g l = omega arith
step_below Resolve Rest k m n g l = omega arith
step_below Capture Complete k m n g l = omega arith
step_below Capture Rest k m n g l = omega arith
step_below Complete Rest k m n g l = omega arith
step_below _ _ k m n g l = absurd g

resolved_below : (n : ℕ) (h : List Record) → IsCyclicHistory h → history_resolves n h → n + ahead (history_phase h) ≤ history_number h
resolved_below n [] c x = absurd x
resolved_below n (Token Resolve m ∷ h) c (inl e) = omega arith
resolved_below n (Token Resolve m ∷ h) c (inr x) = step_below (history_phase h) Resolve (history_number h) m n c.0 (resolved_below n h c.1 x)
resolved_below n (Token Rest m ∷ h) c x = step_below (history_phase h) Rest (history_number h) m n c.0 (resolved_below n h c.1 x)
resolved_below n (Token Prepare m ∷ h) c x = step_below (history_phase h) Prepare (history_number h) m n c.0 (resolved_below n h c.1 x)
resolved_below n (Token Capture m ∷ h) c x = step_below (history_phase h) Capture (history_number h) m n c.0 (resolved_below n h c.1 x)
resolved_below n (Token Complete m ∷ h) c x = step_below (history_phase h) Complete (history_number h) m n c.0 (resolved_below n h c.1 x)
resolved_below n (Call s m p a o r ∷ h) c x = resolved_below n h c x

at_prepare : (p : Phase) (k m n : ℕ) → Follows p k Resolve m → n + ahead p ≤ k → n < m
at_prepare Prepare k m n g l = omega arith
at_prepare _ k m n g l = absurd g

-- a place within the first part, or past it
within_at : (b : Bool) (x y n : ℕ) → (x < n → y ≡ x) → cond b 0 (suc x) < suc n → cond b 0 (suc y) ≡ cond b 0 (suc x)
within_at true x y n ih l = refl
within_at false x y n ih l = ap suc (ih (omega arith))

pub cut_within : (n : ℕ) (xs ys : List Record) → before_resolve n xs < length xs → before_resolve n (xs ++ ys) ≡ before_resolve n xs
cut_within n [] ys l = absurd (omega arith)
cut_within n (x ∷ xs) ys l = within_at (cuts.resolves n x) (before_resolve n xs) (before_resolve n (xs ++ ys)) (length xs) (cut_within n xs ys) l

past_at : (b : Bool) (x y k n : ℕ) → (x ≡ n → y ≡ n + k) → cond b 0 (suc x) ≡ suc n → cond b 0 (suc y) ≡ suc n + k
past_at true x y k n ih e = absurd (omega arith)
past_at false x y k n ih e = let i : y ≡ n + k = ih (omega arith) in omega arith

cut_past : (n : ℕ) (xs ys : List Record) → before_resolve n xs ≡ length xs → before_resolve n (xs ++ ys) ≡ length xs + before_resolve n ys
cut_past n [] ys e = omega arith
cut_past n (x ∷ xs) ys e = past_at (cuts.resolves n x) (before_resolve n xs) (before_resolve n (xs ++ ys)) (before_resolve n ys) (length xs) (cut_past n xs ys) e

-- one record more at the end
cut_more : (n : ℕ) (r : Record) (h : List Record) (k : ℕ) → (before_resolve n (reverse h) ≡ k) × (k < length h) → (before_resolve n (reverse (r ∷ h)) ≡ k) × (k < length (r ∷ h))
cut_more n r h k x =
    (ap (before_resolve n) (reverse_push r h) ∙ cut_within n (reverse h) (r ∷ []) (let l = length-reverse h in let e = x.0 in let b = x.1 in omega arith) ∙ x.0, let b = x.1 in omega arith)

skip : (n : ℕ) (r : Record) (h : List Record) → before_resolve n (r ∷ []) ≡ 1 → before_resolve n (reverse h) ≡ length h → before_resolve n (reverse (r ∷ h)) ≡ length (r ∷ h)
skip n r h o e =
    ap (before_resolve n) (reverse_push r h)
    ∙ (let p : before_resolve n (reverse h ++ (r ∷ [])) ≡ length (reverse h) + before_resolve n (r ∷ []) = cut_past n (reverse h) (r ∷ []) (e ∙ sym (length-reverse h)) in let l = length-reverse h in
    omega arith)

unresolved : (n : ℕ) (h : List Record) → (history_resolves n h → ⊥) → before_resolve n (reverse h) ≡ length h
unresolved n [] x = refl
unresolved n (Token Resolve m ∷ h) x = skip n (Token Resolve m) h (ap (λ b. cond b 0 1) (ne_eqb m n (λ e. x (inl e)))) (unresolved n h (λ y. x (inr y)))
unresolved n (Token Rest m ∷ h) x = skip n (Token Rest m) h refl (unresolved n h x)
unresolved n (Token Prepare m ∷ h) x = skip n (Token Prepare m) h refl (unresolved n h x)
unresolved n (Token Capture m ∷ h) x = skip n (Token Capture m) h refl (unresolved n h x)
unresolved n (Token Complete m ∷ h) x = skip n (Token Complete m) h refl (unresolved n h x)
unresolved n (Call s m p a o r ∷ h) x = skip n (Call s m p a o r) h refl (unresolved n h x)

cut_place : (n : ℕ) (h : List Record) → IsCyclicHistory h → history_resolves n h → (before_resolve n (reverse h) ≡ length (before n h)) × (length (before n h) < length h)
unfolding before
cut_place n [] c x = absurd x
cut_place n (Token Resolve m ∷ h) c (inl e) =
    let b : (m == n) ≡ true = eq-eqb m n e in
    let u : before_resolve n (reverse h) ≡ length h = unresolved n h (λ y. let l : n < m = at_prepare (history_phase h) (history_number h) m n c.0 (resolved_below n h c.1 y) in absurd (omega arith))
    in
    subst (λ z. (before_resolve n (reverse (Token Resolve m ∷ h)) ≡ length (cond z h (before n h))) × (length (cond z h (before n h)) < suc (length h))) (sym b) (
      ap (before_resolve n) (reverse_push (Token Resolve m) h)
          ∙ cut_past n (reverse h) (Token Resolve m ∷ []) (u ∙ sym (length-reverse h))
          ∙ ap (λ z. length (reverse h) + cond z 0 1) b ∙ (let l = length-reverse h in omega arith),
      omega arith,
    )
cut_place n (Token Resolve m ∷ h) c (inr x) =
    let l : n < m = at_prepare (history_phase h) (history_number h) m n c.0 (resolved_below n h c.1 x) in
    let b : (m == n) ≡ false = ne_eqb m n (λ e. absurd (omega arith)) in
    subst (λ z. (before_resolve n (reverse (Token Resolve m ∷ h)) ≡ length (cond z h (before n h))) × (length (cond z h (before n h)) < suc (length h))) (sym b)
    (cut_more n (Token Resolve m) h (length (before n h)) (cut_place n h c.1 x))
cut_place n (Token Rest m ∷ h) c x = cut_more n (Token Rest m) h (length (before n h)) (cut_place n h c.1 x)
cut_place n (Token Prepare m ∷ h) c x = cut_more n (Token Prepare m) h (length (before n h)) (cut_place n h c.1 x)
cut_place n (Token Capture m ∷ h) c x = cut_more n (Token Capture m) h (length (before n h)) (cut_place n h c.1 x)
cut_place n (Token Complete m ∷ h) c x = cut_more n (Token Complete m) h (length (before n h)) (cut_place n h c.1 x)
cut_place n (Call s m p a o r ∷ h) c x = cut_more n (Call s m p a o r) h (length (before n h)) (cut_place n h c x)

-- the resolve token stands in the log, or does not
pub resolves-stands : (n : ℕ) (h : List Record) → history_resolves n h → Stands (Token Resolve n) (reverse h)
resolves-stands n [] x = absurd x
resolves-stands n (Token Resolve m ∷ h) (inl e) =
    subst (Stands (Token Resolve n)) (sym (reverse_push (Token Resolve m) h)) (stands-right (Token Resolve n) (reverse h) (Token Resolve m ∷ []) (inl (ap (λ k. Token Resolve k) e)))
resolves-stands n (Token Resolve m ∷ h) (inr x) = older n (Token Resolve m) h (resolves-stands n h x)
  where
    older : (n : ℕ) (r : Record) (h : List Record) → Stands (Token Resolve n) (reverse h) → Stands (Token Resolve n) (reverse (r ∷ h))
    older n r h s = subst (Stands (Token Resolve n)) (sym (reverse_push r h)) (stands-left (Token Resolve n) (reverse h) (r ∷ []) s)
resolves-stands n (Token Rest m ∷ h) x = subst (Stands (Token Resolve n)) (sym (reverse_push (Token Rest m) h)) (stands-left (Token Resolve n) (reverse h) _ (resolves-stands n h x))
resolves-stands n (Token Prepare m ∷ h) x = subst (Stands (Token Resolve n)) (sym (reverse_push (Token Prepare m) h)) (stands-left (Token Resolve n) (reverse h) _ (resolves-stands n h x))
resolves-stands n (Token Capture m ∷ h) x = subst (Stands (Token Resolve n)) (sym (reverse_push (Token Capture m) h)) (stands-left (Token Resolve n) (reverse h) _ (resolves-stands n h x))
resolves-stands n (Token Complete m ∷ h) x = subst (Stands (Token Resolve n)) (sym (reverse_push (Token Complete m) h)) (stands-left (Token Resolve n) (reverse h) _ (resolves-stands n h x))
resolves-stands n (Call s m p a o r ∷ h) x = subst (Stands (Token Resolve n)) (sym (reverse_push (Call s m p a o r) h)) (stands-left (Token Resolve n) (reverse h) _ (resolves-stands n h x))

token_resolves : (n : ℕ) (r : Record) (h : List Record) → history_resolves n h ⊎ Stands (Token Resolve n) (r ∷ []) → history_resolves n (r ∷ h)
token_resolves n r h (inl x) = resolves-more r h n x
token_resolves n r h (inr (inl e)) = subst (λ x. history_resolves n (x ∷ h)) (sym e) (inl refl)
token_resolves n r h (inr (inr x)) = absurd x

pub stands-resolves : (n : ℕ) (h : List Record) → Stands (Token Resolve n) (reverse h) → history_resolves n h
stands-resolves n [] s = absurd s
stands-resolves n (r ∷ h) s = token_resolves n r h (older (stands-append (Token Resolve n) (reverse h) (r ∷ []) (subst (Stands (Token Resolve n)) (reverse_push r h) s)) (stands-resolves n h))
  where
    older :
        Stands (Token Resolve n) (reverse h) ⊎ Stands (Token Resolve n) (r ∷ []) → (Stands (Token Resolve n) (reverse h) → history_resolves n h) →
        history_resolves n h ⊎ Stands (Token Resolve n) (r ∷ [])
    older (inl x) ih = inl (ih x)
    older (inr x) ih = inr x

-- resolved checkpoints have numbers above 0
from_prepare : (p : Phase) (k m f : ℕ) → Follows p k Resolve m → f + pending p ≤ k → 1 ≤ m
from_prepare Prepare k m f g l = omega arith
from_prepare _ k m f g l = absurd g

resolved_above : (n : ℕ) (h : List Record) → IsCyclicHistory h → history_resolves n h → n ≡ 0 → ⊥
resolved_above n [] c x z = x
resolved_above n (Token Resolve m ∷ h) c (inl e) z = let l : 1 ≤ m = from_prepare (history_phase h) (history_number h) m (history_last_finished h) c.0 (finished_below h c.1) in omega arith
resolved_above n (Token Resolve m ∷ h) c (inr x) z = resolved_above n h c.1 x z
resolved_above n (Token Rest m ∷ h) c x z = resolved_above n h c.1 x z
resolved_above n (Token Prepare m ∷ h) c x z = resolved_above n h c.1 x z
resolved_above n (Token Capture m ∷ h) c x z = resolved_above n h c.1 x z
resolved_above n (Token Complete m ∷ h) c x z = resolved_above n h c.1 x z
resolved_above n (Call s m p a o r ∷ h) c x z = resolved_above n h c x z

-- the cut of a checkpoint that was resolved, and of the opening
abbrev pub HasPlace : ℕ → List Record → Type 0
HasPlace n h = cuts.cut (reverse h) n ≡ length (before n h)

pub cut-reverse : (n : ℕ) (h : List Record) → IsCyclicHistory h → history_resolves n h → HasPlace n h
cut-reverse zero h c x = absurd (resolved_above 0 h c x refl)
cut-reverse (suc n) h c x = (cut_place (suc n) h c x).0

pub cut-none : (h : List Record) → before 0 h ≡ [] → HasPlace 0 h
cut-none h e = sym (ap length e)

pub front-reverse : (n : ℕ) (h : List Record) → HasPlace n h → take (cuts.cut (reverse h) n) (reverse h) ≡ reverse (before n h)
front-reverse n h e = ap (λ k. take k (reverse h)) e ∙ first_ones n h

pub at_cut-reverse : (c : List Procedure) (t : Table) (n : ℕ) (h : List Record) → HasPlace n h → cuts.at_cut c t (reverse h) n ≡ at c t n h
at_cut-reverse c t n h e = ap (log.after c t) (front-reverse n h e) ∙ after-reverse c t (before n h)

-- the keys that a record's call writes
writes_with :
    (c : List Procedure) (t : Table) (s m p : ℕ) (args : List Bytes) (q : Bytes) (b : Bool) →
    (is_some (change_at (committed (whole (code_of c p) args t)) q) || b) ≡ (b || (cuts.writes c t (Call s m p args 0 []) q || false))
writes_with c t s m p args q b = ap (λ x. x || b) ((whole_is_run (code_of c p) args t).written q) ∙ exchanged _ b
  where
    exchanged : (x y : Bool) → (x || y) ≡ (y || (x || false))
    exchanged true true = refl
    exchanged true false = refl
    exchanged false true = refl
    exchanged false false = refl

-- those written since a cut are written from it on
abbrev Since : List Procedure → Table → ℕ → List Record → Bytes → Type 0
Since c t b g q = since c t b g q ≡ cuts.written_from c (history_table c t (before b g)) (drop (length (before b g)) (reverse g)) q

or_none : (x : Bool) → x ≡ (x || false)
or_none true = refl
or_none false = refl

module _ (c : List Procedure) (t : Table) (b : ℕ) (q : Bytes) where
  abbrev from_cut : List Record → List Record → Bool
  from_cut k g = cuts.written_from c (history_table c t k) (drop (length k) (reverse g)) q

  -- the calls after the cut are those of the history
  after_cut : (g : List Record) → log.after c (history_table c t (before b g)) (drop (length (before b g)) (reverse g)) ≡ history_table c t g
  after_cut g =
      ap (λ u. log.after c u (drop (length (before b g)) (reverse g))) (sym (after-reverse c t (before b g)) ∙ ap (log.after c t) (sym (first_ones b g)))
      ∙ sym (after-append c t (take (length (before b g)) (reverse g)) (drop (length (before b g)) (reverse g)))
      ∙ ap (log.after c t) (take-append-drop (length (before b g)) (reverse g))
      ∙ after-reverse c t g

  one_more : (r : Record) (g : List Record) → from_cut (before b g) (r ∷ g) ≡ (from_cut (before b g) g || (cuts.writes c (history_table c t g) r q || false))
  unfolding cuts.written_from
  one_more r g =
      ap (λ l. cuts.written_from c (history_table c t (before b g)) l q)
      (ap (drop (length (before b g))) (reverse_push r g) ∙ drop-append-le (length (before b g)) (reverse g) (r ∷ []) (let l = length-reverse g in let w = before-length b g in omega arith))
      ∙ written_from-append c (history_table c t (before b g)) (drop (length (before b g)) (reverse g)) (r ∷ []) q
      ∙ ap (λ u. cuts.written_from c (history_table c t (before b g)) (drop (length (before b g)) (reverse g)) q || (cuts.writes c u r q || false)) (after_cut g)

  own_token : (m : ℕ) (g : List Record) → false ≡ from_cut g (Token Resolve m ∷ g)
  unfolding cuts.written_from
  own_token m g =
      sym (ap (λ l. cuts.written_from c (history_table c t g) l q)
      (ap (drop (length g)) (reverse_push (Token Resolve m) g) ∙ ap (λ k. drop k (reverse g ++ Token Resolve m ∷ [])) (sym (length-reverse g)) ∙ drop-append_seam (reverse g) (Token Resolve m ∷ [])))

  pub since-reverse : (g : List Record) → since c t b g q ≡ from_cut (before b g) g
  unfolding since before cuts.written_from
  since-reverse [] = refl
  since-reverse (Token Rest m ∷ g) = since-reverse g ∙ or_none _ ∙ sym (one_more (Token Rest m) g)
  since-reverse (Token Prepare m ∷ g) = since-reverse g ∙ or_none _ ∙ sym (one_more (Token Prepare m) g)
  since-reverse (Token Capture m ∷ g) = since-reverse g ∙ or_none _ ∙ sym (one_more (Token Capture m) g)
  since-reverse (Token Complete m ∷ g) = since-reverse g ∙ or_none _ ∙ sym (one_more (Token Complete m) g)
  since-reverse (Token Resolve m ∷ g) = by_number (m == b) (since-reverse g ∙ or_none _ ∙ sym (one_more (Token Resolve m) g))
    where
      by_number : (x : Bool) → since c t b g q ≡ from_cut (before b g) (Token Resolve m ∷ g) → cond x false (since c t b g q) ≡ from_cut (cond x g (before b g)) (Token Resolve m ∷ g)
      by_number true e = own_token m g
      by_number false e = e
  since-reverse (Call s m p args o r ∷ g) =
      writes_with c (history_table c t g) s m p args q (since c t b g q) ∙ ap (λ x. x || (cuts.writes c (history_table c t g) (Call s m p args 0 []) q || false)) (since-reverse g)
      ∙ sym (one_more (Call s m p args o r) g)

-- the keys written between two cuts
pub written-reverse :
    (c : List Procedure) (t : Table) (b n : ℕ) (h : List Record) (q : Bytes) → HasPlace b h → HasPlace n h → before b (before n h) ≡ before b h →
    cuts.written c t (reverse h) (cuts.cut (reverse h) b) (cuts.cut (reverse h) n) q ≡ since c t b (before n h) q
written-reverse c t b n h q e f i =
    ap (λ l. cuts.written_from c (log.after c t l) (slice_range (reverse h) (cuts.cut (reverse h) b) (cuts.cut (reverse h) n)) q) (front-reverse b h e)
    ∙ ap (λ u. cuts.written_from c u (slice_range (reverse h) (cuts.cut (reverse h) b) (cuts.cut (reverse h) n)) q) (after-reverse c t (before b h) ∙ ap (history_table c t) (sym i))
    ∙ ap (λ l. cuts.written_from c (history_table c t (before b (before n h))) l q) range
    ∙ sym (since-reverse c t b q (before n h))
  where
    inner : length (before b (before n h)) ≤ length (before n h)
    inner = before-length b (before n h)

    range : slice_range (reverse h) (cuts.cut (reverse h) b) (cuts.cut (reverse h) n) ≡ drop (length (before b (before n h))) (reverse (before n h))
    range =
        ap (λ x. slice_range (reverse h) x (cuts.cut (reverse h) n)) (e ∙ ap length (sym i))
        ∙ ap (λ x. slice_range (reverse h) (length (before b (before n h))) x) f
        ∙ sym (drop-take (length (before b (before n h))) (length (before n h) - length (before b (before n h))) (reverse h))
        ∙ ap (λ x. drop (length (before b (before n h))) (take x (reverse h))) (omega (arith, inner))
        ∙ ap (drop (length (before b (before n h)))) (first_ones n h)
