-- The machine's words for a history, which read it newest record first, are those of a log, which read it from the oldest on.
use Rattle.std.proofs.Common.{◌≡◌, ℕ, ◌≤◌, Bool, true, false, cond, List, [], ◌∷◌, ◌++◌, length, take, reverse, Some, None, refl, sym, ap, ◌∙◌, subst, arith, append-nil, append_assoc, length-append}
use Rattle.std.specs.Prelude.{◌==◌}
use Rattle.std.proofs.lemmas.Grind.{reverse_onto}
use Rattle.std.proofs.Math.Seq.{take-append_seam}
use Rattle.phase.specs.declared.phases.Phase.TheVariants.{Rest, Prepare, Resolve, Capture, Complete}
use Rattle.procedure.specs.Table.{Table}
use Rattle.procedure.specs.Procedures.{Procedure}
use Rattle.procedure.specs.Copies.{run}
use Rattle.procedure.proofs.Copies.{whole_is_run}
use Rattle.commitlog.specs.Records.{Record, Token, Call}
use Rattle.commitlog.specs.Histories as log
use Rattle.commitlog.specs.Cuts as cuts
use Rattle.commitlog.specs.Histories.{code_of}
use Rattle.commitlog.proofs.Histories.{each-push, after-push, phase_of-push, number_of-push, last_number-push, last_finished-push}
use Rattle.steps.specs.machine.NewestFirst.{history_table, IsLegalHistory, history_last_number, IsOrderlyHistory, history_phase, history_number, IsCyclicHistory, before, history_last_finished}

pub reverse_push : {X : Type 0} (x : X) (xs : List X) → reverse (x ∷ xs) ≡ reverse xs ++ (x ∷ [])
reverse_push x xs = reverse_onto xs x []

pub reverse-append : {X : Type 0} (xs ys : List X) → reverse (xs ++ ys) ≡ reverse ys ++ reverse xs
reverse-append [] ys = sym (append-nil (reverse ys))
reverse-append (x ∷ xs) ys =
    reverse_push x (xs ++ ys) ∙ ap (λ z. z ++ (x ∷ [])) (reverse-append xs ys) ∙ append_assoc (reverse ys) (reverse xs) (x ∷ []) ∙ ap (λ z. reverse ys ++ z) (sym (reverse_push x xs))

pub length-reverse : {X : Type 0} (xs : List X) → length (reverse xs) ≡ length xs
length-reverse [] = refl
length-reverse (x ∷ xs) = ap length (reverse_push x xs) ∙ (let a = length-append (reverse xs) (x ∷ []) in let b = length-reverse xs in omega arith)

-- what a history says with its newest record
pub table_with : (c : List Procedure) (t : Table) (h : List Record) (r : Record) → history_table c t (r ∷ h) ≡ log.table_after c (history_table c t h) r
unfolding history_table
table_with c t h (Token p n) = refl
table_with c t h (Call s n p args o r) = (whole_is_run (code_of c p) args (history_table c t h)).table

pub after-reverse : (c : List Procedure) (t : Table) (h : List Record) → log.after c t (reverse h) ≡ history_table c t h
unfolding history_table log.after
after-reverse c t [] = refl
after-reverse c t (r ∷ h) =
    ap (log.after c t) (reverse_push r h) ∙ after-push c t (reverse h) r ∙ ap (λ u. log.table_after c u r) (after-reverse c t h)
    ∙ sym (table_with c t h r)

pub phase_of-reverse : (h : List Record) → log.phase_of (reverse h) ≡ history_phase h
unfolding log.phase_of
phase_of-reverse [] = refl
phase_of-reverse (Token q k ∷ h) = ap log.phase_of (reverse_push (Token q k) h) ∙ phase_of-push (reverse h) (Token q k)
phase_of-reverse (Call s k r a o v ∷ h) = ap log.phase_of (reverse_push (Call s k r a o v) h) ∙ phase_of-push (reverse h) (Call s k r a o v) ∙ phase_of-reverse h

pub number_of-reverse : (h : List Record) → log.number_of (reverse h) ≡ history_number h
unfolding log.number_of
number_of-reverse [] = refl
number_of-reverse (Token q k ∷ h) = ap log.number_of (reverse_push (Token q k) h) ∙ number_of-push (reverse h) (Token q k)
number_of-reverse (Call s k r a o v ∷ h) = ap log.number_of (reverse_push (Call s k r a o v) h) ∙ number_of-push (reverse h) (Call s k r a o v) ∙ number_of-reverse h

pub last_number-reverse : (s : ℕ) (h : List Record) → log.last_number s (reverse h) ≡ history_last_number s h
unfolding history_last_number log.last_number
last_number-reverse s [] = refl
last_number-reverse s (Token p n ∷ h) = ap (log.last_number s) (reverse_push (Token p n) h) ∙ last_number-push s (reverse h) (Token p n) ∙ last_number-reverse s h
last_number-reverse s (Call u n p args o r ∷ h) =
    ap (log.last_number s) (reverse_push (Call u n p args o r) h) ∙ last_number-push s (reverse h) (Call u n p args o r)
    ∙ ap (λ m. cond (u == s) (Some n) m) (last_number-reverse s h)

pub last_finished-reverse : (h : List Record) → cuts.last_finished (reverse h) ≡ history_last_finished h
unfolding history_last_finished cuts.last_finished
last_finished-reverse [] = refl
last_finished-reverse (Token Rest n ∷ h) = ap cuts.last_finished (reverse_push (Token Rest n) h) ∙ last_finished-push (reverse h) (Token Rest n) ∙ last_finished-reverse h
last_finished-reverse (Token Prepare n ∷ h) = ap cuts.last_finished (reverse_push (Token Prepare n) h) ∙ last_finished-push (reverse h) (Token Prepare n) ∙ last_finished-reverse h
last_finished-reverse (Token Resolve n ∷ h) = ap cuts.last_finished (reverse_push (Token Resolve n) h) ∙ last_finished-push (reverse h) (Token Resolve n) ∙ last_finished-reverse h
last_finished-reverse (Token Capture n ∷ h) = ap cuts.last_finished (reverse_push (Token Capture n) h) ∙ last_finished-push (reverse h) (Token Capture n) ∙ last_finished-reverse h
last_finished-reverse (Token Complete n ∷ h) = ap cuts.last_finished (reverse_push (Token Complete n) h) ∙ last_finished-push (reverse h) (Token Complete n)
last_finished-reverse (Call s n p args o r ∷ h) =
    ap cuts.last_finished (reverse_push (Call s n p args o r) h) ∙ last_finished-push (reverse h) (Call s n p args o r) ∙ last_finished-reverse h

no_records : (P : List Record → Record → Type 0) → log.EachAfter P []
no_records P i r e = absurd (no e)
  where
    no : {x : Record} → None ≡ Some x → ⊥
    no e = cc

pub legal-reverse : (c : List Procedure) (t : Table) (h : List Record) → IsLegalHistory c t h → log.IsLegal c t (reverse h)
legal-reverse c t [] x = no_records (log.IsAnsweredAfter c t)
legal-reverse c t (Token p n ∷ h) x =
    subst (log.IsLegal c t) (sym (reverse_push (Token p n) h)) (each-push (log.IsAnsweredAfter c t) (reverse h) (Token p n) (legal-reverse c t h x) tt)
legal-reverse c t (Call s n p args o r ∷ h) x =
    subst (log.IsLegal c t) (sym (reverse_push (Call s n p args o r) h))
    (each-push (log.IsAnsweredAfter c t) (reverse h) (Call s n p args o r) (legal-reverse c t h x.3)
    (record {
      procedure = x.0;
      outcome = x.1 ∙ (whole_is_run (code_of c p) args (history_table c t h)).outcome ∙ ap (λ u. (run (code_of c p) args u).outcome) (sym (after-reverse c t h));
      replies = x.2 ∙ (whole_is_run (code_of c p) args (history_table c t h)).replies ∙ ap (λ u. (run (code_of c p) args u).replies) (sym (after-reverse c t h));
    }))

pub orderly-reverse : (h : List Record) → IsOrderlyHistory h → log.IsOrderly (reverse h)
orderly-reverse [] x = no_records log.RisesAfter
orderly-reverse (Token p n ∷ h) x =
    subst log.IsOrderly (sym (reverse_push (Token p n) h)) (each-push log.RisesAfter (reverse h) (Token p n) (orderly-reverse h x) tt)
orderly-reverse (Call s n p args o r ∷ h) x =
    subst log.IsOrderly (sym (reverse_push (Call s n p args o r) h))
    (each-push log.RisesAfter (reverse h) (Call s n p args o r) (orderly-reverse h x.1) (subst (λ m. log.IsAbove m n) (sym (last_number-reverse s h)) x.0))

pub cyclic-reverse : (h : List Record) → IsCyclicHistory h → log.IsCyclic (reverse h)
cyclic-reverse [] x = no_records log.FollowsAfter
cyclic-reverse (Token q k ∷ h) x =
    subst log.IsCyclic (sym (reverse_push (Token q k) h))
    (each-push log.FollowsAfter (reverse h) (Token q k) (cyclic-reverse h x.1)
    (subst (λ p. log.Follows p (log.number_of (reverse h)) q k) (sym (phase_of-reverse h)) (subst (λ n. log.Follows (history_phase h) n q k) (sym (number_of-reverse h)) x.0)))
cyclic-reverse (Call s n p args o r ∷ h) x =
    subst log.IsCyclic (sym (reverse_push (Call s n p args o r) h)) (each-push log.FollowsAfter (reverse h) (Call s n p args o r) (cyclic-reverse h x) tt)

-- the records before a cut are the first ones
cut_off : (n : ℕ) (h : List Record) → (g : List Record) × (h ≡ g ++ before n h)
unfolding before
cut_off n [] = ([], refl)
cut_off n (Call s m p args o r ∷ h) = let (g, e) = cut_off n h in (Call s m p args o r ∷ g, ap (λ x. Call s m p args o r ∷ x) e)
cut_off n (Token Rest m ∷ h) = let (g, e) = cut_off n h in (Token Rest m ∷ g, ap (λ x. Token Rest m ∷ x) e)
cut_off n (Token Prepare m ∷ h) = let (g, e) = cut_off n h in (Token Prepare m ∷ g, ap (λ x. Token Prepare m ∷ x) e)
cut_off n (Token Capture m ∷ h) = let (g, e) = cut_off n h in (Token Capture m ∷ g, ap (λ x. Token Capture m ∷ x) e)
cut_off n (Token Complete m ∷ h) = let (g, e) = cut_off n h in (Token Complete m ∷ g, ap (λ x. Token Complete m ∷ x) e)
cut_off n (Token Resolve m ∷ h) = at (m == n) (cut_off n h)
  where
    at : (b : Bool) → (g : List Record) × (h ≡ g ++ before n h) → (g : List Record) × (Token Resolve m ∷ h ≡ g ++ cond b h (before n h))
    at true x = (Token Resolve m ∷ [], refl)
    at false (g, e) = (Token Resolve m ∷ g, ap (λ x. Token Resolve m ∷ x) e)

pub first_ones : (n : ℕ) (h : List Record) → take (length (before n h)) (reverse h) ≡ reverse (before n h)
first_ones n h =
    let (g, e) = cut_off n h in
    ap (λ x. take (length (before n h)) x) (ap reverse e ∙ reverse-append g (before n h))
    ∙ ap (λ j. take j (reverse (before n h) ++ reverse g)) (sym (length-reverse (before n h)))
    ∙ take-append_seam (reverse (before n h)) (reverse g)

pub before-length : (n : ℕ) (h : List Record) → length (before n h) ≤ length h
before-length n h = let (g, e) = cut_off n h in let l = length-append g (before n h) in let m = ap length e in omega arith
