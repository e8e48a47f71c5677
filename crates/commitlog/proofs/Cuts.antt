-- Cuts, in a longer history.
use Rattle.std.proofs.Common.{◌≡◌, ℕ, zero, suc, ◌≤◌, ◌<◌, Bool, true, false, cond, List, [], ◌∷◌, ◌++◌, length, take, refl, sym, ap, ◌∙◌, ◌⊎◌, inl, inr, arith, true≢false}
use Rattle.std.specs.Prelude.{slice_range}
use Rattle.std.proofs.lemmas.Bool.{eq-eqb, eqb-true}
use Rattle.std.proofs.lemmas.List.{take-append-le}
use Rattle.phase.specs.declared.phases.Phase.TheVariants.{Rest, Prepare, Resolve, Capture, Complete}
use Rattle.procedure.specs.Table.{Table}
use Rattle.procedure.specs.Procedures.{Procedure}
use Rattle.commitlog.specs.Records.{Record, Token, Call}
use Rattle.commitlog.specs.Histories.{after}
use Rattle.commitlog.specs.Cuts.{Stands, HasCut, resolves, before_resolve, cut, last_finished, written_from}
use Rattle.commitlog.specs.Laws.{KeepsCut}
use Rattle.commitlog.proofs.Lists.{range-front}

pub stands-left : (x : Record) (l m : List Record) → Stands x l → Stands x (l ++ m)
stands-left x [] m s = absurd s
stands-left x (r ∷ l) m (inl e) = inl e
stands-left x (r ∷ l) m (inr s) = inr (stands-left x l m s)

pub stands-right : (x : Record) (l m : List Record) → Stands x m → Stands x (l ++ m)
stands-right x [] m s = s
stands-right x (r ∷ l) m s = inr (stands-right x l m s)

pub stands-append : (x : Record) (l m : List Record) → Stands x (l ++ m) → Stands x l ⊎ Stands x m
stands-append x [] m s = inr s
stands-append x (r ∷ l) m (inl e) = inl (inl e)
stands-append x (r ∷ l) m (inr s) = or_later (stands-append x l m s)
  where
    or_later : Stands x l ⊎ Stands x m → Stands x (r ∷ l) ⊎ Stands x m
    or_later (inl y) = inl (inr y)
    or_later (inr y) = inr y

own_resolve : (n : ℕ) → resolves n (Token Resolve n) ≡ true
own_resolve n = eq-eqb n n refl

-- a resolve token that stands in the front is found there
pub found_in_front : (n : ℕ) (l m : List Record) → Stands (Token Resolve n) l → (before_resolve n (l ++ m) ≡ before_resolve n l) × (before_resolve n l < length l)
found_in_front n [] m s = absurd s
found_in_front n (r ∷ l) m s = first (resolves n r) refl (found_in_front n l m)
  where
    Found : Type 0
    Found = (before_resolve n (l ++ m) ≡ before_resolve n l) × (before_resolve n l < length l)

    later : resolves n r ≡ false → Stands (Token Resolve n) (r ∷ l) → Stands (Token Resolve n) l
    later f (inl e) = absurd (true≢false (sym (own_resolve n) ∙ ap (resolves n) (sym e) ∙ f))
    later f (inr x) = x

    first : (b : Bool) → resolves n r ≡ b → (Stands (Token Resolve n) l → Found) → (cond b 0 (suc (before_resolve n (l ++ m))) ≡ cond b 0 (suc (before_resolve n l))) ×
        (cond b 0 (suc (before_resolve n l)) < suc (length l))
    first true e ih = (refl, omega arith)
    first false e ih = let h = ih (later e s) in (ap suc h.0, let w = h.1 in omega arith)

-- a history, where it has a resolve token of n: before it, it, and the rest
abbrev pub SplitAt : ℕ → List Record → Type 0
SplitAt n l = (m : List Record) × (l ≡ take (before_resolve n l) l ++ Token Resolve n ∷ m)

is_the_resolve : (n : ℕ) (r : Record) → resolves n r ≡ true → r ≡ Token Resolve n
is_the_resolve n (Token Resolve m) e = ap (λ k. Token Resolve k) (eqb-true m n e)
is_the_resolve n (Token Rest m) e = absurd (true≢false (sym e))
is_the_resolve n (Token Prepare m) e = absurd (true≢false (sym e))
is_the_resolve n (Token Capture m) e = absurd (true≢false (sym e))
is_the_resolve n (Token Complete m) e = absurd (true≢false (sym e))
is_the_resolve n (Call s m p args o r) e = absurd (true≢false (sym e))

pub split_at : (n : ℕ) (l : List Record) → Stands (Token Resolve n) l → SplitAt n l
split_at n [] s = absurd s
split_at n (r ∷ l) s = first (resolves n r) refl (split_at n l)
  where
    later : resolves n r ≡ false → Stands (Token Resolve n) (r ∷ l) → Stands (Token Resolve n) l
    later f (inl e) = absurd (true≢false (sym (own_resolve n) ∙ ap (resolves n) (sym e) ∙ f))
    later f (inr x) = x

    first : (b : Bool) → resolves n r ≡ b → (Stands (Token Resolve n) l → SplitAt n l) → (m : List Record) × (r ∷ l ≡ take (cond b 0 (suc (before_resolve n l))) (r ∷ l) ++ Token Resolve n ∷ m)
    first true e ih = (l, ap (λ x. x ∷ l) (is_the_resolve n r e))
    first false e ih = let h = ih (later e s) in (h.0, ap (λ k. r ∷ k) h.1)

-- the cut of a history stays as it grows
pub cut-front : (l m : List Record) (n : ℕ) → HasCut l n → (cut (l ++ m) n ≡ cut l n) × (cut l n ≤ length l)
cut-front l m zero h = (refl, omega arith)
cut-front l m (suc n) (inl e) = absurd (omega arith)
cut-front l m (suc n) (inr s) = let f = found_in_front (suc n) l m s in (f.0, let w = f.1 in omega arith)

has_cut-front : (l m : List Record) (n : ℕ) → HasCut l n → HasCut (l ++ m) n
has_cut-front l m n (inl e) = inl e
has_cut-front l m n (inr s) = inr (stands-left (Token Resolve n) l m s)

take-front : (l m : List Record) (n : ℕ) → HasCut l n → take (cut (l ++ m) n) (l ++ m) ≡ take (cut l n) l
take-front l m n h = let f = cut-front l m n h in ap (λ k. take k (l ++ m)) f.0 ∙ take-append-le (cut l n) l m f.1

pub keeps_cut : (c : List Procedure) (t : Table) (l m : List Record) (n : ℕ) → HasCut l n → KeepsCut c t l m n
keeps_cut c t l m n h =
    let f = cut-front l m n h in
    record {
      within = f.1;
      stays = has_cut-front l m n h;
      place = f.0;
      table = ap (after c t) (take-front l m n h);
      base = ap last_finished (take-front l m n h);
      keys = λ i q w. ap (λ k. written_from c (after c t k) (slice_range (l ++ m) i (cut l n)) q) (take-append-le i l m (let x = f.1 in omega arith)) ∙
          ap (λ k. written_from c (after c t (take i l)) k q) (range-front l m i (cut l n) w f.1);
    }
