-- The last finished checkpoint of a cyclic history is the greatest.
use Rattle.std.proofs.Common.{◌≡◌, ℕ, zero, suc, ◌+◌, ◌≤◌, ◌<◌, Bool, true, false, List, [], ◌∷◌, ◌++◌, length, take, drop, refl, sym, ap, ◌∙◌, subst, ◌⊎◌, inl, inr, arith, le_refl, le_trans, true≢false, append_assoc}
use Rattle.std.proofs.lemmas.List.{take-append-drop, length-take}
use Rattle.phase.specs.declared.phases.Phase.{Phase}
use Rattle.phase.specs.declared.phases.Phase.TheVariants.{Rest, Prepare, Resolve, Capture, Complete}
use Rattle.commitlog.specs.Records.{Record, Token, Call}
use Rattle.commitlog.specs.Histories.{phase_of, phase_after, number_of, number_after, Follows, FollowsAfter, IsCyclic}
use Rattle.commitlog.specs.Cuts.{Stands, HasCut, IsFinished, before_resolve, cut, last_finished, finished_after, finished_below}
use Rattle.commitlog.specs.Laws.{IsGreatest, IsGreatestBelow}
use Rattle.commitlog.proofs.Lists.{by_end}
use Rattle.commitlog.proofs.Histories.{each-front, each-last, each-take, phase_of-push, number_of-push, last_finished-push}
use Rattle.commitlog.proofs.Cuts.{stands-left, stands-right, stands-append, split_at, cut-front}

-- 1 where a checkpoint runs and isn't finished: its number is then above that of the last finished one
abbrev running : Phase → ℕ
running Rest = 0
running Prepare = 1
running Resolve = 1
running Capture = 1
running Complete = 0

abbrev token_finished : Phase → ℕ → ℕ → ℕ
token_finished p m f = finished_after f (Token p m)

below_token : (p q : Phase) (n m f : ℕ) → Follows p n q m → f + running p ≤ n → token_finished q m f + running q ≤ m
below_token Rest Prepare n m f g l = omega arith
below_token Prepare Resolve n m f g l = omega arith
below_token Resolve Capture n m f g l = omega arith
below_token Resolve Rest n m f g l = omega arith
below_token Capture Complete n m f g l = omega arith
below_token Capture Rest n m f g l = omega arith
below_token Complete Rest n m f g l = omega arith
below_token _ _ n m f g l = absurd g

abbrev Below : Phase → ℕ → ℕ → Type 0
Below p n f = f + running p ≤ n

abbrev Running : List Record → Type 0
Running l = IsCyclic l → Below (phase_of l) (number_of l) (last_finished l)

below_more : (l : List Record) (r : Record) → FollowsAfter l r → Below (phase_of l) (number_of l) (last_finished l) →
    Below (phase_after (phase_of l) r) (number_after (number_of l) r) (finished_after (last_finished l) r)
below_more l (Token q m) g b = below_token (phase_of l) q (number_of l) m (last_finished l) g b
below_more l (Call s n p args o r) g b = b

running_more : (l : List Record) (r : Record) → Running l → Running (l ++ r ∷ [])
running_more l r ih c =
    subst (λ p. Below p (number_of (l ++ r ∷ [])) (last_finished (l ++ r ∷ []))) (sym (phase_of-push l r))
    (subst (λ n. Below (phase_after (phase_of l) r) n (last_finished (l ++ r ∷ []))) (sym (number_of-push l r))
    (subst (λ f. Below (phase_after (phase_of l) r) (number_after (number_of l) r) f) (sym (last_finished-push l r))
    (below_more l r (each-last FollowsAfter l r [] c) (ih (each-front FollowsAfter l (r ∷ []) c)))))

running_none : Running []
unfolding phase_of number_of last_finished
running_none c = le_refl 0

pub finished_and_running : (l : List Record) → Running l
finished_and_running l = by_end Running running_none running_more l

-- the last finished checkpoint is a finished one
abbrev LastStands : List Record → Type 0
LastStands l = (last_finished l ≡ 0) ⊎ IsFinished l (last_finished l)

stands_on : (l : List Record) (r : Record) → LastStands l → (last_finished l ≡ 0) ⊎ IsFinished (l ++ r ∷ []) (last_finished l)
stands_on l r (inl e) = inl e
stands_on l r (inr s) = inr (stands-left (Token Complete (last_finished l)) l (r ∷ []) s)

last_more : (l : List Record) (r : Record) → LastStands l → (finished_after (last_finished l) r ≡ 0) ⊎ IsFinished (l ++ r ∷ []) (finished_after (last_finished l) r)
last_more l (Token Complete n) h = inr (stands-right (Token Complete n) l (Token Complete n ∷ []) (inl refl))
last_more l (Token Rest n) h = stands_on l (Token Rest n) h
last_more l (Token Prepare n) h = stands_on l (Token Prepare n) h
last_more l (Token Resolve n) h = stands_on l (Token Resolve n) h
last_more l (Token Capture n) h = stands_on l (Token Capture n) h
last_more l (Call s n p args o r) h = stands_on l (Call s n p args o r) h

last_none : LastStands []
unfolding last_finished
last_none = inl refl

pub last_stands : (l : List Record) → LastStands l
last_stands l = by_end LastStands last_none (λ xs x h. subst (λ f. (f ≡ 0) ⊎ IsFinished (xs ++ x ∷ []) f) (sym (last_finished-push xs x)) (last_more xs x h)) l

-- no other is greater
abbrev NoGreater : List Record → Type 0
NoGreater l = IsCyclic l → (n : ℕ) → IsFinished l n → n ≤ last_finished l

up_at_token : (p q : Phase) (n m f : ℕ) → Follows p n q m → f + running p ≤ n → f ≤ token_finished q m f
up_at_token p Rest n m f g l = le_refl f
up_at_token p Prepare n m f g l = le_refl f
up_at_token p Resolve n m f g l = le_refl f
up_at_token p Capture n m f g l = le_refl f
up_at_token Capture Complete n m f g l = omega arith
up_at_token Rest Complete n m f g l = absurd g
up_at_token Prepare Complete n m f g l = absurd g
up_at_token Resolve Complete n m f g l = absurd g
up_at_token Complete Complete n m f g l = absurd g

up_more : (l : List Record) (r : Record) → FollowsAfter l r → Below (phase_of l) (number_of l) (last_finished l) → last_finished l ≤ finished_after (last_finished l) r
up_more l (Token q m) g b = up_at_token (phase_of l) q (number_of l) m (last_finished l) g b
up_more l (Call s n p args o r) g b = le_refl _

own_last : (n f : ℕ) (r : Record) → r ≡ Token Complete n → n ≤ finished_after f r
own_last n f r e = subst (λ x. n ≤ finished_after f x) (sym e) (le_refl n)

no_greater_more : (l : List Record) (r : Record) → NoGreater l → NoGreater (l ++ r ∷ [])
no_greater_more l r ih c n s = subst (λ f. n ≤ f) (sym (last_finished-push l r)) (in_part (stands-append (Token Complete n) l (r ∷ []) s))
  where
    front : IsCyclic l
    front = each-front FollowsAfter l (r ∷ []) c

    in_part : Stands (Token Complete n) l ⊎ Stands (Token Complete n) (r ∷ []) → n ≤ finished_after (last_finished l) r
    in_part (inl x) = le_trans (ih front n x) (up_more l r (each-last FollowsAfter l r [] c) (finished_and_running l front))
    in_part (inr (inl e)) = own_last n (last_finished l) r e
    in_part (inr (inr x)) = absurd x

pub no_greater : (l : List Record) → NoGreater l
no_greater l = by_end NoGreater (λ c n s. absurd s) no_greater_more l

-- where a cut was made, its resolve token is there
abbrev is_cut : Phase → Bool
is_cut Rest = false
is_cut Prepare = false
is_cut Resolve = true
is_cut Capture = true
is_cut Complete = true

abbrev Resolved : List Record → Type 0
Resolved l = IsCyclic l → is_cut (phase_of l) ≡ true → Stands (Token Resolve (number_of l)) l

resolved_token : (l : List Record) (p q : Phase) (n m : ℕ) → Follows p n q m → is_cut q ≡ true → (is_cut p ≡ true → Stands (Token Resolve n) l) → Stands (Token Resolve m) (l ++ Token q m ∷ [])
resolved_token l p Resolve n m g e x = stands-right (Token Resolve m) l (Token Resolve m ∷ []) (inl refl)
resolved_token l Resolve Capture n m g e x = stands-left (Token Resolve m) l _ (subst (λ k. Stands (Token Resolve k) l) (sym g) (x refl))
resolved_token l Capture Complete n m g e x = stands-left (Token Resolve m) l _ (subst (λ k. Stands (Token Resolve k) l) (sym g) (x refl))
resolved_token l p Rest n m g e x = absurd (true≢false (sym e))
resolved_token l p Prepare n m g e x = absurd (true≢false (sym e))
resolved_token l _ Capture n m g e x = absurd g
resolved_token l _ Complete n m g e x = absurd g

resolved_after : (l : List Record) (r : Record) → FollowsAfter l r → (is_cut (phase_of l) ≡ true → Stands (Token Resolve (number_of l)) l) → is_cut (phase_after (phase_of l) r) ≡ true →
    Stands (Token Resolve (number_after (number_of l) r)) (l ++ r ∷ [])
resolved_after l (Token q m) g x e = resolved_token l (phase_of l) q (number_of l) m g e x
resolved_after l (Call s n p args o r) g x e = stands-left (Token Resolve (number_of l)) l _ (x e)

resolved_more : (l : List Record) (r : Record) → Resolved l → Resolved (l ++ r ∷ [])
resolved_more l r ih c e =
    subst (λ n. Stands (Token Resolve n) (l ++ r ∷ [])) (sym (number_of-push l r))
    (resolved_after l r (each-last FollowsAfter l r [] c) (ih (each-front FollowsAfter l (r ∷ []) c)) (ap is_cut (sym (phase_of-push l r)) ∙ e))

resolved_none : Resolved []
unfolding phase_of
resolved_none c e = absurd (true≢false (sym e))

resolved_here : (l : List Record) → Resolved l
resolved_here l = by_end Resolved resolved_none resolved_more l

-- a finished checkpoint was resolved
abbrev FinishedWasResolved : List Record → Type 0
FinishedWasResolved l = IsCyclic l → (n : ℕ) → IsFinished l n → Stands (Token Resolve n) l

from_capture : (p : Phase) (n m : ℕ) (l : List Record) → Follows p n Complete m → (is_cut p ≡ true → Stands (Token Resolve n) l) → Stands (Token Resolve m) l
from_capture Capture n m l g x = subst (λ k. Stands (Token Resolve k) l) (sym g) (x refl)
from_capture Rest n m l g x = absurd g
from_capture Prepare n m l g x = absurd g
from_capture Resolve n m l g x = absurd g
from_capture Complete n m l g x = absurd g

was_resolved_more : (l : List Record) (r : Record) → FinishedWasResolved l → FinishedWasResolved (l ++ r ∷ [])
was_resolved_more l r ih c n s = stands-left (Token Resolve n) l (r ∷ []) (in_part (stands-append (Token Complete n) l (r ∷ []) s))
  where
    front : IsCyclic l
    front = each-front FollowsAfter l (r ∷ []) c

    in_part : Stands (Token Complete n) l ⊎ Stands (Token Complete n) (r ∷ []) → Stands (Token Resolve n) l
    in_part (inl x) = ih front n x
    in_part (inr (inl e)) = from_capture (phase_of l) (number_of l) n l (subst (FollowsAfter l) e (each-last FollowsAfter l r [] c)) (resolved_here l front)
    in_part (inr (inr x)) = absurd x

pub was_resolved : (l : List Record) → FinishedWasResolved l
was_resolved l = by_end FinishedWasResolved (λ c n s. absurd s) was_resolved_more l

-- the numbers of tokens don't fall
up_token : (p q : Phase) (n m : ℕ) → Follows p n q m → n ≤ m
up_token Rest Prepare n m g = omega arith
up_token Prepare Resolve n m g = omega arith
up_token Resolve Capture n m g = omega arith
up_token Resolve Rest n m g = omega arith
up_token Capture Complete n m g = omega arith
up_token Capture Rest n m g = omega arith
up_token Complete Rest n m g = omega arith
up_token _ _ n m g = absurd g

up_record : (l : List Record) (r : Record) → FollowsAfter l r → number_of l ≤ number_after (number_of l) r
up_record l (Token q m) g = up_token (phase_of l) q (number_of l) m g
up_record l (Call s n p args o r) g = le_refl _

token_number : (p : Phase) (k n : ℕ) (r : Record) → r ≡ Token p k → number_after n r ≡ k
token_number p k n r e = ap (number_after n) e

pub later_no_less : (n : ℕ) (l m : List Record) → IsCyclic (l ++ m) → n ≤ number_of l → (k : ℕ) → IsFinished m k → n ≤ k
later_no_less n l [] c b k s = absurd s
later_no_less n l (r ∷ m) c b k s = in_part s (later_no_less n (l ++ r ∷ []) m)
  where
    here : IsCyclic ((l ++ r ∷ []) ++ m)
    here = subst IsCyclic (sym (append_assoc l (r ∷ []) m)) c

    up : n ≤ number_of (l ++ r ∷ [])
    up = subst (λ x. n ≤ x) (sym (number_of-push l r)) (le_trans b (up_record l r (each-last FollowsAfter l r m c)))

    in_part : (r ≡ Token Complete k) ⊎ Stands (Token Complete k) m → (IsCyclic ((l ++ r ∷ []) ++ m) → n ≤ number_of (l ++ r ∷ []) → (k : ℕ) → IsFinished m k → n ≤ k) → n ≤ k
    in_part (inl e) ih = subst (λ x. n ≤ x) (number_of-push l r ∙ token_number Complete k (number_of l) r e) up
    in_part (inr x) ih = ih here up k x

pub greatest : (l : List Record) → IsCyclic l → IsGreatest l
greatest l c = record { finished = last_stands l; greatest = no_greater l c }

abbrev is_complete : Record → Bool
is_complete (Token Complete n) = true
is_complete (Token Rest n) = false
is_complete (Token Prepare n) = false
is_complete (Token Resolve n) = false
is_complete (Token Capture n) = false
is_complete (Call s n p args o r) = false

resolve_or_complete : {n k : ℕ} → Token Resolve n ≡ Token Complete k → ⊥
resolve_or_complete e = true≢false (sym (ap is_complete e))

-- the checkpoint that is resolved comes from prepare
from_prepare : (p : Phase) (k n f : ℕ) → Follows p k Resolve n → f + running p ≤ k → f < n
from_prepare Prepare k n f g l = omega arith
from_prepare Rest k n f g l = absurd g
from_prepare Resolve k n f g l = absurd g
from_prepare Capture k n f g l = absurd g
from_prepare Complete k n f g l = absurd g

module _ (n : ℕ) (f m : List Record) (c : IsCyclic (f ++ Token Resolve n ∷ m)) where
  front_cyclic : IsCyclic f
  front_cyclic = each-front FollowsAfter f (Token Resolve n ∷ m) c

  up_to_resolve : IsCyclic ((f ++ Token Resolve n ∷ []) ++ m)
  up_to_resolve = subst IsCyclic (sym (append_assoc f (Token Resolve n ∷ []) m)) c

  number_there : n ≤ number_of (f ++ Token Resolve n ∷ [])
  number_there = subst (λ x. n ≤ x) (sym (number_of-push f (Token Resolve n))) (le_refl n)

  pub last_is_below : last_finished f < n
  last_is_below = from_prepare (phase_of f) (number_of f) n (last_finished f) (each-last FollowsAfter f (Token Resolve n) m c) (finished_and_running f front_cyclic)

  pub greatest_there : (k : ℕ) → k < n → IsFinished (f ++ Token Resolve n ∷ m) k → k ≤ last_finished f
  greatest_there k w s = in_part (stands-append (Token Complete k) f (Token Resolve n ∷ m) s)
    where
      in_part : Stands (Token Complete k) f ⊎ Stands (Token Complete k) (Token Resolve n ∷ m) → k ≤ last_finished f
      in_part (inl x) = no_greater f front_cyclic k x
      in_part (inr (inl e)) = absurd (resolve_or_complete e)
      in_part (inr (inr x)) = let b : n ≤ k = later_no_less n (f ++ Token Resolve n ∷ []) m up_to_resolve number_there k x in absurd (omega arith)

  pub finished_there : (last_finished f ≡ 0) ⊎ IsFinished (f ++ Token Resolve n ∷ m) (last_finished f)
  finished_there = or_left (last_stands f)
    where
      or_left : LastStands f → (last_finished f ≡ 0) ⊎ IsFinished (f ++ Token Resolve n ∷ m) (last_finished f)
      or_left (inl e) = inl e
      or_left (inr s) = inr (stands-left (Token Complete (last_finished f)) f (Token Resolve n ∷ m) s)

pub greatest_below : (l : List Record) → IsCyclic l → (n : ℕ) → 0 < n → HasCut l n → IsGreatestBelow l n
greatest_below l c zero z h = absurd (omega arith)
greatest_below l c (suc n) z (inl e) = absurd (omega arith)
greatest_below l c (suc n) z (inr s) =
    record {
      finished = there;
      below = last_is_below (suc n) front rest cyclic;
      greatest = λ m w x. greatest_there (suc n) front rest cyclic m w (subst (λ k. IsFinished k m) parts x);
      has_cut = cut_of there;
    }
  where
    front : List Record
    front = take (before_resolve (suc n) l) l

    rest : List Record
    rest = (split_at (suc n) l s).0

    parts : l ≡ front ++ Token Resolve (suc n) ∷ rest
    parts = (split_at (suc n) l s).1

    cyclic : IsCyclic (front ++ Token Resolve (suc n) ∷ rest)
    cyclic = subst IsCyclic parts c

    there : (last_finished front ≡ 0) ⊎ IsFinished l (last_finished front)
    there = subst (λ k. (last_finished front ≡ 0) ⊎ IsFinished k (last_finished front)) (sym parts) (finished_there (suc n) front rest cyclic)

    cut_of : (last_finished front ≡ 0) ⊎ IsFinished l (last_finished front) → HasCut l (last_finished front)
    cut_of (inl e) = inl e
    cut_of (inr x) = inr (was_resolved l c (last_finished front) x)

pub base_has_cut : (l : List Record) → IsCyclic l → (n : ℕ) → HasCut l n → HasCut l (finished_below l n)
unfolding last_finished
base_has_cut l c zero h = inl refl
base_has_cut l c (suc n) h = (greatest_below l c (suc n) (omega arith) h).has_cut

-- the checkpoint that was finished before a cut has its own cut before it
pub base_is_before : (l : List Record) → IsCyclic l → (n : ℕ) → cut l (finished_below l n) ≤ cut l n
base_is_before l c n =
    subst (λ z. cut z (last_finished front) ≤ cut l n) (take-append-drop (cut l n) l)
    (subst (λ x. x ≤ cut l n) (sym (cut-front front (drop (cut l n) l) (last_finished front) cut_of).0)
    (le_trans (cut-front front (drop (cut l n) l) (last_finished front) cut_of).1 short))
  where
    front : List Record
    front = take (cut l n) l

    short : length front ≤ cut l n
    short = let e = length-take (cut l n) l in omega arith

    cut_of : HasCut front (last_finished front)
    cut_of = or_resolved (last_stands front)
      where
        or_resolved : (last_finished front ≡ 0) ⊎ IsFinished front (last_finished front) → HasCut front (last_finished front)
        or_resolved (inl e) = inl e
        or_resolved (inr x) = inr (was_resolved front (each-take FollowsAfter l (cut l n) c) (last_finished front) x)
