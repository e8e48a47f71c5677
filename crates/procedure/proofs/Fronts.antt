-- A machine and its changes, alone on a table, are a front of the run.
use Rattle.std.proofs.Common.{◌≡◌, ℕ, suc, Bool, true, false, cond, List, [], ◌∷◌, Option, Some, None, refl, sym, ap, ◌∙◌, option_map, length, ◌<◌, arith}
use Rattle.std.specs.FinMap as map
use Rattle.procedure.specs.Bytes.{Bytes, Cell}
use Rattle.procedure.specs.Table.{Table, Changes, no_changes, with_change, with_change_of}
use Rattle.procedure.specs.Needs.{Need, Update, read_of, write_of, no_need, ended_with, to_put, to_insert, to_delete, touch_of, becomes_of, change_of, updated}
use Rattle.procedure.specs.declared.needs.Need.TheVariants.{Own, Ended}
use Rattle.procedure.specs.declared.needs.Need.TheVariants as asked
use Rattle.procedure.specs.Procedures.{Instruction, Read, Put, Insert, Delete, Add, Sub, AbortIf, need, Effect, effect, operand_value, as_number, holds, reading, putting, inserting, deleting, adding, subtracting}
use Rattle.procedure.specs.Runs.{Progress, Execution, Front, at_start, front, whole, next_need, need_at, next_touch, next_becomes, becomes_at, advanced, advanced_at, advanced_alone, changes_alone, changes_after, change_to, seen_at, ended, is_nil}
use Rattle.procedure.specs.Fronts.{IsFront, IsEnd}
use Rattle.procedure.proofs.Ending.{progress-fed, changes-fed, next_touch-progress, front_whole, rest-did}

-- no instruction asks as if the call had ended
read_goes_on : (o : Option Bytes) (c : ℕ) → read_of o ≡ Ended c → ⊥
read_goes_on None c e = cc
read_goes_on (Some k) c e = cc

write_goes_on : (o : Option Bytes) (u : Option (Update Bytes)) (c : ℕ) → write_of o u ≡ Ended c → ⊥
write_goes_on None u c e = cc
write_goes_on (Some k) None c e = cc
write_goes_on (Some k) (Some u) c e = cc

own_goes_on : (c : ℕ) → no_need ≡ Ended c → ⊥
own_goes_on c e = cc

need_goes_on : (i : Instruction) (args : List Bytes) (rs : List Cell) (c : ℕ) → need i args rs ≡ Ended c → ⊥
unfolding need
need_goes_on (Read r k) args rs c e = read_goes_on _ c e
need_goes_on (Put k v) args rs c e = write_goes_on _ _ c e
need_goes_on (Insert k v) args rs c e = write_goes_on _ _ c e
need_goes_on (Delete k) args rs c e = write_goes_on _ _ c e
need_goes_on (Add r x y) args rs c e = own_goes_on c e
need_goes_on (Sub r x y) args rs c e = own_goes_on c e
need_goes_on (AbortIf t d) args rs c e = own_goes_on c e

same_outcome : (a b : ℕ) → ended_with a ≡ Ended b → a ≡ b
same_outcome a b e = cc

-- the need tells whether the call has ended
ended_at : (args : List Bytes) (p : Progress) (c : ℕ) (r : List Instruction) → need_at args p r ≡ Ended c → cond (is_nil r) (Some p.outcome) None ≡ Some c
ended_at args p c [] e = ap Some (same_outcome p.outcome c e)
ended_at args p c (i ∷ is) e = absurd (need_goes_on i args p.registers c e)

pub need_ended : (args : List Bytes) (p : Progress) (c : ℕ) → next_need args p ≡ Ended c → ended p ≡ Some c
unfolding next_need
need_ended args p c e = ended_at args p c p.rest e

going_at : (args : List Bytes) (p : Progress) (r : List Instruction) → ((c : ℕ) → need_at args p r ≡ Ended c → ⊥) → cond (is_nil r) (Some p.outcome) None ≡ None
going_at args p [] h = absurd (h p.outcome refl)
going_at args p (i ∷ is) h = refl

pub need_going : (args : List Bytes) (p : Progress) → ((c : ℕ) → next_need args p ≡ Ended c → ⊥) → ended p ≡ None
unfolding next_need
need_going args p h = going_at args p p.rest h

-- a call that has ended stays as it is
past_at : (args : List Bytes) (p : Progress) (found : Cell) (c : ℕ) (r : List Instruction) → need_at args p r ≡ Ended c → advanced_at args p found r ≡ p
past_at args p found c [] e = refl
past_at args p found c (i ∷ is) e = absurd (need_goes_on i args p.registers c e)

pub alone_past : (args : List Bytes) (t : Table) (p : Progress) (d : Changes) (c : ℕ) → next_need args p ≡ Ended c → advanced_alone args t p d ≡ p
unfolding next_need advanced advanced_alone
alone_past args t p d c e = past_at args p (seen_at d t (touch_of (next_need args p))) c p.rest e

pub changes_past : (args : List Bytes) (t : Table) (p : Progress) (d : Changes) (c : ℕ) → next_need args p ≡ Ended c → changes_alone args t p d ≡ d
unfolding changes_alone
changes_past args t p d c e = ap (λ n. changes_after (touch_of n) (becomes_of n (seen_at d t (touch_of n))) d) e

-- the change that a need makes
noted_to : (d : Changes) (k : Bytes) (o : Option Cell) → with_change_of d (option_map {U = Bytes × Cell} (λ y. (k, y)) o) ≡ change_to d k o
unfolding with_change
noted_to d k None = refl
noted_to d k (Some y) = refl

noted : (d : Changes) (n : Need Bytes) (found : Cell) → with_change_of d (change_of n found) ≡ changes_after (touch_of n) (becomes_of n found) d
noted d (asked.Read k) found = refl
noted d (asked.Write k u) found = noted_to d k (updated u found)
noted d Own found = refl
noted d (Ended c) found = refl

-- one instruction, by the need that was asked
module _ (args : List Bytes) (t : Table) (p : Progress) (d : Changes) (n : Need Bytes) (asks : n ≡ next_need args p) where
  pub goes_alone : advanced args p (seen_at d t (touch_of n)) ≡ advanced_alone args t p d
  unfolding advanced_alone
  goes_alone = ap (λ m. advanced args p (seen_at d t (touch_of m))) asks

  pub noted_alone : with_change_of d (change_of n (seen_at d t (touch_of n))) ≡ changes_alone args t p d
  unfolding changes_alone
  noted_alone = noted d n (seen_at d t (touch_of n)) ∙ ap (λ m. changes_after (touch_of m) (becomes_of m (seen_at d t (touch_of m))) d) asks

-- a call that has ended stays as it is, and one that goes on has fewer instructions left
some_end : (b : Bool) (o c : ℕ) → cond b (Some o) None ≡ Some c → b ≡ true
some_end true o c e = refl
some_end false o c e = absurd cc

no_end : (b : Bool) (o : ℕ) → cond b (Some o) None ≡ None → b ≡ false
no_end true o e = absurd cc
no_end false o e = refl

stays_at : (args : List Bytes) (p : Progress) (found : Cell) (r : List Instruction) → is_nil r ≡ true → advanced_at args p found r ≡ p
stays_at args p found [] e = refl
stays_at args p found (i ∷ is) e = absurd cc

pub advanced_stays : (args : List Bytes) (p : Progress) (found : Cell) (c : ℕ) → ended p ≡ Some c → advanced args p found ≡ p
unfolding advanced
advanced_stays args p found c e = stays_at args p found p.rest (some_end (is_nil p.rest) p.outcome c e)

pub alone_stays : (args : List Bytes) (t : Table) (p : Progress) (d : Changes) (c : ℕ) → ended p ≡ Some c → advanced_alone args t p d ≡ p
unfolding advanced_alone
alone_stays args t p d c e = advanced_stays args p (seen_at d t (touch_of (next_need args p))) c e

falls_at : (args : List Bytes) (p : Progress) (found : Cell) (r : List Instruction) → is_nil r ≡ false → length (advanced_at args p found r).rest < length r
falls_at args p found [] e = absurd cc
falls_at args p found (i ∷ is) e = let h = rest-did (effect i args p.registers found).ends is in omega arith

pub advanced_falls : (args : List Bytes) (p : Progress) (found : Cell) → ended p ≡ None → length (advanced args p found).rest < length p.rest
unfolding advanced
advanced_falls args p found e = falls_at args p found p.rest (no_end (is_nil p.rest) p.outcome e)

pub rest_falls : (args : List Bytes) (t : Table) (p : Progress) (d : Changes) → ended p ≡ None → length (advanced_alone args t p d).rest < length p.rest
unfolding advanced_alone
rest_falls args t p d e = advanced_falls args p (seen_at d t (touch_of (next_need args p))) e

-- what an instruction makes of its key is what its need says
reading_becomes : (rs : List Cell) (r : ℕ) (k : Option Bytes) (found : Cell) → (reading rs r k found).becomes ≡ becomes_of (read_of k) found
reading_becomes rs r None found = refl
reading_becomes rs r (Some k) found = refl

putting_becomes : (rs : List Cell) (k : Option Bytes) (v found : Cell) → (putting rs k v).becomes ≡ becomes_of (write_of k (option_map to_put v)) found
putting_becomes rs None v found = refl
putting_becomes rs (Some k) None found = refl
putting_becomes rs (Some k) (Some v) found = refl

inserting_becomes : (rs : List Cell) (k : Option Bytes) (v found : Cell) → (inserting rs k v found).becomes ≡ becomes_of (write_of k (option_map to_insert v)) found
inserting_becomes rs None v found = refl
inserting_becomes rs (Some k) None found = refl
inserting_becomes rs (Some k) (Some v) None = refl
inserting_becomes rs (Some k) (Some v) (Some w) = refl

deleting_becomes : (rs : List Cell) (k : Option Bytes) (found : Cell) → (deleting rs k found).becomes ≡ becomes_of (write_of k (Some to_delete)) found
deleting_becomes rs None found = refl
deleting_becomes rs (Some k) None = refl
deleting_becomes rs (Some k) (Some w) = refl

pub either_becomes : (b : Bool) (e f : Effect) → e.becomes ≡ None → f.becomes ≡ None → (cond b e f).becomes ≡ None
either_becomes true e f p q = p
either_becomes false e f p q = q

pub adding_becomes : (rs : List Cell) (r : ℕ) (x y : Option ℕ) → (adding rs r x y).becomes ≡ None
adding_becomes rs r None y = refl
adding_becomes rs r (Some x) None = refl
adding_becomes rs r (Some x) (Some y) = either_becomes _ _ _ refl refl

pub subtracting_becomes : (rs : List Cell) (r : ℕ) (x y : Option ℕ) → (subtracting rs r x y).becomes ≡ None
subtracting_becomes rs r None y = refl
subtracting_becomes rs r (Some x) None = refl
subtracting_becomes rs r (Some x) (Some y) = either_becomes _ _ _ refl refl

pub effect-becomes : (i : Instruction) (args : List Bytes) (rs : List Cell) (found : Cell) → (effect i args rs found).becomes ≡ becomes_of (need i args rs) found
unfolding effect need
effect-becomes (Read r k) args rs found = reading_becomes rs r _ found
effect-becomes (Put k v) args rs found = putting_becomes rs _ _ found
effect-becomes (Insert k v) args rs found = inserting_becomes rs _ _ found
effect-becomes (Delete k) args rs found = deleting_becomes rs _ found
effect-becomes (Add r x y) args rs found = adding_becomes rs r (as_number (operand_value x args rs)) (as_number (operand_value y args rs))
effect-becomes (Sub r x y) args rs found = subtracting_becomes rs r (as_number (operand_value x args rs)) (as_number (operand_value y args rs))
effect-becomes (AbortIf t c) args rs found = either_becomes (holds t args rs) _ _ refl refl

becomes_need : (args : List Bytes) (f : Front) (found : Cell) (r : List Instruction) → becomes_at args f found r ≡ becomes_of (need_at args f.progress r) found
becomes_need args f found [] = refl
becomes_need args f found (i ∷ is) = effect-becomes i args f.registers found

next_becomes-need : (args : List Bytes) (f : Front) (found : Cell) → next_becomes args f found ≡ becomes_of (next_need args f.progress) found
unfolding next_becomes next_need
next_becomes-need args f found = becomes_need args f found f.rest

module _ (code : List Instruction) (args : List Bytes) (t : Table) where
  pub front_start : (x : Execution) (d : Changes) → x ≡ record { args = args; progress = at_start code } → d ≡ map.empty → IsFront code x.args t x d
  unfolding front no_changes
  front_start x d e f =
      record { count = 0; same_args = refl; progress = ap (λ (y : Execution). y.progress) e; changes = f }

  front_progress : (m : ℕ) → (front code args t (suc m)).progress ≡ (let f = front code args t m in advanced_alone args t f.progress f.changes)
  unfolding front advanced_alone
  front_progress m =
      let f = front code args t m in
      progress-fed args f (seen_at f.changes t (next_touch args f))
      ∙ ap (λ n. advanced args f.progress (seen_at f.changes t n)) (next_touch-progress args f)

  front_changes : (m : ℕ) → (front code args t (suc m)).changes ≡ (let f = front code args t m in changes_alone args t f.progress f.changes)
  unfolding front changes_alone
  front_changes m =
      let f = front code args t m in
      changes-fed args f (seen_at f.changes t (next_touch args f))
      ∙ ap (λ x. changes_after (next_touch args f) x f.changes) (next_becomes-need args f (seen_at f.changes t (next_touch args f)))
      ∙ ap (λ n. changes_after n (becomes_of (next_need args f.progress) (seen_at f.changes t n)) f.changes) (next_touch-progress args f)

  pub front_step : (x y : Execution) (d e : Changes) → IsFront code args t x d → y.args ≡ x.args → y.progress ≡ advanced_alone x.args t x.progress d → e ≡ changes_alone x.args t x.progress d →
      IsFront code args t y e
  front_step x y d e h a p c =
      record {
        count = suc h.count;
        same_args = a ∙ h.same_args;
        progress = p ∙ (λ i. advanced_alone (h.same_args i) t (h.progress i) (h.changes i)) ∙ sym (front_progress h.count);
        changes = c ∙ (λ i. changes_alone (h.same_args i) t (h.progress i) (h.changes i)) ∙ sym (front_changes h.count);
      }

  some_ended : (b : Bool) (o c : ℕ) → cond b (Some o) None ≡ Some c → (b ≡ true) × (o ≡ c)
  some_ended true o c e = (refl, cc)
  some_ended false o c e = absurd cc

  -- once it has ended, it is the whole run
  pub front_end : (x : Execution) (d : Changes) → IsFront code args t x d → (c : ℕ) → ended x.progress ≡ Some c → IsEnd code args t x d c
  front_end x d h c e =
      let (nil, outcome) = some_ended (is_nil x.progress.rest) x.progress.outcome c e in
      let all : whole code args t ≡ front code args t h.count = front_whole code args t h.count (ap (λ (p : Progress). is_nil p.rest) (sym h.progress) ∙ nil) in
      record {
        outcome = sym outcome ∙ ap (λ (p : Progress). p.outcome) h.progress ∙ ap (λ (f : Front). f.outcome) (sym all);
        replies = ap (λ (p : Progress). p.replies) h.progress ∙ ap (λ (f : Front). f.replies) (sym all);
        changes = h.changes ∙ ap (λ (f : Front). f.changes) (sym all);
      }
