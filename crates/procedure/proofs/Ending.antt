-- A run that has ended stays as it is, and the whole run has ended.
use Rattle.std.proofs.Common.{◌≡◌, ℕ, zero, suc, pred, ◌+◌, ◌≤◌, Bool, true, false, cond, ◌||◌, List, [], ◌∷◌, length, Option, Some, None, refl, sym, ap, ◌∙◌, subst, ◌⊎◌, inl, inr, true≢false, arith, le_refl}
use Rattle.procedure.specs.Bytes.{Bytes, Cell, same}
use Rattle.procedure.specs.Table.{Table, Changes, change_at}
use Rattle.procedure.specs.Needs.{Touch, Nothing, Reads, Writes, touch_of}
use Rattle.procedure.specs.Procedures.{Instruction, effect}
use Rattle.procedure.specs.Runs.{Front, next_need, need_at, advanced, advanced_at, fed, fed_at, front, next_touch, touch_at, next_becomes, becomes_at, seen_at, reads_after, writes_after, changes_after, is_nil, has_ended, whole, rest_after, EndsWhole}
use Rattle.procedure.proofs.Base.{change_at-none, change_at-with}

-- what one instruction does to each part
parts-fed_at : (args : List Bytes) (m : Front) (found : Cell) (r : List Instruction) → ((fed_at args m found r).reads ≡ reads_after (touch_at args m r) m.reads)
    × ((fed_at args m found r).writes ≡ writes_after (touch_at args m r) m.writes)
    × ((fed_at args m found r).changes ≡ changes_after (touch_at args m r) (becomes_at args m found r) m.changes)
parts-fed_at args m found [] = (refl, refl, refl)
parts-fed_at args m found (i ∷ is) = (refl, refl, refl)

pub reads-fed : (args : List Bytes) (m : Front) (found : Cell) → (fed args m found).reads ≡ reads_after (next_touch args m) m.reads
unfolding fed next_touch
reads-fed args m found = (parts-fed_at args m found m.rest).0

pub writes-fed : (args : List Bytes) (m : Front) (found : Cell) → (fed args m found).writes ≡ writes_after (next_touch args m) m.writes
unfolding fed next_touch
writes-fed args m found = (parts-fed_at args m found m.rest).1

pub changes-fed : (args : List Bytes) (m : Front) (found : Cell) → (fed args m found).changes ≡ changes_after (next_touch args m) (next_becomes args m found) m.changes
unfolding fed next_touch next_becomes
changes-fed args m found = (parts-fed_at args m found m.rest).2

-- the progress goes on by itself: this ties a machine to the run alone
touch_of_need : (args : List Bytes) (f : Front) (r : List Instruction) → touch_at args f r ≡ touch_of (need_at args f.progress r)
touch_of_need args f [] = refl
touch_of_need args f (i ∷ is) = refl

pub next_touch-progress : (args : List Bytes) (f : Front) → next_touch args f ≡ touch_of (next_need args f.progress)
unfolding next_touch next_need
next_touch-progress args f = touch_of_need args f f.rest

progress_at : (args : List Bytes) (f : Front) (found : Cell) (r : List Instruction) → (fed_at args f found r).progress ≡ advanced_at args f.progress found r
progress_at args f found [] = refl
progress_at args f found (i ∷ is) = refl

pub progress-fed : (args : List Bytes) (f : Front) (found : Cell) → (fed args f found).progress ≡ advanced args f.progress found
unfolding fed advanced
progress-fed args f found = progress_at args f found f.rest

fed_at_nil : (args : List Bytes) (m : Front) (found : Cell) (r : List Instruction) → is_nil r ≡ true → fed_at args m found r ≡ m
fed_at_nil args m found [] e = refl
fed_at_nil args m found (i ∷ is) e = absurd (true≢false (sym e))

pub fed_ended : (args : List Bytes) (m : Front) (found : Cell) → has_ended m ≡ true → fed args m found ≡ m
unfolding fed
fed_ended args m found e = fed_at_nil args m found m.rest e

earlier : (m n : ℕ) → m ≤ suc n → (m ≡ suc n) ⊎ (m ≤ n)
earlier m n le = grind arith

module _ (code : List Instruction) (args : List Bytes) (t : Table) where
  front_stays : (n m : ℕ) → m ≤ n → has_ended (front code args t m) ≡ true → front code args t n ≡ front code args t m
  unfolding front
  front_stays zero m le e = let z : 0 ≡ m = omega arith in ap (front code args t) z
  front_stays (suc n) m le e =
      elim (earlier m n le) [
        | inl p ↦ ap (front code args t) (sym p)
        | inr p ↦
            let ih : front code args t n ≡ front code args t m = front_stays n m p e in
            fed_ended args (front code args t n) _ (subst (λ g. has_ended g ≡ true) (sym ih) e) ∙ ih
      ]

  total : (m n : ℕ) → (m ≤ n) ⊎ (n ≤ m)
  total m n = grind arith

  pub front_same_end : (m n : ℕ) → has_ended (front code args t m) ≡ true → has_ended (front code args t n) ≡ true → front code args t n ≡ front code args t m
  front_same_end m n e f = elim (total m n) [ inl p ↦ front_stays n m p e | inr p ↦ sym (front_stays m n p f) ]

pub rest-did : (o : Option ℕ) (is : List Instruction) → length (rest_after o is) ≤ length is
rest-did None is = le_refl _
rest-did (Some c) is = omega arith

rest-fed_at : (args : List Bytes) (m : Front) (found : Cell) (r : List Instruction) → m.rest ≡ r → length (fed_at args m found r).rest ≤ pred (length r)
rest-fed_at args m found [] e = subst (λ x. length x ≤ 0) (sym e) (le_refl 0)
rest-fed_at args m found (i ∷ is) e = rest-did (effect i args m.registers found).ends is

rest-fed : (args : List Bytes) (m : Front) (found : Cell) → length (fed args m found).rest ≤ pred (length m.rest)
unfolding fed
rest-fed args m found = rest-fed_at args m found m.rest refl

rest-front : (code : List Instruction) (args : List Bytes) (t : Table) (m : ℕ) → length (front code args t m).rest + m ≤ length code ⊎ length (front code args t m).rest ≡ 0
unfolding front
rest-front code args t zero = inl (omega arith)
rest-front code args t (suc m) =
    let f = front code args t m in
    let h : length (fed args f (seen_at f.changes t (next_touch args f))).rest ≤ pred (length f.rest) = rest-fed args f _ in
    elim (rest-front code args t m) [ inl p ↦ down _ _ _ _ h p | inr p ↦ inr (omega arith) ]
  where
    down : (a b m n : ℕ) → a ≤ pred b → b + m ≤ n → (a + suc m ≤ n) ⊎ (a ≡ 0)
    down a b m n h p = grind arith

no_length : (r : List Instruction) → length r ≡ 0 → is_nil r ≡ true
no_length [] e = refl
no_length (i ∷ is) e = absurd (omega arith)

pub whole_ended : (code : List Instruction) (args : List Bytes) (t : Table) → has_ended (whole code args t) ≡ true
whole_ended code args t =
    no_length _ (elim (rest-front code args t (length code)) [ inl p ↦ omega arith | inr p ↦ p ])

-- what has ended is the whole run
pub front_whole : (code : List Instruction) (args : List Bytes) (t : Table) (m : ℕ) → has_ended (front code args t m) ≡ true → whole code args t ≡ front code args t m
front_whole code args t m e = front_same_end code args t m (length code) e (whole_ended code args t)

-- what was changed was asked to be written
changed_after : (n : Touch) (v : Option Cell) (c : Changes) (w : Bytes → Bool) → ((q : Bytes) (x : Cell) → change_at c q ≡ Some x → w q ≡ true) → (q : Bytes) (x : Cell) →
    change_at (changes_after n v c) q ≡ Some x → writes_after n w q ≡ true
changed_after Nothing v c w h q x e = h q x e
changed_after (Reads k) v c w h q x e = h q x e
changed_after (Writes k) None c w h q x e = more (same q k) (w q) (h q x e)
  where
    more : (a b : Bool) → b ≡ true → (a || b) ≡ true
    more true b e = refl
    more false b e = e
changed_after (Writes k) (Some v) c w h q x e = more (same q k) (sym (change_at-with c k v q) ∙ e)
  where
    more : (a : Bool) → cond a (Some v) (change_at c q) ≡ Some x → (a || w q) ≡ true
    more true e = refl
    more false e = h q x e

pub front_changed : (code : List Instruction) (args : List Bytes) (t : Table) (m : ℕ) (q : Bytes) (x : Cell) → change_at (front code args t m).changes q ≡ Some x →
    (front code args t m).writes q ≡ true
unfolding front
front_changed code args t zero q x e = absurd (not_some (sym (change_at-none q) ∙ e))
  where
    not_some : {A : Type 0} {x : A} → None ≡ Some x → ⊥
    not_some e = cc
front_changed code args t (suc m) q x e =
    let f = front code args t m in
    let c = seen_at f.changes t (next_touch args f) in
    subst (λ w. w q ≡ true) (sym (writes-fed args f c))
    (changed_after (next_touch args f) (next_becomes args f c) f.changes f.writes (front_changed code args t m) q x (ap (λ (d : Changes). change_at d q) (sym (changes-fed args f c)) ∙ e))

pub ends_whole : EndsWhole
ends_whole code args t = (whole_ended code args t, front_whole code args t)
