-- One instruction of a machine, by its fields.
use Rattle.std.proofs.Common.{◌≡◌, ℕ, zero, suc, ◌+◌, ◌<◌, ◌≤◌, Bool, true, false, arith, List, Option, [], ◌∷◌, ◌++◌, cond, length, drop, Some, None, refl, sym, ap, ◌∙◌, subst, slice_get, append-nil, slice_set, add-one}
use Rattle.std.specs.Prelude.{count_by}
use Rattle.std.proofs.Math.Seq.{drop-nil, drop-length}
use Rattle.std.proofs.lemmas.List.Sums.{sum_by-cons}
use Rattle.procedure.specs.Bytes.{Bytes, Cell}
use Rattle.procedure.specs.Needs.{ended_with}
use Rattle.procedure.specs.Procedures.{Effect, Instruction, Read, Put, Insert, Delete, Add, Sub, AbortIf, adding, as_number, deleting, effect, inserting, is_read, need, operand_value, putting, subtracting}
use Rattle.procedure.specs.Runs.{Progress, ended, is_nil, need_at, next_need, advanced, advanced_at, moved}
use Rattle.procedure.specs.Actions.{Action, effect_of}
use Rattle.procedure.specs.declared.actions.Action.TheVariants.{Set, Load, Pass, End}

-- the list from a place on
drop_suc : {X : Type 0} (xs : List X) (i : ℕ) (x : X) → Some x ≡ slice_get xs i → drop i xs ≡ x ∷ drop (suc i) xs
drop_suc [] i x e = absurd cc
drop_suc (y ∷ ys) zero x e = cc
drop_suc (y ∷ ys) (suc i) x e = drop_suc ys i x e

drop_at : {X : Type 0} (xs : List X) (i : ℕ) (x : X) → Some x ≡ slice_get xs i → drop i xs ≡ x ∷ drop (i + 1) xs
drop_at xs i x e = drop_suc xs i x e ∙ ap (λ j. x ∷ drop j xs) (sym (add-one i))

drop_past : {X : Type 0} (xs : List X) (i : ℕ) → None ≡ slice_get xs i → drop i xs ≡ []
drop_past [] i e = drop-nil i
drop_past (y ∷ ys) zero e = absurd cc
drop_past (y ∷ ys) (suc i) e = drop_past ys i e

-- what is left at a place
some_left : (code : List Instruction) (place : ℕ) → place < length code → is_nil (drop place code) ≡ false
some_left [] place h = absurd (omega arith)
some_left (i ∷ is) zero h = refl
some_left (i ∷ is) (suc n) h = some_left is n (omega arith)

pub none_left : (code : List Instruction) (place : ℕ) → length code ≤ place → drop place code ≡ []
none_left [] place h = drop-nil place
none_left (i ∷ is) zero h = absurd (omega arith)
none_left (i ∷ is) (suc n) h = none_left is n (omega arith)

module _ (args : List Bytes) (code : List Instruction) (place : ℕ) (registers replies : List Cell) (outcome : ℕ) where
  -- the progress of a machine with these fields
  abbrev pub here : Progress
  here = record { rest = drop place code; registers = registers; replies = replies; outcome = outcome }

  pub need_here : (i : Instruction) → Some i ≡ slice_get code place → (passed : List Bytes) → passed ≡ args → (lent : List Cell) → lent ≡ registers → need i passed lent ≡ next_need args here
  unfolding next_need
  need_here i e passed same lent alike = (λ j. need i (same j) (alike j)) ∙ sym (ap (need_at args here) (drop_at code place i e))

  pub need_past : None ≡ slice_get code place → next_need args here ≡ ended_with outcome
  unfolding next_need
  need_past e = ap (need_at args here) (drop_past code place e)

  pub goes_on : place < length code → ended here ≡ None
  goes_on h = ap (λ b. cond b (Some outcome) None) (some_left code place h)

  pub ended_past : length code ≤ place → ended here ≡ Some outcome
  ended_past h = ap (λ is. cond (is_nil is) (Some outcome) None) (none_left code place h)

  pub advanced_past : (found : Cell) → None ≡ slice_get code place → advanced args here found ≡ here
  unfolding advanced
  advanced_past found e = ap (advanced_at args here found) (drop_past code place e)

  -- what an action of the instruction here makes of the fields
  module _ (found : Cell) (i : Instruction) (at : Some i ≡ slice_get code place) (passed : List Bytes) (same : passed ≡ args) (lent : List Cell) (alike : lent ≡ registers) (a : Action Bytes)
      (acts : effect_of a lent (effect i passed lent found).becomes ≡ effect i passed lent found) where
    abbrev Acts : List Bytes → List Cell → Action Bytes → Type 0
    Acts xs rs b = effect_of b rs (effect i xs rs found).becomes ≡ effect i xs rs found

    acted : (b : Action Bytes) → a ≡ b → moved (effect_of b registers (effect i args registers found).becomes) (drop (place + 1) code) here ≡ advanced args here found
    unfolding advanced
    acted b e =
        ap (λ x. moved x (drop (place + 1) code) here) (subst (λ rs. Acts args rs b) alike (subst (λ xs. Acts xs lent b) same (subst (Acts passed lent) e acts)))
        ∙ sym (ap (advanced_at args here found) (drop_at code place i at))

    kept : replies ≡ replies ++ []
    kept = sym (append-nil replies)

    pub after_set : (r : ℕ) (v : Cell) → a ≡ Set r v → (rs : List Cell) → rs ≡ slice_set registers r v →
        record { rest = drop (place + 1) code; registers = rs; replies = replies; outcome = outcome } ≡ advanced args here found
    after_set r v e rs f = (λ j. record here { rest = drop (place + 1) code; registers = f j; replies = kept j }) ∙ acted (Set r v) e

    pub after_load : (r : ℕ) (v w : Cell) → a ≡ Load r v w → (rs ws : List Cell) → rs ≡ slice_set registers r v → ws ≡ replies ++ w ∷ [] →
        record { rest = drop (place + 1) code; registers = rs; replies = ws; outcome = outcome } ≡ advanced args here found
    after_load r v w e rs ws f h = (λ j. record here { rest = drop (place + 1) code; registers = f j; replies = h j }) ∙ acted (Load r v w) e

    pub after_pass : a ≡ Pass → record { rest = drop (place + 1) code; registers = registers; replies = replies; outcome = outcome } ≡ advanced args here found
    after_pass e = (λ j. record here { rest = drop (place + 1) code; replies = kept j }) ∙ acted Pass e

    pub after_end : (c : ℕ) → a ≡ End c → (end : ℕ) → end ≡ length code → record { rest = drop end code; registers = registers; replies = replies; outcome = c } ≡ advanced args here found
    after_end c e end f = (λ j. record { rest = past j; registers = registers; replies = kept j; outcome = c }) ∙ acted (End c) e
      where
        past : drop end code ≡ []
        past = ap (λ n. drop n code) f ∙ drop-length code

-- how many reads are left at a place, and after it
reads_at : (code : List Instruction) (place : ℕ) (i : Instruction) → Some i ≡ slice_get code place → count_by is_read (drop place code) ≡ cond (is_read i) 1 0 + count_by is_read (drop (place + 1) code)
reads_at code place i e = ap (count_by is_read) (drop_at code place i e) ∙ sum_by-cons (λ x. cond (is_read x) 1 0) i (drop (place + 1) code)

pub reads_after : (code : List Instruction) (place : ℕ) (i : Instruction) → Some i ≡ slice_get code place → count_by is_read (drop (place + 1) code) ≤ count_by is_read (drop place code)
reads_after code place i e = omega (arith, reads_at code place i e)

pub reads_after_read : (code : List Instruction) (place : ℕ) (i : Instruction) → Some i ≡ slice_get code place → is_read i ≡ true → count_by is_read (drop place code) ≡ 1 + count_by is_read (drop (place + 1) code)
reads_after_read code place i e is = reads_at code place i e ∙ ap (λ b. cond b 1 0 + count_by is_read (drop (place + 1) code)) is

pub no_reads_past : (code : List Instruction) (end : ℕ) → end ≡ length code → count_by is_read (drop end code) ≡ 0
no_reads_past code end is = ap (count_by is_read) (ap (λ n. drop n code) is ∙ drop-length code)

-- only a read replies
module _ (registers : List Cell) where
  put_replies : (k : Option Bytes) (v : Cell) → (putting registers k v).reply ≡ []
  put_replies None v = refl
  put_replies (Some k) None = refl
  put_replies (Some k) (Some v) = refl

  insert_replies : (k : Option Bytes) (v found : Cell) → (inserting registers k v found).reply ≡ []
  insert_replies None v found = refl
  insert_replies (Some k) None found = refl
  insert_replies (Some k) (Some v) None = refl
  insert_replies (Some k) (Some v) (Some w) = refl

  delete_replies : (k : Option Bytes) (found : Cell) → (deleting registers k found).reply ≡ []
  delete_replies None found = refl
  delete_replies (Some k) None = refl
  delete_replies (Some k) (Some w) = refl

  either_replies : (b : Bool) (e f : Effect) → e.reply ≡ [] → f.reply ≡ [] → (cond b e f).reply ≡ []
  either_replies true e f none nothing = none
  either_replies false e f none nothing = nothing

  add_replies : (r : ℕ) (x y : Option ℕ) → (adding registers r x y).reply ≡ []
  add_replies r None y = refl
  add_replies r (Some x) None = refl
  add_replies r (Some x) (Some y) = either_replies _ _ _ refl refl

  sub_replies : (r : ℕ) (x y : Option ℕ) → (subtracting registers r x y).reply ≡ []
  sub_replies r None y = refl
  sub_replies r (Some x) None = refl
  sub_replies r (Some x) (Some y) = either_replies _ _ _ refl refl

  some_not_none : (w : Cell) (ws : List Cell) → w ∷ ws ≡ [] → ⊥
  some_not_none w ws e = cc

  pub replies_is_read : (i : Instruction) (args : List Bytes) (found w : Cell) (ws : List Cell) → w ∷ ws ≡ (effect i args registers found).reply → is_read i ≡ true
  unfolding effect
  replies_is_read (Read r k) args found w ws e = refl
  replies_is_read (Put k v) args found w ws e = absurd (some_not_none w ws (e ∙ put_replies _ _))
  replies_is_read (Insert k v) args found w ws e = absurd (some_not_none w ws (e ∙ insert_replies _ _ _))
  replies_is_read (Delete k) args found w ws e = absurd (some_not_none w ws (e ∙ delete_replies _ _))
  replies_is_read (Add r x y) args found w ws e = absurd (some_not_none w ws (e ∙ add_replies r (as_number (operand_value x args registers)) (as_number (operand_value y args registers))))
  replies_is_read (Sub r x y) args found w ws e = absurd (some_not_none w ws (e ∙ sub_replies r (as_number (operand_value x args registers)) (as_number (operand_value y args registers))))
  replies_is_read (AbortIf t c) args found w ws e = absurd (some_not_none w ws (e ∙ either_replies _ _ _ refl refl))

  pub load_is_read : (i : Instruction) (args : List Bytes) (found : Cell) (a : Action Bytes) (r : ℕ) (v w : Cell) → a ≡ Load r v w →
      effect_of a registers (effect i args registers found).becomes ≡ effect i args registers found → is_read i ≡ true
  load_is_read i args found a r v w is acts =
      let e = effect i args registers found in
      replies_is_read i args found w [] (ap (λ (x : Effect). x.reply) (subst (λ b. effect_of b registers e.becomes ≡ e) is acts))
