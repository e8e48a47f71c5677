-- A machine that writes into its table carries out a run.
use Rattle.std.proofs.Common.{◌≡◌, ℕ, Bool, true, false, cond, ◌||◌, List, [], ◌∷◌, ◌++◌, length, map, Option, Some, None, IsTrue, ◌↔◌, Contains, refl, sym, ap, ◌∙◌, subst, option_map, unwrap_or, ◌<◌, ◌⊎◌, inl, inr, arith}
use Rattle.std.proofs.lemmas.List.{append-nil, map_push}
use Rattle.std.specs.Prelude.{◌==◌}
use Rattle.std.proofs.lemmas.List.Elements.{Contains-append_left, Contains-push, Contains-push_cases}
use Rattle.procedure.specs.Bytes.{Bytes, Cell, same}
use Rattle.procedure.specs.Table.{Table, value_at, with_cell, with_cells}
use Rattle.procedure.specs.Needs.{Need, Writes, touch_of, becomes_of, change_of, updated}
use Rattle.procedure.specs.declared.needs.Need.TheVariants.{Own, Ended}
use Rattle.procedure.specs.declared.needs.Need.TheVariants as asked
use Rattle.procedure.specs.Procedures.{Instruction, need, Effect, effect}
use Rattle.procedure.specs.Runs.{Progress, Execution, at_start, next_need, need_at, advanced, advanced_at, ended, is_nil, no_keys, with_key, rest_after}
use Rattle.procedure.specs.Copies.{Copy, held_in_copy, table_touched, written_after, copy_after, carried_out, copy_of, run}
use Rattle.procedure.specs.Carried.{IsCarried, IsCarriedOut, advanced_on, change_on, changed, replaced, copy_at}
use Rattle.procedure.proofs.Base.{same_keys, same_refl, same_table, value_at-with, with_cells_push}
use Rattle.procedure.proofs.Fronts.{advanced_falls, advanced_stays, effect-becomes}

-- the change of a need is what its key becomes
changed_to : (u : Table) (k : Bytes) (o : Option Cell) → changed u (option_map {U = Bytes × Cell} (λ x. (k, x)) o) ≡ table_touched u (Writes k) o
changed_to u k None = refl
changed_to u k (Some x) = refl

changed_touched : (u : Table) (n : Need Bytes) (found : Cell) → changed u (change_of n found) ≡ table_touched u (touch_of n) (becomes_of n found)
changed_touched u (asked.Read k) found = refl
changed_touched u (asked.Write k x) found = changed_to u k (updated x found)
changed_touched u Own found = refl
changed_touched u (Ended c) found = refl

-- a change that is put back
put_back : (u : Table) (k : Bytes) (x : Cell) → with_cell (with_cell u k x) k (value_at u k) ≡ u
unfolding same
put_back u k x =
    same_table _ _ (λ q.
    value_at-with (with_cell u k x) k (value_at u k) q
    ∙ ap (cond (same q k) (value_at u k)) (value_at-with u k x q)
    ∙ held q (same q k) (same_keys q k))
  where
    held : (q : Bytes) (b : Bool) → (b ≡ true → q ≡ k) → cond b (value_at u k) (cond b x (value_at u q)) ≡ value_at u q
    held q true h = ap (value_at u) (sym (h refl))
    held q false h = refl

undone_change : (u : Table) (before : List (Bytes × Cell)) (d : Option (Bytes × Cell)) → with_cells (changed u d) (before ++ replaced u d) ≡ with_cells u before
undone_change u before None = ap (with_cells u) (append-nil before)
undone_change u before (Some e) = with_cells_push (with_cell u e.0 e.1) before e.0 (value_at u e.0) ∙ ap (λ v. with_cells v before) (put_back u e.0 e.1)

-- the keys that were written, where those before were
keys_after : (u : Table) (before : List (Bytes × Cell)) (w : Bytes → Bool) (n : Need Bytes) (found : Cell) → ((q : Bytes) → Contains (map (λ e. e.0) before) q ↔ IsTrue (w q)) →
    (q : Bytes) → Contains (map (λ e. e.0) (before ++ replaced u (change_of n found))) q ↔ IsTrue (written_after w (touch_of n) (becomes_of n found) q)
keys_after u before w n found h q = by n
  where
    same_keys_after : (d : Option (Bytes × Cell)) → d ≡ None → Contains (map (λ e. e.0) (before ++ replaced u d)) q ↔ IsTrue (w q)
    same_keys_after d e = subst (λ (l : List (Bytes × Cell)). Contains (map (λ e. e.0) l) q ↔ IsTrue (w q)) (sym (ap (λ o. before ++ replaced u o) e ∙ append-nil before)) (h q)

    or_true : (a b : Bool) → IsTrue b → IsTrue (a || b)
    or_true true b t = refl
    or_true false b t = t

    either : (a b : Bool) → IsTrue (a || b) → (a ≡ true) ⊎ IsTrue b
    either true b t = inl refl
    either false b t = inr t

    more : (k : Bytes) (c : Cell) → Contains (map (λ (e : Bytes × Cell). e.0) before ++ k ∷ []) q ↔ IsTrue (with_key k w q)
    more k c = (
      λ has. elim (Contains-push_cases _ k q has) [
        | inl b ↦ or_true (same q k) (w q) ((h q).0 b)
        | inr e ↦ subst (λ x. IsTrue (same q x || w q)) (sym e) (ap (λ b. b || w q) (same_refl q))
      ],
      λ t. elim (either (same q k) (w q) t) [
        | inl e ↦ subst (λ x. Contains (map (λ (e : Bytes × Cell). e.0) before ++ k ∷ []) x) (sym (same_keys q k e)) (Contains-push _ k)
        | inr b ↦ Contains-append_left _ (k ∷ []) q ((h q).1 b)
      ],
    )

    writing : (k : Bytes) (o : Option Cell) → Contains (map (λ e. e.0) (before ++ replaced u (option_map {U = Bytes × Cell} (λ x. (k, x)) o))) q ↔ IsTrue (written_after w (Writes k) o q)
    writing k None = same_keys_after None refl
    writing k (Some c) = subst (λ (l : List Bytes). Contains l q ↔ IsTrue (with_key k w q)) (sym (map_push (λ e. e.0) before (k, value_at u k))) (more k c)

    by : (n : Need Bytes) → Contains (map (λ e. e.0) (before ++ replaced u (change_of n found))) q ↔ IsTrue (written_after w (touch_of n) (becomes_of n found) q)
    by (asked.Read k) = same_keys_after None refl
    by (asked.Write k x) = writing k (updated x found)
    by Own = same_keys_after None refl
    by (Ended c) = same_keys_after None refl

-- what is left after an instruction that may end the call
branches : (args : List Bytes) (is : List Instruction) (o : Option ℕ) (c : ℕ) (s : ℕ → Copy) →
    carried_out args (rest_after o is) (s (unwrap_or o c)) ≡ elim o [ None ↦ carried_out args is (s c) | Some d ↦ s d ]
branches args is None c s = refl
branches args is (Some d) c s = refl

left_at : (args : List Bytes) (p : Progress) (u : Table) (w : Bytes → Bool) (r : List Instruction) → p.rest ≡ r →
    (let n = need_at args p r in let found = held_in_copy u (touch_of n) in let q = advanced_at args p found r in
    carried_out args q.rest (copy_at q (changed u (change_of n found)) (written_after w (touch_of n) (becomes_of n found))) ≡ carried_out args r (copy_at p u w))
left_at args p u w [] e = ap (λ l. carried_out args l (copy_at p u w)) e
left_at args p u w (i ∷ is) e =
    let n = need i args p.registers in
    let found = held_in_copy u (touch_of n) in
    let d : Effect = effect i args p.registers found in
    let outcome = unwrap_or d.ends p.outcome in
    ap (λ (v : Table). carried_out args (rest_after d.ends is) (record {
      registers = d.registers;
      replies = p.replies ++ d.reply;
      outcome = outcome;
      table = v;
      written = written_after w (touch_of n) (becomes_of n found);
    })) (changed_touched u n found)
    ∙ ap (λ (b : Option Cell). carried_out args (rest_after d.ends is) (record {
      registers = d.registers;
      replies = p.replies ++ d.reply;
      outcome = outcome;
      table = table_touched u (touch_of n) b;
      written = written_after w (touch_of n) b;
    })) (sym (effect-becomes i args p.registers found))
    ∙ branches args is d.ends p.outcome (λ c. copy_after d (touch_of n) c (copy_at p u w))

left_step : (args : List Bytes) (p : Progress) (u : Table) (w : Bytes → Bool) →
    (let n = next_need args p in let found = held_in_copy u (touch_of n) in
    carried_out args (advanced_on args u p).rest (copy_at (advanced_on args u p) (changed u (change_on args u p)) (written_after w (touch_of n) (becomes_of n found))) ≡ carried_out args p.rest (copy_at p u w))
unfolding next_need advanced advanced_on change_on
left_step args p u w = left_at args p u w p.rest refl

keys_step : (args : List Bytes) (p : Progress) (u : Table) (before : List (Bytes × Cell)) (w : Bytes → Bool) → ((q : Bytes) → Contains (map (λ e. e.0) before) q ↔ IsTrue (w q)) →
    (let n = next_need args p in let found = held_in_copy u (touch_of n) in
    (q : Bytes) → Contains (map (λ e. e.0) (before ++ replaced u (change_on args u p))) q ↔ IsTrue (written_after w (touch_of n) (becomes_of n found) q))
unfolding change_on
keys_step args p u before w h = let n = next_need args p in keys_after u before w n (held_in_copy u (touch_of n)) h

-- one instruction, by the need that was asked
module _ (args : List Bytes) (u : Table) (p : Progress) (n : Need Bytes) (asks : n ≡ next_need args p) where
  pub goes_on : advanced args p (held_in_copy u (touch_of n)) ≡ advanced_on args u p
  unfolding advanced_on
  goes_on = ap (λ m. advanced args p (held_in_copy u (touch_of m))) asks

  pub change_is : change_of n (held_in_copy u (touch_of n)) ≡ change_on args u p
  unfolding change_on
  change_is = ap (λ m. change_of m (held_in_copy u (touch_of m))) asks

-- a call that has ended stays as it is, and one that goes on has fewer instructions left
pub carried_stays : (args : List Bytes) (u : Table) (p : Progress) (c : ℕ) → ended p ≡ Some c → advanced_on args u p ≡ p
unfolding advanced_on
carried_stays args u p c e = advanced_stays args p (held_in_copy u (touch_of (next_need args p))) c e

pub carried_falls : (args : List Bytes) (u : Table) (p : Progress) → ended p ≡ None → length (advanced_on args u p).rest < length p.rest
unfolding advanced_on
carried_falls args u p e = advanced_falls args p (held_in_copy u (touch_of (next_need args p))) e

nil_of : (r : List Instruction) → is_nil r ≡ true → r ≡ []
nil_of [] e = refl
nil_of (i ∷ is) e = absurd cc

some_ended : (b : Bool) (o c : ℕ) → cond b (Some o) None ≡ Some c → (b ≡ true) × (o ≡ c)
some_ended true o c e = (refl, cc)
some_ended false o c e = absurd cc

no_element : (q : Bytes) → Contains [] q → ⊥
no_element q c = omega (arith, c.1)

module _ (code : List Instruction) (args : List Bytes) (t : Table) where
  pub carried_start : (x : Execution) → x ≡ record { args = args; progress = at_start code } → IsCarried code x.args t x t []
  carried_start x e =
      record {
        written = no_keys;
        same_args = refl;
        left = ap (λ (y : Execution). carried_out x.args y.progress.rest (copy_at y.progress t no_keys)) e;
        keys = λ q. (λ h. absurd (no_element q h), λ h. absurd cc);
        undone = refl;
      }

  pub carried_step : (x y : Execution) (u v : Table) (before after : List (Bytes × Cell)) → IsCarried code args t x u before → y.args ≡ x.args → y.progress ≡ advanced_on x.args u x.progress →
      v ≡ changed u (change_on x.args u x.progress) → after ≡ before ++ replaced u (change_on x.args u x.progress) → IsCarried code args t y v after
  carried_step x y u v before after h a p e b =
      let n = next_need args x.progress in
      let w = written_after h.written (touch_of n) (becomes_of n (held_in_copy u (touch_of n))) in
      let q : y.progress ≡ advanced_on args u x.progress = p ∙ ap (λ (z : List Bytes). advanced_on z u x.progress) h.same_args in
      let d : change_on x.args u x.progress ≡ change_on args u x.progress = ap (λ (z : List Bytes). change_on z u x.progress) h.same_args in
      let f : v ≡ changed u (change_on args u x.progress) = e ∙ ap (changed u) d in
      let g : after ≡ before ++ replaced u (change_on args u x.progress) = b ∙ ap (λ o. before ++ replaced u o) d in
      record {
        written = w;
        same_args = a ∙ h.same_args;
        left = (λ i. carried_out args (q i).rest (copy_at (q i) (f i) w)) ∙ left_step args x.progress u h.written ∙ h.left;
        keys = λ k. subst (λ (l : List (Bytes × Cell)). Contains (map (λ e. e.0) l) k ↔ IsTrue (w k)) (sym g) (keys_step args x.progress u before h.written h.keys k);
        undone = (λ i. with_cells (f i) (g i)) ∙ undone_change u before (change_on args u x.progress) ∙ h.undone;
      }

  pub carried_end : (x : Execution) (u : Table) (before : List (Bytes × Cell)) → IsCarried code args t x u before → (c : ℕ) → ended x.progress ≡ Some c → IsCarriedOut code args t x u before c
  carried_end x u before h c e =
      let (nil, outcome) = some_ended (is_nil x.progress.rest) x.progress.outcome c e in
      let s = copy_at x.progress u h.written in
      let done : s ≡ carried_out args code (copy_of t) = ap (λ l. carried_out args l s) (sym (nil_of x.progress.rest nil)) ∙ h.left in
      record {
        outcome = sym outcome ∙ ap (λ (z : Copy). z.outcome) done;
        replies = ap (λ (z : Copy). z.replies) done;
        table = ap (λ (z : Copy). z.table) done;
        keys = λ q. let same_test = ap (λ (z : Copy). z.written q) done in (λ k. subst IsTrue same_test ((h.keys q).0 k), λ k. (h.keys q).1 (subst IsTrue (sym same_test) k));
        undone = h.undone;
      }

  -- what is kept of a run that was carried out
  pub same_outcome : (x : Execution) (u : Table) (before : List (Bytes × Cell)) (c : ℕ) → IsCarriedOut code args t x u before c → c ≡ (run code args t).outcome
  unfolding run
  same_outcome x u before c end = end.outcome

  pub same_replies : (x : Execution) (u : Table) (before : List (Bytes × Cell)) (c : ℕ) → IsCarriedOut code args t x u before c → x.progress.replies ≡ (run code args t).replies
  unfolding run
  same_replies x u before c end = end.replies

  pub kept_table : (x : Execution) (u v : Table) (before : List (Bytes × Cell)) (c : ℕ) → IsCarriedOut code args t x u before c → v ≡ cond (c == 0) u (with_cells u before) → v ≡ (run code args t).table
  unfolding run
  kept_table x u v before c end e = e ∙ (λ i. cond (end.outcome i == 0) (end.table i) (end.undone i))

  pub kept_keys : (x : Execution) (u : Table) (before : List (Bytes × Cell)) (c : ℕ) (es : List (Bytes × Cell)) → IsCarriedOut code args t x u before c → es ≡ cond (c == 0) before [] →
      (q : Bytes) → Contains (map (λ e. e.0) es) q ↔ IsTrue ((run code args t).written q)
  unfolding run
  kept_keys x u before c es end e q =
      subst (λ d. Contains (map (λ e. e.0) es) q ↔ IsTrue (cond (d == 0) (carried_out args code (copy_of t)).written no_keys q)) end.outcome
      (subst (λ (l : List (Bytes × Cell)). Contains (map (λ e. e.0) l) q ↔ IsTrue (cond (c == 0) (carried_out args code (copy_of t)).written no_keys q)) (sym e) (either (c == 0)))
    where
      either : (b : Bool) → Contains (map (λ e. e.0) (cond b before [])) q ↔ IsTrue (cond b (carried_out args code (copy_of t)).written no_keys q)
      either true = end.keys q
      either false = (λ h. absurd (no_element q h), λ h. absurd cc)

  -- with what its writes replaced put back, the table is the one before
  pub before_run : (x : Execution) (u v : Table) (before : List (Bytes × Cell)) (c : ℕ) (es : List (Bytes × Cell)) → IsCarriedOut code args t x u before c →
      v ≡ cond (c == 0) u (with_cells u before) → es ≡ cond (c == 0) before [] → with_cells v es ≡ t
  before_run x u v before c es end e f = (λ i. with_cells (e i) (f i)) ∙ either (c == 0)
    where
      either : (b : Bool) → with_cells (cond b u (with_cells u before)) (cond b before []) ≡ t
      either true = end.undone
      either false = end.undone
