-- The whole run, instruction by instruction, is the run on a private copy.
use Rattle.std.proofs.Common.{◌≡◌, ℕ, zero, suc, Bool, true, false, cond, ◌||◌, List, [], ◌∷◌, ◌++◌, length, Option, Some, None, refl, sym, ap, ◌∙◌, subst, unwrap_or, is_some}
use Rattle.std.specs.Prelude.{◌==◌}
use Rattle.procedure.specs.Bytes.{Bytes, Cell, same}
use Rattle.procedure.specs.Table.{Table, value_at, change_at, changed_or, merged, no_changes}
use Rattle.procedure.specs.Needs.{Touch, Nothing, Reads, Writes}
use Rattle.procedure.specs.Procedures.{Instruction, touch, Effect, effect}
use Rattle.procedure.specs.Runs.{no_keys, Front, whole, front, fed, fed_at, did, next_touch, touch_at, seen_at, fresh, has_ended, is_nil, changes_after, rest_after}
use Rattle.procedure.specs.Copies.{Copy, held_in_copy, table_touched, written_after, copy_after, carried_out, copy_of, run_of, run, IsRun, RunsWhole}
use Rattle.procedure.proofs.Base.{change_at-none, change_at-with, value_at-merged, value_at-with, same_table, merged-no_changes}
use Rattle.procedure.proofs.Ending.{fed_ended}

module _ (args : List Bytes) (t : Table) where
  abbrev once : Front → Front
  once m = fed args m (seen_at m.changes t (next_touch args m))

  -- from here, so many instructions
  on : ℕ → Front → Front
  on zero m = m
  on (suc n) m = on n (once m)

  on_suc : (n : ℕ) (m : Front) → once (on n m) ≡ on n (once m)
  unfolding on
  on_suc zero m = refl
  on_suc (suc n) m = on_suc n (once m)

  front_on : (code : List Instruction) (n : ℕ) → front code args t n ≡ on n (fresh code)
  unfolding front on
  front_on code zero = refl
  front_on code (suc n) = ap once (front_on code n) ∙ on_suc n (fresh code)

  on_ended : (n : ℕ) (m : Front) → has_ended m ≡ true → on n m ≡ m
  unfolding on
  on_ended zero m e = refl
  on_ended (suc n) m e = ap (on n) (fed_ended args m _ e) ∙ on_ended n m e

  -- a machine and a copy that did the same
  record Alike (m : Front) (s : Copy) : Type 0 where
    registers : m.registers ≡ s.registers
    replies : m.replies ≡ s.replies
    outcome : m.outcome ≡ s.outcome
    table : (q : Bytes) → changed_or (change_at m.changes q) (value_at t q) ≡ value_at s.table q
    written : (q : Bytes) → is_some (change_at m.changes q) ≡ s.written q

  held_seen : (m : Front) (s : Copy) → Alike m s → (n : Touch) → seen_at m.changes t n ≡ held_in_copy s.table n
  held_seen m s a Nothing = refl
  held_seen m s a (Reads k) = a.table k
  held_seen m s a (Writes k) = a.table k

  became : (m : Front) (s : Copy) → Alike m s → (n : Touch) (x : Option Cell) (q : Bytes) →
      changed_or (change_at (changes_after n x m.changes) q) (value_at t q) ≡ value_at (table_touched s.table n x) q
  unfolding same
  became m s a Nothing x q = a.table q
  became m s a (Reads k) x q = a.table q
  became m s a (Writes k) None q = a.table q
  became m s a (Writes k) (Some c) q =
      ap (λ o. changed_or o (value_at t q)) (change_at-with m.changes k c q) ∙ at (same q k) ∙ sym (value_at-with s.table k c q)
    where
      at : (b : Bool) → changed_or (cond b (Some c) (change_at m.changes q)) (value_at t q) ≡ cond b c (value_at s.table q)
      at true = refl
      at false = a.table q

  became_written : (m : Front) (s : Copy) → Alike m s → (n : Touch) (x : Option Cell) (q : Bytes) → is_some (change_at (changes_after n x m.changes) q) ≡ written_after s.written n x q
  became_written m s a Nothing x q = a.written q
  became_written m s a (Reads k) x q = a.written q
  became_written m s a (Writes k) None q = a.written q
  became_written m s a (Writes k) (Some c) q = ap is_some (change_at-with m.changes k c q) ∙ at (same q k)
    where
      at : (b : Bool) → is_some (cond b (Some c) (change_at m.changes q)) ≡ b || s.written q
      at true = refl
      at false = a.written q

  step_alike : (m : Front) (s : Copy) → Alike m s → (e : Effect) (n : Touch) (is : List Instruction) (c : ℕ) → unwrap_or e.ends m.outcome ≡ c → Alike (did e n is m) (copy_after e n c s)
  step_alike m s a e n is c h = record { registers = refl; replies = ap (λ r. r ++ e.reply) a.replies; outcome = h; table = became m s a n e.becomes; written = became_written m s a n e.becomes }

  once_is : (m : Front) (s : Copy) → Alike m s → (i : Instruction) (is : List Instruction) → m.rest ≡ i ∷ is →
      once m ≡ did (effect i args s.registers (held_in_copy s.table (touch i args s.registers))) (touch i args s.registers) is m
  unfolding fed next_touch
  once_is m s a i is e =
      (λ j. fed_at args m (seen_at m.changes t (touch_at args m (e j))) (e j))
      ∙ ap (λ x. did (effect i args m.registers x) (touch i args m.registers) is m) (held_seen m s a (touch i args m.registers))
      ∙ ap (λ r. did (effect i args r (held_in_copy s.table (touch i args r))) (touch i args r) is m) a.registers

  branch : (i : Instruction) (is : List Instruction) → ((m : Front) (s : Copy) → m.rest ≡ is → Alike m s → Alike (on (length is) m) (carried_out args is s)) →
      (m : Front) (s : Copy) → Alike m s → (e : Effect) (n : Touch) (o : Option ℕ) → e.ends ≡ o →
      Alike (on (length is) (did e n is m)) (elim o [ None ↦ carried_out args is (copy_after e n s.outcome s) | Some c ↦ copy_after e n c s ])
  branch i is ih m s a e n None h = ih (did e n is m) (copy_after e n s.outcome s) (ap (λ o. rest_after o is) h) (step_alike m s a e n is s.outcome (ap (λ o. unwrap_or o m.outcome) h ∙ a.outcome))
  branch i is ih m s a e n (Some c) h =
      subst (λ g. Alike g (copy_after e n c s)) (sym (on_ended (length is) (did e n is m) (ap (λ o. is_nil (rest_after o is)) h)))
      (step_alike m s a e n is c (ap (λ o. unwrap_or o m.outcome) h))

  carried_out_alike : (is : List Instruction) (m : Front) (s : Copy) → m.rest ≡ is → Alike m s → Alike (on (length is) m) (carried_out args is s)
  unfolding on
  carried_out_alike [] m s e a = a
  carried_out_alike (i ∷ is) m s e a =
      let n = touch i args s.registers in
      let f = effect i args s.registers (held_in_copy s.table n) in
      subst (λ g. Alike (on (length is) g) (elim f.ends [ None ↦ carried_out args is (copy_after f n s.outcome s) | Some c ↦ copy_after f n c s ])) (sym (once_is m s a i is e))
      (branch i is (carried_out_alike is) m s a f n f.ends refl)

  fresh_alike : (code : List Instruction) → Alike (fresh code) (copy_of t)
  fresh_alike code = record { registers = refl; replies = refl; outcome = refl; table = λ q. ap (λ o. changed_or o (value_at t q)) (change_at-none q); written = λ q. ap is_some (change_at-none q) }

  whole_alike : (code : List Instruction) → Alike (whole code args t) (carried_out args code (copy_of t))
  whole_alike code = subst (λ m. Alike m (carried_out args code (copy_of t))) (sym (front_on code (length code))) (carried_out_alike code (fresh code) (copy_of t) refl (fresh_alike code))

  table_alike : (m : Front) (s : Copy) → Alike m s → merged t m.changes ≡ s.table
  table_alike m s a = same_table _ _ (λ q. value_at-merged t m.changes q ∙ a.table q)

  -- what is kept of a run that ended
  run_alike : (m : Front) (s : Copy) → Alike m s → IsRun m t (run_of s t)
  run_alike m s a =
      record {
        outcome = a.outcome;
        replies = a.replies;
        table = kept_table (m.outcome == 0) ∙ ap (λ c. cond (c == 0) s.table t) a.outcome;
        written = λ q. kept_keys q (m.outcome == 0) ∙ ap (λ c. cond (c == 0) s.written no_keys q) a.outcome;
      }
    where
      kept_table : (b : Bool) → merged t (cond b m.changes no_changes) ≡ cond b s.table t
      kept_table true = table_alike m s a
      kept_table false = merged-no_changes t

      kept_keys : (q : Bytes) (b : Bool) → is_some (change_at (cond b m.changes no_changes) q) ≡ cond b s.written no_keys q
      kept_keys q true = a.written q
      kept_keys q false = ap is_some (change_at-none q)

pub whole_is_run : RunsWhole
unfolding run
whole_is_run code args t = run_alike args t (whole code args t) (carried_out args code (copy_of t)) (whole_alike args t code)
