-- The statuses of all records through the steps of calls.
use Rattle.std.proofs.Common.{◌≡◌, ℕ, Bool, true, false, cond, List, Option, Some, None, refl, sym, ap, ◌∙◌, subst, inl, inr, is_some}
use Rattle.std.specs.Prelude.{◌==◌}
use Rattle.phase.specs.declared.phases.Phase.{Phase}
use Rattle.phase.specs.declared.phases.Phase.TheVariants.{Prepare}
use Rattle.procedure.proofs.Base.{same_refl, change_at-with, keys, value_at-merged}
use Rattle.procedure.proofs.Ending.{changes-fed}
use Rattle.procedure.specs.Bytes.{Bytes, Cell, same}
use Rattle.procedure.specs.Needs.{Touch, Nothing, Reads, Writes}
use Rattle.procedure.specs.Procedures.{Procedure}
use Rattle.procedure.specs.Runs.{next_touch, next_becomes, changes_after}
use Rattle.procedure.specs.Table.{Table, Changes, value_at, change_at, changed_or, merged}
use Rattle.steps.proofs.machine.OpenCalls.{none_some, same_Some, yes_no, put_some, put_none, put_self, put_other, same_or_other}
use Rattle.steps.proofs.machine.CallEnds.{not_mine}
use Rattle.steps.proofs.machine.RecordStatus.{status_alone, write_status, commit_status, undo_status}
use Rattle.steps.proofs.machine.InstructionSteps.{unwritten}
use Rattle.steps.specs.machine.Invariant.{Machines, Apart, Unchanged, Lives, Held, Early, status, Statuses, starts}
use Rattle.steps.specs.Versions.{undo_of, KeyVersions, VersionsByKey, found, wrote_key, wrote, kept_key, undone_key}
use Rattle.steps.specs.machine.Machine.{Open, CallsBySession, put, NoConflict, stepped}

some_none : {A : Type 0} {P : Type 0} {o : Option A} → is_some o ≡ true → o ≡ None → P
some_none e f = yes_no e (ap is_some f)

-- a call begins
module _ (calls : CallsBySession) (s : ℕ) (c : Open) (free : calls s ≡ None) (empty : (q : Bytes) → change_at c.machine.changes q ≡ None) (q : Bytes) where
  pub begin_unchanged : Unchanged calls q → Unchanged (put calls s (Some c)) q
  begin_unchanged un = put_some (λ u d. change_at d.machine.changes q ≡ None) calls s c (empty q) (λ u d ne h. un u d h)

  begin_early : Early calls q → Early (put calls s (Some c)) q
  begin_early un = put_some (λ u d. d.start ≡ Prepare → change_at d.machine.changes q ≡ None) calls s c (λ _. empty q) (λ u d ne h. un u d h)

  begin_held : Held calls q → Held (put calls s (Some c)) q
  begin_held (u, d, h, p, e) =
      elim (same_or_other u s) [
        | inl x ↦ none_some (sym (ap calls x ∙ free) ∙ h)
        | inr ne ↦ (u, d, put_other calls s (Some c) u ne ∙ h, p, e)
      ]

  pub begin_status :
      (p : Phase) (a b : Cell) (vis fro : Bool) (o : Option KeyVersions) → status p a b vis fro (Unchanged calls q) (Held calls q) (Early calls q) o →
      status p a b vis fro (Unchanged (put calls s (Some c)) q) (Held (put calls s (Some c)) q) (Early (put calls s (Some c)) q) o
  begin_status p a b vis fro o x = status_alone a a b refl _ _ _ _ _ _ begin_unchanged begin_held begin_early p vis fro o x

module _ (cat : List Procedure) (t : Table) (calls : CallsBySession) (vs : VersionsByKey) (machines : Machines cat t calls) (apart : Apart calls) (lives : Lives t calls vs) (s : ℕ) (c : Open)
    (is : calls s ≡ Some c) where
  -- another call takes its place, which did the same to this key
  module _ (c' : Open) (start : c'.start ≡ c.start) (q : Bytes) (alike : change_at c'.machine.changes q ≡ change_at c.machine.changes q) where
    alike_unchanged : Unchanged calls q → Unchanged (put calls s (Some c')) q
    alike_unchanged un = put_some (λ u d. change_at d.machine.changes q ≡ None) calls s c' (alike ∙ un s c is) (λ u d ne h. un u d h)

    alike_early : Early calls q → Early (put calls s (Some c')) q
    alike_early un = put_some (λ u d. d.start ≡ Prepare → change_at d.machine.changes q ≡ None) calls s c' (λ p. alike ∙ un s c is (sym start ∙ p)) (λ u d ne h. un u d h)

    alike_held : Held calls q → Held (put calls s (Some c')) q
    alike_held (u, d, h, p, e) =
        elim (same_or_other u s) [
          | inl x ↦
              let same_call : d ≡ c = same_Some (sym h ∙ ap calls x ∙ is) in
              (s, c', put_self calls s (Some c'), start ∙ ap (λ (o : Open). o.start) (sym same_call) ∙ p, ap is_some (alike ∙ ap (λ (o : Open). change_at o.machine.changes q) (sym same_call)) ∙ e)
          | inr ne ↦ (u, d, put_other calls s (Some c') u ne ∙ h, p, e)
        ]

    alike_status :
        (p : Phase) (a b : Cell) (vis fro : Bool) (o : Option KeyVersions) → status p a b vis fro (Unchanged calls q) (Held calls q) (Early calls q) o →
        status p a b vis fro (Unchanged (put calls s (Some c')) q) (Held (put calls s (Some c')) q) (Early (put calls s (Some c')) q) o
    alike_status p a b vis fro o x = status_alone a a b refl _ _ _ _ _ _ alike_unchanged alike_held alike_early p vis fro o x

  -- who holds a key that this call has to itself
  no_record : (q : Bytes) → vs q ≡ None → Unchanged calls q
  no_record q e u d h = at (change_at d.machine.changes q) refl
    where
      at : (o : Option Cell) → change_at d.machine.changes q ≡ o → o ≡ None
      at None f = refl
      at (Some x) f = let (v, i, l) = lives.own u d h q x f in none_some (sym e ∙ i)

  module _ (k : Bytes) (nc : NoConflict calls s (Writes k)) where
    others_none : (u : ℕ) (d : Open) → (u == s) ≡ false → calls u ≡ Some d → change_at d.machine.changes k ≡ None
    others_none u d ne h = unwritten (machines u d h) k (nc u d ne h).0

    early_unchanged : c.start ≡ Prepare → Early calls k → Unchanged calls k
    early_unchanged p un u d h =
        elim (same_or_other u s) [
          | inl x ↦ ap (λ (o : Open). change_at o.machine.changes k) (same_Some (sym h ∙ ap calls x ∙ is)) ∙ un s c is p
          | inr ne ↦ others_none u d ne h
        ]

    held_mine : Held calls k → c.start ≡ Prepare
    held_mine (u, d, h, p, e) =
        elim (same_or_other u s) [
          | inl x ↦ ap (λ (o : Open). o.start) (sym (same_Some (sym h ∙ ap calls x ∙ is))) ∙ p
          | inr ne ↦ some_none e (others_none u d ne h)
        ]

    module _ (c' : Open) (start : c'.start ≡ c.start) (y : Cell) (writes : change_at c'.machine.changes k ≡ Some y) where
      write_held : c.start ≡ Prepare → Held (put calls s (Some c')) k
      write_held p = (s, c', put_self calls s (Some c'), start ∙ p, ap is_some writes)

      write_early : (c.start ≡ Prepare → ⊥) → Early (put calls s (Some c')) k
      write_early np = put_some (λ u d. d.start ≡ Prepare → change_at d.machine.changes k ≡ None) calls s c' (λ p. absurd (np (sym start ∙ p))) (λ u d ne h _. others_none u d ne h)

      written_status :
          (p : Phase) → starts p c.start ≡ true → (b : Cell) (vis fro : Bool) → (vs k ≡ None → fro ≡ false) →
          status p (value_at t k) b vis fro (Unchanged calls k) (Held calls k) (Early calls k) (vs k) →
          status p (value_at t k) b vis fro (Unchanged (put calls s (Some c')) k) (Held (put calls s (Some c')) k) (Early (put calls s (Some c')) k) (Some (wrote p c.start (vs k) y))
      written_status p e b vis fro fr x =
          write_status (value_at t k) b y _ _ _ _ _ _ p c.start e vis fro (vs k) (lives.table k) (no_record k) (λ un u d h _. un u d h) early_unchanged held_mine write_held write_early fr x

  step_status_at :
      (p : Phase) → starts p c.start ≡ true → (c' : Open) → c'.start ≡ c.start → (n : Touch) (b : Option Cell) → NoConflict calls s n → c'.machine.changes ≡ changes_after n b c.machine.changes →
      (u : Table) (vis fro : Bytes → Bool) → ((q : Bytes) → vs q ≡ None → fro q ≡ false) → Statuses p t u calls vs vis fro → Statuses p t u (put calls s (Some c')) (wrote_key p c.start n b vs) vis fro
  step_status_at p e c' st Nothing b nc ch u vis fro fr x q = alike_status c' st q (ap (λ (g : Changes). change_at g q) ch) p _ _ _ _ _ (x q)
  step_status_at p e c' st (Reads k) b nc ch u vis fro fr x q = alike_status c' st q (ap (λ (g : Changes). change_at g q) ch) p _ _ _ _ _ (x q)
  step_status_at p e c' st (Writes k) None nc ch u vis fro fr x q = alike_status c' st q (ap (λ (g : Changes). change_at g q) ch) p _ _ _ _ _ (x q)
  step_status_at p e c' st (Writes k) (Some y) nc ch u vis fro fr x q =
      elim (keys q k) [
        | inl i ↦
            subst (λ z. status p (value_at t z) (value_at u z) (vis z) (fro z) (Unchanged (put calls s (Some c')) z) (Held (put calls s (Some c')) z) (Early (put calls s (Some c')) z)
            (cond (same z k) (Some (wrote p c.start (vs k) y)) (vs z))) (sym i)
            (subst (λ b. status p (value_at t k) (value_at u k) (vis k) (fro k) (Unchanged (put calls s (Some c')) k) (Held (put calls s (Some c')) k) (Early (put calls s (Some c')) k)
            (cond b (Some (wrote p c.start (vs k) y)) (vs k))) (sym (same_refl k))
            (written_status k nc c' st y (ap (λ (g : Changes). change_at g k) ch ∙ change_at-with c.machine.changes k y k ∙ ap (λ b. cond b (Some y) (change_at c.machine.changes k)) (same_refl k)) p e
            (value_at u k) (vis k) (fro k) (fr k) (x k)))
        | inr f ↦
            subst (λ b. status p (value_at t q) (value_at u q) (vis q) (fro q) (Unchanged (put calls s (Some c')) q) (Held (put calls s (Some c')) q) (Early (put calls s (Some c')) q)
            (cond b (Some (wrote p c.start (vs k) y)) (vs q))) (sym f)
            (alike_status c' st q (ap (λ (g : Changes). change_at g q) ch ∙ change_at-with c.machine.changes k y q ∙ ap (λ b. cond b (Some y) (change_at c.machine.changes q)) f) p _ _ _ _ _ (x q))
      ]

  pub step_statuses :
      (p : Phase) → starts p c.start ≡ true → NoConflict calls s (next_touch c.args c.machine) → (u : Table) (vis fro : Bytes → Bool) → ((q : Bytes) → vs q ≡ None → fro q ≡ false) →
      Statuses p t u calls vs vis fro →
      Statuses p t u (put calls s (Some (stepped vs c))) (wrote_key p c.start (next_touch c.args c.machine) (next_becomes c.args c.machine (found vs (next_touch c.args c.machine))) vs) vis fro
  step_statuses p e nc u vis fro fr x = step_status_at p e (stepped vs c) refl (next_touch c.args c.machine) _ nc (changes-fed c.args c.machine (found vs (next_touch c.args c.machine))) u vis fro fr x

  -- the call goes
  gone_unchanged : (q : Bytes) → Unchanged calls q → Unchanged (put calls s None) q
  gone_unchanged q un = put_none (λ u d. change_at d.machine.changes q ≡ None) calls s (λ u d ne h. un u d h)

  gone_early : (q : Bytes) → Early calls q → Early (put calls s None) q
  gone_early q un = put_none (λ u d. d.start ≡ Prepare → change_at d.machine.changes q ≡ None) calls s (λ u d ne h. un u d h)

  gone_held : (q : Bytes) → change_at c.machine.changes q ≡ None → Held calls q → Held (put calls s None) q
  gone_held q n (u, d, h, p, e) =
      elim (same_or_other u s) [
        | inl x ↦ some_none e (ap (λ (o : Open). change_at o.machine.changes q) (same_Some (sym h ∙ ap calls x ∙ is)) ∙ n)
        | inr ne ↦ (u, d, put_other calls s None u ne ∙ h, p, e)
      ]

  freed : (q : Bytes) (y : Cell) → change_at c.machine.changes q ≡ Some y → Unchanged (put calls s None) q
  freed q y e = put_none (λ u d. change_at d.machine.changes q ≡ None) calls s (λ u d ne h. at u d ne h (change_at d.machine.changes q) refl)
    where
      at : (u : ℕ) (d : Open) → (u == s) ≡ false → calls u ≡ Some d → (o : Option Cell) → change_at d.machine.changes q ≡ o → o ≡ None
      at u d ne h None f = refl
      at u d ne h (Some x) f = none_some (sym (not_mine cat t calls vs machines apart lives s c is u d ne h q x f) ∙ e)

  held_of : (q : Bytes) (y : Cell) → change_at c.machine.changes q ≡ Some y → Held calls q → c.start ≡ Prepare
  held_of q y e (u, d, h, p, f) =
      elim (same_or_other u s) [
        | inl x ↦ ap (λ (o : Open). o.start) (sym (same_Some (sym h ∙ ap calls x ∙ is))) ∙ p
        | inr ne ↦ some_none f (freed q y e u d (put_other calls s None u ne ∙ h))
      ]

  changed_not : (q : Bytes) (y : Cell) → change_at c.machine.changes q ≡ Some y → Unchanged calls q → ⊥
  changed_not q y e un = none_some (sym (un s c is) ∙ e)

  commit_status_at : (p : Phase) → starts p c.start ≡ true → (b : Cell) (vis fro : Bool) (q : Bytes) (o : Option Cell) → change_at c.machine.changes q ≡ o →
      status p (value_at t q) b vis fro (Unchanged calls q) (Held calls q) (Early calls q) (vs q) →
      status p (changed_or o (value_at t q)) b vis fro (Unchanged (put calls s None) q) (Held (put calls s None) q) (Early (put calls s None) q) (kept_key c.start p o (vs q))
  commit_status_at p e b vis fro q None i x =
      status_alone (value_at t q) (value_at t q) b refl _ _ _ _ _ _ (gone_unchanged q) (gone_held q i) (gone_early q) p vis fro (vs q) x
  commit_status_at p e b vis fro q (Some y) i x =
      let (v, j, l) = lives.own s c is q y i in
      let free : Unchanged (put calls s None) q = freed q y i in
      subst (λ w. status p y b vis fro (Unchanged (put calls s None) q) (Held (put calls s None) q) (Early (put calls s None) q) (kept_key c.start p (Some y) w)) (sym j)
      (commit_status (value_at t q) y b _ _ _ _ _ _ (changed_not q y i) free (λ u d h _. free u d h) p c.start e vis fro v (held_of q y i)
      (subst (λ w. status p (value_at t q) b vis fro (Unchanged calls q) (Held calls q) (Early calls q) w) j x))

  pub commit_statuses : (p : Phase) → starts p c.start ≡ true → (u : Table) (vis fro : Bytes → Bool) → Statuses p t u calls vs vis fro →
      Statuses p (merged t c.machine.changes) u (put calls s None) (λ q. kept_key c.start p (change_at c.machine.changes q) (vs q)) vis fro
  commit_statuses p e u vis fro x q =
      subst (λ a. status p a (value_at u q) (vis q) (fro q) (Unchanged (put calls s None) q) (Held (put calls s None) q) (Early (put calls s None) q)
      (kept_key c.start p (change_at c.machine.changes q) (vs q)))
      (sym (value_at-merged t c.machine.changes q)) (commit_status_at p e (value_at u q) (vis q) (fro q) q (change_at c.machine.changes q) refl (x q))

  undo_status_at : (p : Phase) (b : Cell) (vis fro : Bool) (q : Bytes) (o : Option Cell) → change_at c.machine.changes q ≡ o →
      status p (value_at t q) b vis fro (Unchanged calls q) (Held calls q) (Early calls q) (vs q) →
      status p (value_at t q) b vis fro (Unchanged (put calls s None) q) (Held (put calls s None) q) (Early (put calls s None) q) (undone_key (undo_of o (value_at t q)) (vs q))
  undo_status_at p b vis fro q None i x =
      status_alone (value_at t q) (value_at t q) b refl _ _ _ _ _ _ (gone_unchanged q) (gone_held q i) (gone_early q) p vis fro (vs q) x
  undo_status_at p b vis fro q (Some y) i x =
      let (v, j, l) = lives.own s c is q y i in
      let free : Unchanged (put calls s None) q = freed q y i in
      subst (λ w. status p (value_at t q) b vis fro (Unchanged (put calls s None) q) (Held (put calls s None) q) (Early (put calls s None) q) (undone_key (Some (value_at t q)) w)) (sym j)
      (undo_status (value_at t q) b _ _ _ _ _ _ free (λ u d h _. free u d h) p vis fro v
      (subst (λ w. status p (value_at t q) b vis fro (Unchanged calls q) (Held calls q) (Early calls q) w) j x))

  pub undo_statuses : (p : Phase) (u : Table) (vis fro : Bytes → Bool) → Statuses p t u calls vs vis fro → Statuses p t u (put calls s None) (λ q. undone_key (c.undo q) (vs q)) vis fro
  undo_statuses p u vis fro x q =
      subst (λ o. status p (value_at t q) (value_at u q) (vis q) (fro q) (Unchanged (put calls s None) q) (Held (put calls s None) q) (Early (put calls s None) q) (undone_key o (vs q)))
      (sym ((machines s c is).undo q)) (undo_status_at p (value_at u q) (vis q) (fro q) q (change_at c.machine.changes q) refl (x q))
