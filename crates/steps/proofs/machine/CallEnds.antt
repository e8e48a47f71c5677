-- The end of an open call: a commit, an abort, a give-up.
use Rattle.std.proofs.Common.{◌≡◌, ℕ, Bool, true, false, cond, ◌||◌, List, ◌∷◌, Option, Some, None, refl, sym, ap, ◌∙◌, subst, inl, inr}
use Rattle.std.specs.Prelude.{◌==◌}
use Rattle.std.proofs.lemmas.Bool.{eq-eqb}
use Rattle.commitlog.specs.Histories.{code_of, IsAbove}
use Rattle.commitlog.specs.Records.{Record}
use Rattle.phase.specs.declared.phases.Phase.{Phase}
use Rattle.phase.specs.declared.phases.Phase.TheVariants.{Prepare}
use Rattle.procedure.proofs.Base.{change_at-none, value_at-merged, same_table}
use Rattle.procedure.proofs.Ending.{front_whole}
use Rattle.procedure.proofs.Frame.{front_frame}
use Rattle.procedure.specs.Bytes.{Bytes, Cell}
use Rattle.procedure.specs.Procedures.{Procedure}
use Rattle.procedure.specs.Runs.{Front, whole, committed, has_ended, touched}
use Rattle.procedure.specs.Table.{Table, value_at, change_at, changed_or, no_changes, merged}
use Rattle.steps.proofs.machine.OpenCalls.{same_Some, yes_no, put_none, put_other, other, same_or_other}
use Rattle.steps.proofs.machine.InstructionSteps.{written}
use Rattle.steps.specs.machine.NewestFirst.{history_table, history_last_number, history_last_finished}
use Rattle.steps.specs.machine.Invariant.{Lawful, IsAlone, Machines, MayFinish, Finishing, IsApart, Apart, Unchanged, Lives}
use Rattle.steps.specs.Versions.{undo_of, KeyVersions, VersionsByKey, live_version, kept, kept_key, undone, undone_key}
use Rattle.steps.specs.machine.Machine.{Open, CallsBySession, put, answer}

pub merged-none : (t : Table) → merged t no_changes ≡ t
merged-none t = same_table _ _ (λ q. value_at-merged t no_changes q ∙ ap (λ o. changed_or o (value_at t q)) (change_at-none q))

committed_zero : (m : Front) → m.outcome ≡ 0 → committed m ≡ m.changes
committed_zero m e = ap (λ b. cond b m.changes no_changes) (eq-eqb m.outcome 0 e)

committed_other : (m : Front) → (m.outcome == 0) ≡ false → committed m ≡ no_changes
committed_other m e = ap (λ b. cond b m.changes no_changes) e

-- the log
module _ (cat : List Procedure) (t0 : Table) (h : List Record) (s : ℕ) (c : Open) (alone : IsAlone cat (history_table cat t0 h) c) (ended : has_ended c.machine ≡ true) where
  whole_is : whole (code_of cat c.procedure) c.args (history_table cat t0 h) ≡ c.machine
  whole_is =
      front_whole (code_of cat c.procedure) c.args (history_table cat t0 h) c.count (subst (λ m. has_ended m ≡ true) alone.machine ended) ∙ sym alone.machine

  after_answer : history_table cat t0 (answer s c ∷ h) ≡ merged (history_table cat t0 h) (committed c.machine)
  unfolding history_table
  after_answer = ap (λ m. merged (history_table cat t0 h) (committed m)) whole_is

  pub committed_commit : c.machine.outcome ≡ 0 → committed (whole (code_of cat c.procedure) c.args (history_table cat t0 h)) ≡ c.machine.changes
  committed_commit z = ap committed whole_is ∙ committed_zero c.machine z

  pub committed_abort : (c.machine.outcome == 0) ≡ false → committed (whole (code_of cat c.procedure) c.args (history_table cat t0 h)) ≡ no_changes
  committed_abort z = ap committed whole_is ∙ committed_other c.machine z

  pub after_commit : c.machine.outcome ≡ 0 → history_table cat t0 (answer s c ∷ h) ≡ merged (history_table cat t0 h) c.machine.changes
  after_commit z = after_answer ∙ ap (merged (history_table cat t0 h)) (committed_zero c.machine z)

  pub after_abort : (c.machine.outcome == 0) ≡ false → history_table cat t0 (answer s c ∷ h) ≡ history_table cat t0 h
  after_abort z = after_answer ∙ ap (merged (history_table cat t0 h)) (committed_other c.machine z) ∙ merged-none (history_table cat t0 h)

  pub answer_lawful : (p : Phase) (n f : ℕ) → MayFinish cat h s c → Lawful cat t0 h p n f → Lawful cat t0 (answer s c ∷ h) p n f
  unfolding history_last_finished
  answer_lawful p n f m l =
      record {
        legal = (m.procedure, ap (λ (g : Front). g.outcome) (sym whole_is), ap (λ (g : Front). g.replies) (sym whole_is), l.legal);
        orderly = (m.number, l.orderly);
        cyclic = l.cyclic;
        phase = l.phase;
        number = l.number;
        finished = l.finished;
      }

pub finish_others : (cat : List Procedure) (h : List Record) (calls : CallsBySession) (s : ℕ) (c : Open) → Finishing cat h calls → Finishing cat (answer s c ∷ h) (put calls s None)
unfolding history_last_number
finish_others cat h calls s c f =
    put_none (λ u d. MayFinish cat (answer s c ∷ h) u d) calls s
    (λ u d ne e. record {
      procedure = (f u d e).procedure;
      number = subst (λ b. IsAbove (cond b (Some c.number) (history_last_number u h)) d.number) (sym (other u s ne)) (f u d e).number;
    })

module _ (cat : List Procedure) (t : Table) (calls : CallsBySession) (vs : VersionsByKey) (machines : Machines cat t calls) (apart : Apart calls) (lives : Lives t calls vs) (s : ℕ) (c : Open)
    (is : calls s ≡ Some c) where
  -- what this call changed no other one touched
  touched_by : (u : ℕ) (d : Open) → (u == s) ≡ false → calls u ≡ Some d → (q : Bytes) → touched d.machine q ≡ true → (o : Option Cell) → change_at c.machine.changes q ≡ o → o ≡ None
  touched_by u d ne h q w None e = refl
  touched_by u d ne h q w (Some x) e =
      let a = apart s c is u d h (other u s ne) q (written (machines s c is) q x e) in
      yes_no w (both (d.machine.reads q) (d.machine.writes q) a.1 a.0)
    where
      both : (a b : Bool) → a ≡ false → b ≡ false → (a || b) ≡ false
      both true b e f = e
      both false b e f = f

  pub not_mine : (u : ℕ) (d : Open) → (u == s) ≡ false → calls u ≡ Some d → (q : Bytes) (x : Cell) → change_at d.machine.changes q ≡ Some x → change_at c.machine.changes q ≡ None
  not_mine u d ne h q x e = touched_by u d ne h q (wide (d.machine.reads q) _ (written (machines u d h) q x e)) (change_at c.machine.changes q) refl
    where
      wide : (a b : Bool) → b ≡ true → (a || b) ≡ true
      wide true b e = refl
      wide false b e = e

  pub still_apart : Apart (put calls s None)
  still_apart =
      put_none (λ a x. (u : ℕ) (d : Open) → put calls s None u ≡ Some d → (a == u) ≡ false → IsApart x.machine d.machine) calls s
      (λ a x ne h. put_none (λ u d. (a == u) ≡ false → IsApart x.machine d.machine) calls s (λ u d _ hu ne2. apart a x h u d hu ne2))

  -- a commit
  same_elsewhere : (u : ℕ) (d : Open) → (u == s) ≡ false → calls u ≡ Some d → (q : Bytes) → touched d.machine q ≡ true → value_at t q ≡ value_at (merged t c.machine.changes) q
  same_elsewhere u d ne h q w =
      sym (value_at-merged t c.machine.changes q ∙ ap (λ o. changed_or o (value_at t q)) (touched_by u d ne h q w (change_at c.machine.changes q) refl))

  commit_undo :
      (u : ℕ) (d : Open) → (u == s) ≡ false → calls u ≡ Some d → (q : Bytes) (o : Option Cell) → change_at d.machine.changes q ≡ o →
      undo_of o (value_at t q) ≡ undo_of o (value_at (merged t c.machine.changes) q)
  commit_undo u d ne h q None e = refl
  commit_undo u d ne h q (Some x) e =
      ap Some (sym (value_at-merged t c.machine.changes q ∙ ap (λ o. changed_or o (value_at t q)) (not_mine u d ne h q x e)))

  pub commit_machines : Machines cat (merged t c.machine.changes) (put calls s None)
  commit_machines =
      put_none (λ u d. IsAlone cat (merged t c.machine.changes) d) calls s
      (λ u d ne h. record {
        machine = (machines u d h).machine
            ∙ front_frame (code_of cat d.procedure) d.args t (merged t c.machine.changes) d.count
            (λ q w. same_elsewhere u d ne h q (subst (λ m. touched m q ≡ true) (sym (machines u d h).machine) w));
        undo = λ q. (machines u d h).undo q ∙ commit_undo u d ne h q (change_at d.machine.changes q) refl;
      })

  mine_free : (q : Bytes) → change_at c.machine.changes q ≡ None → Unchanged (put calls s None) q → Unchanged calls q
  mine_free q e un u d h =
      elim (same_or_other u s) [
        | inl p ↦ ap (λ (d : Open). change_at d.machine.changes q) (same_Some (sym h ∙ ap calls p ∙ is)) ∙ e
        | inr p ↦ un u d (put_other calls s None u p ∙ h)
      ]

  kept_live : (st p : Phase) (v : KeyVersions) → (kept st p v).live ≡ v.live
  kept_live Prepare Prepare v = refl
  kept_live _ _ v = refl

  commit_table :
      (st p : Phase) (q : Bytes) → Unchanged (put calls s None) q → (o : Option Cell) → change_at c.machine.changes q ≡ o → live_version (kept_key st p o (vs q)) ≡ changed_or o (value_at t q)
  commit_table st p q un None e = lives.table q (mine_free q e un)
  commit_table st p q un (Some x) e =
      let (v, i, l) = lives.own s c is q x e in
      ap (λ w. live_version (kept_key st p (Some x) w)) i ∙ kept_live st p v ∙ l

  pub commit_lives : (st p : Phase) → Lives (merged t c.machine.changes) (put calls s None) (λ q. kept_key st p (change_at c.machine.changes q) (vs q))
  commit_lives st p =
      record {
        own =
            put_none
            (λ u d. (q : Bytes) (x : Cell) → change_at d.machine.changes q ≡ Some x → (v : KeyVersions) × (kept_key st p (change_at c.machine.changes q) (vs q) ≡ Some v) × (v.live ≡ x)) calls s
            (λ u d ne h q x e. let (v, i, l) = lives.own u d h q x e in (v, ap (λ o. kept_key st p o (vs q)) (not_mine u d ne h q x e) ∙ i, l));
        table = λ q un. commit_table st p q un (change_at c.machine.changes q) refl ∙ sym (value_at-merged t c.machine.changes q);
      }

  -- a give-up
  pub undo_machines : Machines cat t (put calls s None)
  undo_machines = put_none (λ u d. IsAlone cat t d) calls s (λ u d ne h. machines u d h)

  undone_live : (b : Bool) (x : Cell) (v : KeyVersions) → (undone b x v).live ≡ x
  undone_live true x v = refl
  undone_live false x v = refl

  undo_table : (q : Bytes) → Unchanged (put calls s None) q → (o : Option Cell) → change_at c.machine.changes q ≡ o → live_version (undone_key (undo_of o (value_at t q)) (vs q)) ≡ value_at t q
  undo_table q un None e = lives.table q (mine_free q e un)
  undo_table q un (Some x) e =
      let (v, i, l) = lives.own s c is q x e in
      ap (λ w. live_version (undone_key (Some (value_at t q)) w)) i ∙ undone_live v.available (value_at t q) v

  pub undo_lives : Lives t (put calls s None) (λ q. undone_key (c.undo q) (vs q))
  undo_lives =
      record {
        own = put_none (λ u d. (q : Bytes) (x : Cell) → change_at d.machine.changes q ≡ Some x → (v : KeyVersions) × (undone_key (c.undo q) (vs q) ≡ Some v) × (v.live ≡ x)) calls s
            (λ u d ne h q x e. let (v, i, l) = lives.own u d h q x e in
            (v, ap (λ o. undone_key o (vs q)) ((machines s c is).undo q ∙ ap (λ o. undo_of o (value_at t q)) (not_mine u d ne h q x e)) ∙ i, l));
        table = λ q un. ap (λ o. live_version (undone_key o (vs q))) ((machines s c is).undo q) ∙ undo_table q un (change_at c.machine.changes q) refl;
      }
