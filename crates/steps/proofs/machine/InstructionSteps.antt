-- A step of an open call: what is known of machines, locks and live versions is kept.
use Rattle.std.proofs.Common.{◌≡◌, ℕ, suc, Bool, true, false, cond, ◌||◌, List, Option, Some, None, refl, sym, ap, ◌∙◌, subst, inl, inr, true≢false}
use Rattle.std.specs.Prelude.{◌==◌}
use Rattle.std.proofs.lemmas.Bool.{eq-eqb}
use Rattle.commitlog.specs.Histories.{code_of}
use Rattle.phase.specs.declared.phases.Phase.{Phase}
use Rattle.procedure.proofs.Base.{same_refl, change_at-with, keys}
use Rattle.procedure.proofs.Ending.{reads-fed, writes-fed, changes-fed, front_changed}
use Rattle.procedure.specs.Bytes.{Bytes, Cell, same}
use Rattle.procedure.specs.Needs.{Touch, Nothing, Reads, Writes}
use Rattle.procedure.specs.Procedures.{Procedure}
use Rattle.procedure.specs.Runs.{Front, front, fed, next_touch, next_becomes, seen_at, reads_after, writes_after, changes_after}
use Rattle.procedure.specs.Table.{Table, Changes, value_at, change_at, changed_or}
use Rattle.steps.proofs.machine.OpenCalls.{none_some, same_Some, yes_no, put_some, put_self, put_other, other, same_or_other}
use Rattle.steps.specs.machine.Invariant.{IsAlone, Machines, IsApart, Apart, Unchanged, Lives}
use Rattle.steps.specs.Versions.{undo_of, KeyVersions, VersionsByKey, live_version, found, wrote_key, wrote}
use Rattle.steps.specs.machine.Machine.{Open, CallsBySession, put, NoConflict, stepped, noted, note}

-- what a call changed it asked to write
pub written : {cat : List Procedure} {t : Table} {c : Open} → IsAlone cat t c → (q : Bytes) (x : Cell) → change_at c.machine.changes q ≡ Some x → c.machine.writes q ≡ true
written {cat} {t} {c} a q x e =
    subst (λ (m : Front). m.writes q ≡ true) (sym a.machine)
    (front_changed (code_of cat c.procedure) c.args t c.count q x (ap (λ (m : Front). change_at m.changes q) (sym a.machine) ∙ e))

unwritten_at : {cat : List Procedure} {t : Table} {c : Open} → IsAlone cat t c → (q : Bytes) → c.machine.writes q ≡ false → (o : Option Cell) → change_at c.machine.changes q ≡ o → o ≡ None
unwritten_at a q w None e = refl
unwritten_at a q w (Some x) e = yes_no (written a q x e) w

pub unwritten : {cat : List Procedure} {t : Table} {c : Open} → IsAlone cat t c → (q : Bytes) → c.machine.writes q ≡ false → change_at c.machine.changes q ≡ None
unwritten {c = c} a q w = unwritten_at a q w (change_at c.machine.changes q) refl ∙ refl

module _ (cat : List Procedure) (t : Table) (calls : CallsBySession) (vs : VersionsByKey) (machines : Machines cat t calls) (apart : Apart calls) (lives : Lives t calls vs) (s : ℕ) (c : Open)
    (is : calls s ≡ Some c) where
  -- no other session changed the key
  abbrev Others : Bytes → Type 0
  Others k = (u : ℕ) (d : Open) → (u == s) ≡ false → calls u ≡ Some d → d.machine.writes k ≡ false

  unchanged : (k : Bytes) → Others k → change_at c.machine.changes k ≡ None → Unchanged calls k
  unchanged k o e u d h =
      elim (same_or_other u s) [
        | inl p ↦ ap (λ (d : Open). change_at d.machine.changes k) (same_Some (sym h ∙ ap calls p ∙ is)) ∙ e
        | inr p ↦ unwritten (machines u d h) k (o u d p h)
      ]

  all_unchanged : (k : Bytes) → change_at c.machine.changes k ≡ None → ((u : ℕ) (d : Open) → (u == s) ≡ false → calls u ≡ Some d → change_at d.machine.changes k ≡ None) → Unchanged calls k
  all_unchanged k e o u d h =
      elim (same_or_other u s) [
        | inl p ↦ ap (λ (d : Open). change_at d.machine.changes k) (same_Some (sym h ∙ ap calls p ∙ is)) ∙ e
        | inr p ↦ o u d p h
      ]

  live_at : (k : Bytes) → Others k → (o : Option Cell) → change_at c.machine.changes k ≡ o → live_version (vs k) ≡ changed_or o (value_at t k)
  live_at k o None e = lives.table k (unchanged k o e)
  live_at k o (Some x) e = let (v, h, l) = lives.own s c is k x e in ap live_version h ∙ l

  -- what the store holds is what the call alone would see
  pub live_seen : (k : Bytes) → Others k → live_version (vs k) ≡ changed_or (change_at c.machine.changes k) (value_at t k)
  live_seen k o = live_at k o (change_at c.machine.changes k) refl

  found_seen : (n : Touch) → NoConflict calls s n → found vs n ≡ seen_at c.machine.changes t n
  found_seen Nothing nc = refl
  found_seen (Reads k) nc = live_seen k nc
  found_seen (Writes k) nc = live_seen k (λ u d p h. (nc u d p h).0)

  clear_of_others : (k : Bytes) → NoConflict calls s (Writes k) → Others k
  clear_of_others k nc u d p h = (nc u d p h).0

  -- the machine
  next_alone : NoConflict calls s (next_touch c.args c.machine) → (stepped vs c).machine ≡ front (code_of cat c.procedure) c.args t (suc c.count)
  unfolding front
  next_alone nc =
      ap (fed c.args c.machine) (found_seen (next_touch c.args c.machine) nc)
      ∙ ap (λ (g : Front). fed c.args g (seen_at g.changes t (next_touch c.args g))) (machines s c is).machine

  note_at : (k : Bytes) → NoConflict calls s (Writes k) → (o : Option Cell) → change_at c.machine.changes k ≡ o → note (undo_of o (value_at t k)) (live_version (vs k)) ≡ Some (value_at t k)
  note_at k nc None e = ap Some (live_at k (clear_of_others k nc) None e)
  note_at k nc (Some x) e = refl

  noted_undo : (n : Touch) (b : Option Cell) → NoConflict calls s n → (q : Bytes) → noted n b vs c.undo q ≡ undo_of (change_at (changes_after n b c.machine.changes) q) (value_at t q)
  noted_undo Nothing b nc q = (machines s c is).undo q
  noted_undo (Reads k) b nc q = (machines s c is).undo q
  noted_undo (Writes k) None nc q = (machines s c is).undo q
  noted_undo (Writes k) (Some y) nc q =
      subst (λ o. cond (same q k) (note (c.undo k) (live_version (vs k))) (c.undo q) ≡ undo_of o (value_at t q)) (sym (change_at-with c.machine.changes k y q))
      (elim (keys q k) [
        | inl p ↦
            subst (λ x. cond (same x k) (note (c.undo k) (live_version (vs k))) (c.undo x) ≡ undo_of (cond (same x k) (Some y) (change_at c.machine.changes x)) (value_at t x)) (sym p)
            (subst (λ b. cond b (note (c.undo k) (live_version (vs k))) (c.undo k) ≡ undo_of (cond b (Some y) (change_at c.machine.changes k)) (value_at t k)) (sym (same_refl k))
            (ap (λ o. note o (live_version (vs k))) ((machines s c is).undo k) ∙ note_at k nc (change_at c.machine.changes k) refl))
        | inr f ↦
            subst (λ b. cond b (note (c.undo k) (live_version (vs k))) (c.undo q) ≡ undo_of (cond b (Some y) (change_at c.machine.changes q)) (value_at t q)) (sym f)
            ((machines s c is).undo q)
      ])

  pub step_machines : NoConflict calls s (next_touch c.args c.machine) → Machines cat t (put calls s (Some (stepped vs c)))
  step_machines nc =
      put_some (λ u d. IsAlone cat t d) calls s (stepped vs c)
      (record {
        machine = next_alone nc;
        undo = λ q. noted_undo (next_touch c.args c.machine) (next_becomes c.args c.machine (found vs (next_touch c.args c.machine))) nc q
            ∙ ap (λ (x : Changes). undo_of (change_at x q) (value_at t q)) (sym (changes-fed c.args c.machine (found vs (next_touch c.args c.machine))));
      })
      (λ u d ne h. machines u d h)

  -- the locks
  with_false : (a b : Bool) → a ≡ false → b ≡ false → (a || b) ≡ false
  with_false true b e f = e
  with_false false b e f = f

  from_or : (a b : Bool) → a ≡ false → (a || b) ≡ true → b ≡ true
  from_or true b e f = absurd (true≢false e)
  from_or false b e f = f

  mine :
      (n : Touch) → NoConflict calls s n → (u : ℕ) (d : Open) → (u == s) ≡ false → calls u ≡ Some d → (q : Bytes) → writes_after n c.machine.writes q ≡ true →
      (d.machine.writes q ≡ false) × (d.machine.reads q ≡ false)
  mine Nothing nc u d ne h q w = apart s c is u d h (other u s ne) q w
  mine (Reads k) nc u d ne h q w = apart s c is u d h (other u s ne) q w
  mine (Writes k) nc u d ne h q w =
      elim (keys q k) [
        | inl p ↦ subst (λ x. (d.machine.writes x ≡ false) × (d.machine.reads x ≡ false)) (sym p) (nc u d ne h)
        | inr f ↦ apart s c is u d h (other u s ne) q (from_or (same q k) _ f w)
      ]

  not_that : (q k : Bytes) (d : Open) → d.machine.writes k ≡ false → d.machine.writes q ≡ true → same q k ≡ false
  not_that q k d f w = elim (keys q k) [ inl p ↦ yes_no (ap d.machine.writes (sym p) ∙ w) f | inr e ↦ e ]

  theirs :
      (n : Touch) → NoConflict calls s n → (u : ℕ) (d : Open) → (u == s) ≡ false → calls u ≡ Some d → (q : Bytes) → d.machine.writes q ≡ true →
      (writes_after n c.machine.writes q ≡ false) × (reads_after n c.machine.reads q ≡ false)
  theirs Nothing nc u d ne h q w = apart u d h s c is ne q w
  theirs (Reads k) nc u d ne h q w = let a = apart u d h s c is ne q w in (a.0, with_false (same q k) _ (not_that q k d (nc u d ne h) w) a.1)
  theirs (Writes k) nc u d ne h q w = let a = apart u d h s c is ne q w in (with_false (same q k) _ (not_that q k d (nc u d ne h).0 w) a.0, a.1)

  mine_all : NoConflict calls s (next_touch c.args c.machine) → (u : ℕ) (d : Open) → (u == s) ≡ false → calls u ≡ Some d → IsApart (stepped vs c).machine d.machine
  mine_all nc u d ne h q w =
      mine (next_touch c.args c.machine) nc u d ne h q (ap (λ (f : Bytes → Bool). f q) (sym (writes-fed c.args c.machine _)) ∙ w)

  theirs_all : NoConflict calls s (next_touch c.args c.machine) → (u : ℕ) (d : Open) → (u == s) ≡ false → calls u ≡ Some d → IsApart d.machine (stepped vs c).machine
  theirs_all nc u d ne h q w =
      let a = theirs (next_touch c.args c.machine) nc u d ne h q w in
      (ap (λ (f : Bytes → Bool). f q) (writes-fed c.args c.machine _) ∙ a.0, ap (λ (f : Bytes → Bool). f q) (reads-fed c.args c.machine _) ∙ a.1)

  pub step_apart : NoConflict calls s (next_touch c.args c.machine) → Apart (put calls s (Some (stepped vs c)))
  step_apart nc =
      put_some (λ a x. (u : ℕ) (d : Open) → put calls s (Some (stepped vs c)) u ≡ Some d → (a == u) ≡ false → IsApart x.machine d.machine) calls s (stepped vs c)
      (put_some (λ u d. (s == u) ≡ false → IsApart (stepped vs c).machine d.machine) calls s (stepped vs c)
      (λ ne. yes_no (eq-eqb s s refl) ne)
      (λ u d ne h _. mine_all nc u d ne h))
      (λ a x ne h. put_some (λ u d. (a == u) ≡ false → IsApart x.machine d.machine) calls s (stepped vs c)
      (λ _. theirs_all nc a x ne h)
      (λ u d _ hu ne2. apart a x h u d hu ne2))

  -- the live versions
  module _ (p st : Phase) where
    own_mine : (n : Touch) (b : Option Cell) (q : Bytes) (x : Cell) → change_at (changes_after n b c.machine.changes) q ≡ Some x → (v : KeyVersions) × (wrote_key p st n b vs q ≡ Some v) × (v.live ≡ x)
    own_mine Nothing b q x e = lives.own s c is q x e
    own_mine (Reads k) b q x e = lives.own s c is q x e
    own_mine (Writes k) None q x e = lives.own s c is q x e
    own_mine (Writes k) (Some y) q x e = at (same q k) (sym (change_at-with c.machine.changes k y q) ∙ e)
      where
        at : (b : Bool) → cond b (Some y) (change_at c.machine.changes q) ≡ Some x → (v : KeyVersions) × (cond b (Some (wrote p st (vs k) y)) (vs q) ≡ Some v) × (v.live ≡ x)
        at true e = (wrote p st (vs k) y, refl, same_Some e)
        at false e = lives.own s c is q x e

    own_theirs :
        (n : Touch) (b : Option Cell) → NoConflict calls s n → (u : ℕ) (d : Open) → (u == s) ≡ false → calls u ≡ Some d → (q : Bytes) (x : Cell) → change_at d.machine.changes q ≡ Some x →
        (v : KeyVersions) × (wrote_key p st n b vs q ≡ Some v) × (v.live ≡ x)
    own_theirs Nothing b nc u d ne h q x e = lives.own u d h q x e
    own_theirs (Reads k) b nc u d ne h q x e = lives.own u d h q x e
    own_theirs (Writes k) None nc u d ne h q x e = lives.own u d h q x e
    own_theirs (Writes k) (Some y) nc u d ne h q x e =
        let (v, i, l) = lives.own u d h q x e in
        (v, ap (λ b. cond b (Some (wrote p st (vs k) y)) (vs q)) (not_that q k d (nc u d ne h).0 (written (machines u d h) q x e)) ∙ i, l)

    table_at :
        (n : Touch) (b : Option Cell) (q : Bytes) → change_at (changes_after n b c.machine.changes) q ≡ None →
        ((u : ℕ) (d : Open) → (u == s) ≡ false → calls u ≡ Some d → change_at d.machine.changes q ≡ None) → live_version (wrote_key p st n b vs q) ≡ value_at t q
    table_at Nothing b q e o = lives.table q (all_unchanged q e o)
    table_at (Reads k) b q e o = lives.table q (all_unchanged q e o)
    table_at (Writes k) None q e o = lives.table q (all_unchanged q e o)
    table_at (Writes k) (Some y) q e o = at (same q k) (sym (change_at-with c.machine.changes k y q) ∙ e)
      where
        at : (b : Bool) → cond b (Some y) (change_at c.machine.changes q) ≡ None → live_version (cond b (Some (wrote p st (vs k) y)) (vs q)) ≡ value_at t q
        at true e = none_some (sym e)
        at false e = lives.table q (all_unchanged q e o)

    pub step_lives :
        NoConflict calls s (next_touch c.args c.machine) →
        Lives t (put calls s (Some (stepped vs c))) (wrote_key p st (next_touch c.args c.machine) (next_becomes c.args c.machine (found vs (next_touch c.args c.machine))) vs)
    step_lives nc =
        let n = next_touch c.args c.machine in
        let b = next_becomes c.args c.machine (found vs n) in
        record {
          own = put_some (λ u d. (q : Bytes) (x : Cell) → change_at d.machine.changes q ≡ Some x → (v : KeyVersions) × (wrote_key p st n b vs q ≡ Some v) × (v.live ≡ x)) calls s (stepped vs c)
              (λ q x e. own_mine n b q x (ap (λ (g : Changes). change_at g q) (sym (changes-fed c.args c.machine (found vs n))) ∙ e))
              (λ u d ne h q x e. own_theirs n b nc u d ne h q x e);
          table = λ q un. table_at n b q
              (ap (λ (g : Changes). change_at g q) (sym (changes-fed c.args c.machine (found vs n))) ∙ un s (stepped vs c) (put_self calls s (Some (stepped vs c))))
              (λ u d ne h. un u d (put_other calls s (Some (stepped vs c)) u ne ∙ h));
        }
