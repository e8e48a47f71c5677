-- What holds after every schedule, newest record first.
use Rattle.std.proofs.Common.{◌≡◌, ℕ, ◌+◌, ◌≤◌, Bool, true, false, cond, List, [], ◌∷◌, Option, Some, None, refl, sym, ap, ◌∙◌, subst, inl, inr, arith}
use Rattle.std.proofs.lemmas.Bool.{ne_eqb, eqb-true}
use Rattle.std.specs.Prelude.{◌==◌}
use Rattle.commitlog.specs.Cuts.{in_full}
use Rattle.commitlog.specs.Histories.{Follows}
use Rattle.commitlog.specs.Records.{Record, Token, Call}
use Rattle.image.specs.Merges.{is_full}
use Rattle.image.specs.declared.images.Kind.TheVariants.{Full, Partial}
use Rattle.phase.specs.declared.phases.Phase.{Phase}
use Rattle.phase.specs.declared.phases.Phase.TheVariants.{Prepare, Resolve, Capture}
use Rattle.procedure.proofs.Base.{value_at-merged, value_at-no_table, same_table}
use Rattle.procedure.specs.Bytes.{Bytes, Cell}
use Rattle.procedure.specs.Procedures.{Procedure}
use Rattle.procedure.specs.Table.{Table, value_at, change_at, changed_or, no_table, merged}
use Rattle.steps.proofs.machine.CallInvariant.{initial_good, begin_good, step_good, commit_good, abort_good, give_up_good}
use Rattle.steps.proofs.machine.HistoryGrowth.{since_unchanged, finished_below, pending}
use Rattle.steps.proofs.machine.CheckpointInvariant.{start_good, resolve_good, capture_good, visit_good, complete_good, rest_good, reclaim_good, abandon_good}
use Rattle.steps.specs.machine.NewestFirst.{history_table, IsLegalHistory, IsCyclicHistory, history_phase, history_number, before, since, at, history_last_finished, MachineImage, IsCut, IsFull, IsPartial}
use Rattle.steps.specs.machine.Invariant.{Invariant, IsFinishedImage, AllFinished}
use Rattle.steps.specs.Drives.{calls_of}
use Rattle.steps.specs.machine.ScheduleAnswers.{with_answer, answers, open_after, open_of, begun_of, Among, MachineStandOn, AllAmong, last_machine_number, merged_all, machine_table, History, Checkpoints}
use Rattle.steps.specs.CoreViews.{Begun}
use Rattle.steps.specs.machine.Machine.{Open, CallsBySession, put, begun, stepped, restarted_open, State, Goes, Begins, Steps, Commits, Aborts, Gives_up, Starts, Resolves, Captures, Visits, Completes, Rests, Reclaims, Abandons, Runs, none, more, initial, answer}

pub goes_good : {w x : State} → Goes w x → Invariant w → Invariant x
goes_good (Begins {w = w} s n p args m) g = begin_good w g s n p args m
goes_good (Steps {w = w} s c m) g = step_good w g s c m
goes_good (Commits {w = w} s c i e z) g = commit_good w g s c i e z
goes_good (Aborts {w = w} s c i e z) g = abort_good w g s c i e z
goes_good (Gives_up {w = w} s c i) g = give_up_good w g s c i
goes_good (Starts {w = w} k e) g = start_good w g k e
goes_good (Resolves {w = w} e a) g = resolve_good w g e a
goes_good (Captures {w = w} b e a k) g = capture_good w g b e a (λ f. k ∙ ap is_full f)
goes_good (Visits {w = w} k v m) g = visit_good w g k v m
goes_good (Completes {w = w} e d) g = complete_good w g e d
goes_good (Rests {w = w} e a) g = rest_good w g e a
goes_good (Reclaims {w = w} k v m) g = reclaim_good w g k v m
goes_good (Abandons {w = w} (inl e)) g = abandon_good w g Resolve e refl refl
goes_good (Abandons {w = w} (inr e)) g = abandon_good w g Capture e refl refl

pub runs_good : {a w : State} → Runs a w → Invariant a → Invariant w
runs_good none g = g
runs_good (more r s) g = goes_good s (runs_good r g)

same_base : {w x : State} → Goes w x → (x.catalog ≡ w.catalog) × (x.opening ≡ w.opening)
same_base (Begins s n p args m) = (refl, refl)
same_base _ = (refl, refl)

-- catalog and opening stay
kept_base : {a w : State} → Runs a w → (w.catalog ≡ a.catalog) × (w.opening ≡ a.opening)
kept_base none = (refl, refl)
kept_base (more r s) = ((same_base s).0 ∙ (kept_base r).0, (same_base s).1 ∙ (kept_base r).1)

-- each answered call once
goes_calls : {w x : State} (g : Goes w x) → (l : List Record) → calls_of w.log ≡ l → calls_of x.log ≡ with_answer g l
goes_calls (Commits s c i f z) l e = ap (λ k. answer s c ∷ k) e
goes_calls (Aborts s c i f z) l e = ap (λ k. answer s c ∷ k) e
goes_calls _ l e = e

runs_calls : {a w : State} (r : Runs a w) → calls_of a.log ≡ [] → calls_of w.log ≡ answers r
runs_calls none e = e
runs_calls (more r s) e = goes_calls s (answers r) (runs_calls r e)

-- each open call is what its begin made it
shown_cond : (b : Bool) (x y : Option Open) → begun_of (cond b x y) ≡ cond b (begun_of x) (begun_of y)
shown_cond true x y = refl
shown_cond false x y = refl

shown_restarted : (o : Option Open) → begun_of (restarted_open o) ≡ begun_of o
shown_restarted None = refl
shown_restarted (Some c) = refl

put_shown : (calls : CallsBySession) (s : ℕ) (o : Option Open) (b : ℕ → Option Begun) → ((t : ℕ) → b t ≡ begun_of (calls t)) → (t : ℕ) → cond (t == s) (begun_of o) (b t) ≡ begun_of (put calls s o t)
put_shown calls s o b e t = ap (cond (t == s) (begun_of o)) (e t) ∙ sym (shown_cond (t == s) o (calls t))

same_shown :
    (calls : CallsBySession) (s : ℕ) (c c' : Open) → calls s ≡ Some c → begun_of (Some c') ≡ begun_of (Some c) → (t : ℕ) (b : Bool) → (t == s) ≡ b →
    begun_of (calls t) ≡ begun_of (cond b (Some c') (calls t))
same_shown calls s c c' i e t true f = ap (λ u. begun_of (calls u)) (eqb-true t s f) ∙ ap begun_of i ∙ sym e
same_shown calls s c c' i e t false f = refl

goes_open : {w x : State} (g : Goes w x) (b : ℕ → Option Begun) → ((t : ℕ) → b t ≡ begun_of (w.calls t)) → (t : ℕ) → open_after g b t ≡ begun_of (x.calls t)
goes_open (Begins {w = w} s n p args m) b e t = put_shown w.calls s (Some (begun w n p args)) b e t
goes_open (Steps {w = w} s c m) b e t = e t ∙ same_shown w.calls s c (stepped w.versions c) m.is refl t (t == s) refl
goes_open (Commits {w = w} s c i f z) b e t = put_shown w.calls s None b e t
goes_open (Aborts {w = w} s c i f z) b e t = put_shown w.calls s None b e t
goes_open (Gives_up {w = w} s c i) b e t = put_shown w.calls s None b e t
goes_open (Abandons {w = w} f) b e t = e t ∙ sym (shown_restarted (w.calls t))
goes_open _ b e t = e t

runs_open : {a w : State} (r : Runs a w) → ((t : ℕ) → None ≡ begun_of (a.calls t)) → (t : ℕ) → open_of r t ≡ begun_of (w.calls t)
runs_open none e t = e t
runs_open (more r s) e t = goes_open s (open_of r) (runs_open r e) t

-- chains
module _ (c : List Procedure) (t : Table) (h : List Record) (f : ℕ) where
  pub taken : (i : MachineImage) (is : List MachineImage) → Among i is → AllFinished c t h f is → IsFinishedImage c t h f i
  taken i [] a x = absurd a
  taken i (j ∷ js) (inl e) x = subst (IsFinishedImage c t h f) (sym e) x.0
  taken i (j ∷ js) (inr a) x = taken i js a x.1

  module _ (is : List MachineImage) (images : AllFinished c t h f is) where
    full_of : (i : MachineImage) → Among i is → i.kind ≡ Full → IsFull c t (before i.number h) i
    full_of i a e = subst (λ k. IsCut c t (before i.number h) k i) e (taken i is a images).cut

    partial_of : (i : MachineImage) → Among i is → i.kind ≡ Partial → IsPartial c t (before i.number h) i
    partial_of i a e = subst (λ k. IsCut c t (before i.number h) k i) e (taken i is a images).cut

    -- a partial image leads from the cut of its base to its own
    link : (m : Table) (p : MachineImage) → Among p is → p.kind ≡ Partial → m ≡ at c t p.base h → merged m p.entries ≡ at c t p.number h
    link m p a e s = same_table _ _ (λ q.
        value_at-merged m p.entries q
        ∙ ap (λ o. changed_or o (value_at m q)) ((partial_of p a e).entries q)
        ∙ at_key q (since c t (history_last_finished (before p.number h)) (before p.number h) q) refl)
      where
        at_key :
            (q : Bytes) (b : Bool) → since c t (history_last_finished (before p.number h)) (before p.number h) q ≡ b →
            changed_or (cond b (Some (value_at (at c t p.number h) q)) None) (value_at m q) ≡ value_at (at c t p.number h) q
        at_key q true i = refl
        at_key q false i =
            ap (λ x. value_at x q) s
            ∙ ap (λ x. value_at (history_table c t x) q) (sym ((taken p is a images).inner e))
            ∙ ap (λ x. value_at (history_table c t (before x (before p.number h))) q) (partial_of p a e).base
            ∙ sym (since_unchanged c t (history_last_finished (before p.number h)) (before p.number h) q i)

    chain_cut : (m : Table) (n : ℕ) → m ≡ at c t n h → (ps : List MachineImage) → AllAmong ps is → MachineStandOn n ps → merged_all m ps ≡ at c t (last_machine_number n ps) h
    chain_cut m n s [] a x = s
    chain_cut m n s (p ∷ ps) a x =
        chain_cut (merged m p.entries) p.number (link m p a.0 x.0 (s ∙ ap (λ b. at c t b h) (sym x.1))) ps a.1 x.2

    full_table : (i : MachineImage) → Among i is → i.kind ≡ Full → machine_table i ≡ at c t i.number h
    full_table i a e = same_table _ _ (λ q.
        value_at-merged no_table i.entries q
        ∙ ap₂-or (change_at i.entries q) (in_full (value_at (at c t i.number h) q)) (value_at no_table q) None ((full_of i a e).entries q) (value_at-no_table q)
        ∙ or_present (value_at (at c t i.number h) q))
      where
        ap₂-or : (a b : Option Cell) (x y : Cell) → a ≡ b → x ≡ y → changed_or a x ≡ changed_or b y
        ap₂-or a b x y p q = λ i. changed_or (p i) (q i)

        or_present : (x : Cell) → changed_or (in_full x) None ≡ x
        or_present None = refl
        or_present (Some v) = refl

-- checkpoint 0 is the opening
resolve_above : (p : Phase) (n m f : ℕ) → Follows p n Resolve m → f + pending p ≤ n → m ≡ 0 → ⊥
resolve_above Prepare n m f g l z = absurd (omega arith)
resolve_above _ n m f g l z = g

pub before_zero : (h : List Record) → IsCyclicHistory h → before 0 h ≡ []
unfolding before
before_zero [] c = refl
before_zero (Token Resolve m ∷ h) c =
    ap (λ b. cond b h (before 0 h)) (ne_eqb m 0 (resolve_above (history_phase h) (history_number h) m (history_last_finished h) c.0 (finished_below h c.1))) ∙ before_zero h c.1
before_zero (Call s n p args o r ∷ h) c = before_zero h c
before_zero (Token _ m ∷ h) c = before_zero h c.1

pub opening_at : (c : List Procedure) (t : Table) (h : List Record) → IsCyclicHistory h → t ≡ at c t 0 h
unfolding history_table
opening_at c t h cyc = ap (history_table c t) (sym (before_zero h cyc))

module _ (c : List Procedure) (t : Table) (w : State) (r : Runs (initial c t) w) where
  start_catalog : (initial c t).catalog ≡ c
  unfolding initial
  start_catalog = refl

  start_opening : (initial c t).opening ≡ t
  unfolding initial
  start_opening = refl

  start_calls : calls_of (initial c t).log ≡ []
  unfolding initial
  start_calls = refl

  start_open : (s : ℕ) → None ≡ begun_of ((initial c t).calls s)
  unfolding initial
  start_open s = refl

  pub good : Invariant w
  good = runs_good r (initial_good c t)

  is_c : w.catalog ≡ c
  is_c = (kept_base r).0 ∙ start_catalog

  is_t : w.opening ≡ t
  is_t = (kept_base r).1 ∙ start_opening

  legal_here : IsLegalHistory c t w.log
  legal_here = subst (λ x. IsLegalHistory x t w.log) is_c (subst (λ x. IsLegalHistory w.catalog x w.log) is_t good.lawful.legal)

  pub images_here : AllFinished c t w.log w.finished w.images
  images_here = subst (λ x. AllFinished x t w.log w.finished w.images) is_c (subst (λ x. AllFinished w.catalog x w.log w.finished w.images) is_t good.images)

  pub history : History c t w r
  history = record { legal = legal_here; orderly = good.lawful.orderly; cyclic = good.lawful.cyclic; once = runs_calls r start_calls; begun = runs_open r start_open }

  pub checkpoints : Checkpoints c t w
  checkpoints =
      record {
        full = full_of c t w.log w.finished w.images images_here;
        partial = partial_of c t w.log w.finished w.images images_here;
        opening_chain = λ ps a x. chain_cut c t w.log w.finished w.images images_here t 0 (opening_at c t w.log good.lawful.cyclic) ps a x;
        chain = λ i ai e ps a x. chain_cut c t w.log w.finished w.images images_here (machine_table i) i.number (full_table c t w.log w.finished w.images images_here i ai e) ps a x;
      }
