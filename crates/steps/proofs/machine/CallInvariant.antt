-- Each step keeps all that holds: calls.
use Rattle.std.proofs.Common.{◌≡◌, ℕ, Bool, true, false, cond, ◌||◌, List, [], ◌∷◌, Option, Some, None, refl, sym, ap, ◌∙◌, subst, inl, inr, true≢false, is_some, le_refl}
use Rattle.std.specs.Prelude.{◌==◌}
use Rattle.std.proofs.lemmas.Bool.{eq-eqb}
use Rattle.phase.specs.declared.phases.Phase.{Phase}
use Rattle.phase.specs.declared.phases.Phase.TheVariants.{Rest}
use Rattle.procedure.proofs.Base.{change_at-none}
use Rattle.procedure.specs.Bytes.{Bytes, Cell, same}
use Rattle.procedure.specs.Needs.{Touch, Nothing, Reads, Writes}
use Rattle.procedure.specs.Procedures.{Procedure}
use Rattle.procedure.specs.Runs.{front, next_touch, next_becomes, has_ended}
use Rattle.procedure.specs.Table.{Table, value_at, change_at, no_changes, merged}
use Rattle.steps.proofs.machine.OpenCalls.{yes_no, none_some, put_some, put_none, put_other, same_or_other}
use Rattle.steps.proofs.machine.CallEnds.{after_commit, after_abort, committed_commit, committed_abort, answer_lawful, finish_others, still_apart, commit_machines, commit_lives, undo_machines, undo_lives}
use Rattle.steps.proofs.machine.HistoryGrowth.{sets_call, images_grow}
use Rattle.steps.proofs.machine.CallStatuses.{begin_status, step_statuses, commit_statuses, undo_statuses}
use Rattle.steps.proofs.machine.InstructionSteps.{step_machines, step_apart, step_lives}
use Rattle.steps.specs.machine.NewestFirst.{history_table, before, since, at, history_last_finished}
use Rattle.steps.specs.machine.Invariant.{Invariant, IsAlone, Machines, MayFinish, Apart, IsApart, Unchanged, Held, Early, Lives, Started, starts, Statuses, status, passed}
use Rattle.steps.specs.Refusals.{is_cutting}
use Rattle.steps.specs.Versions.{undo_of, KeyVersions, opened_versions, live_version, wrote_key, wrote, found, kept_key, undone_key}
use Rattle.steps.specs.machine.Machine.{Open, State, answer, initial, begin, begun, step, stepped, commit, abort, give_up, put, now, MayBegin, MayStep}

opened_status : (o a b : Cell) (vis fro : Bool) (U H E : Type 0) → status Rest a b vis fro U H E (opened_versions o)
opened_status None a b vis fro U H E = tt
opened_status (Some x) a b vis fro U H E = tt

opened_live : (o : Cell) → live_version (opened_versions o) ≡ o
opened_live None = refl
opened_live (Some x) = refl

pub initial_good : (cat : List Procedure) (t : Table) → Invariant (initial cat t)
unfolding initial history_table before since history_last_finished
initial_good cat t =
    record {
      lawful = record { legal = tt; orderly = tt; cyclic = tt; phase = refl; number = refl; finished = refl };
      machines = λ s c e. none_some e;
      finishing = λ s c e. none_some e;
      apart = λ s c e. none_some e;
      lives = record { own = λ s c e. none_some e; table = λ q un. opened_live (value_at t q) };
      started = λ s c e. none_some e;
      statuses = λ q. opened_status (value_at t q) (value_at t q) (value_at (at cat t 0 []) q) false false (Unchanged (λ s. None) q) (Held (λ s. None) q) (Early (λ s. None) q);
      recorded = λ q e. absurd (true≢false (sym e));
      sets = record { collecting = λ q. refl; frozen = λ q. refl };
      scan = tt;
      images = tt;
    }

same_phase : (p : Phase) → starts p p ≡ true
same_phase Rest = refl
same_phase _ = refl

module _ (w : State) (good : Invariant w) where
  module _ (s n p : ℕ) (args : List Bytes) (may : MayBegin w s n p args) where
    abbrev new : Open
    new = begun w n p args

    begin_alone : IsAlone w.catalog (now w) new
    unfolding front
    begin_alone = record { machine = refl; undo = λ q. ap (λ o. undo_of o (value_at (now w) q)) (sym (change_at-none q)) }

    begin_apart : Apart (put w.calls s (Some new))
    begin_apart =
        put_some (λ a x. (u : ℕ) (d : Open) → put w.calls s (Some new) u ≡ Some d → (a == u) ≡ false → IsApart x.machine d.machine) w.calls s new
        (put_some (λ u d. (s == u) ≡ false → IsApart new.machine d.machine) w.calls s new
        (λ ne. yes_no (eq-eqb s s refl) ne) (λ u d ne h _ q e. absurd (true≢false (sym e))))
        (λ a x ne h. put_some (λ u d. (a == u) ≡ false → IsApart x.machine d.machine) w.calls s new
        (λ _ q e. (refl, refl)) (λ u d _ hu ne2. good.apart a x h u d hu ne2))

    begin_lives : Lives (now w) (put w.calls s (Some new)) w.versions
    begin_lives =
        record {
          own = put_some (λ u d. (q : Bytes) (x : Cell) → change_at d.machine.changes q ≡ Some x → (v : KeyVersions) × (w.versions q ≡ Some v) × (v.live ≡ x)) w.calls s new
              (λ q x e. none_some (sym (change_at-none q) ∙ e)) (λ u d ne h q x e. good.lives.own u d h q x e);
          table = λ q un. good.lives.table q (λ u d h. elim (same_or_other u s) [
            | inl i ↦ none_some (sym (ap w.calls i ∙ may.free) ∙ h)
            | inr ne ↦ un u d (put_other w.calls s (Some new) u ne ∙ h)
          ]);
        }

    pub begin_good : Invariant (begin w s n p args)
    begin_good =
        record {
          lawful = good.lawful;
          machines = put_some (λ u d. IsAlone w.catalog (now w) d) w.calls s new begin_alone (λ u d ne h. good.machines u d h);
          finishing = put_some (λ u d. MayFinish w.catalog w.log u d) w.calls s new (record { procedure = may.procedure; number = may.number }) (λ u d ne h. good.finishing u d h);
          apart = begin_apart;
          lives = begin_lives;
          started = put_some (λ u d. starts w.phase d.start ≡ true) w.calls s new (same_phase w.phase) (λ u d ne h. good.started u d h);
          statuses = λ q. begin_status w.calls s new may.free change_at-none q w.phase _ _ _ _ _ (good.statuses q);
          recorded = good.recorded;
          sets = good.sets;
          scan = good.scan;
          images = good.images;
        }

  -- a key without a record is in neither set
  unrecorded : (q : Bytes) → w.versions q ≡ None → w.frozen q ≡ false
  unrecorded q e = at (w.collecting q) (w.frozen q) (good.recorded q)
    where
      at : (a b : Bool) → ((a || b) ≡ true → is_some (w.versions q) ≡ true) → b ≡ false
      at a false f = refl
      at true true f = yes_no (f refl) (ap is_some e)
      at false true f = yes_no (f refl) (ap is_some e)

  module _ (s : ℕ) (c : Open) (may : MayStep w s c) where
    wrote_some : (p st : Phase) (n : Touch) (b : Option Cell) (q : Bytes) → is_some (w.versions q) ≡ true → is_some (wrote_key p st n b w.versions q) ≡ true
    wrote_some p st Nothing b q e = e
    wrote_some p st (Reads k) b q e = e
    wrote_some p st (Writes k) None q e = e
    wrote_some p st (Writes k) (Some y) q e = at (wrote p st (w.versions k) y) (same q k) (w.versions q) e
      where
        at : (v : KeyVersions) (b : Bool) (o : Option KeyVersions) → is_some o ≡ true → is_some (cond b (Some v) o) ≡ true
        at v true o e = refl
        at v false o e = e

    pub step_good : Invariant (step w s c)
    step_good =
        let n = next_touch c.args c.machine in
        let b = next_becomes c.args c.machine (found w.versions n) in
        record {
          lawful = good.lawful;
          machines = step_machines w.catalog (now w) w.calls w.versions good.machines good.apart good.lives s c may.is may.clear;
          finishing =
              put_some (λ u d. MayFinish w.catalog w.log u d) w.calls s (stepped w.versions c)
              (record { procedure = (good.finishing s c may.is).procedure; number = (good.finishing s c may.is).number }) (λ u d ne h. good.finishing u d h);
          apart = step_apart w.catalog (now w) w.calls w.versions good.machines good.apart good.lives s c may.is may.clear;
          lives = step_lives w.catalog (now w) w.calls w.versions good.machines good.apart good.lives s c may.is w.phase c.start may.clear;
          started = put_some (λ u d. starts w.phase d.start ≡ true) w.calls s (stepped w.versions c) (good.started s c may.is) (λ u d ne h. good.started u d h);
          statuses =
              step_statuses w.catalog (now w) w.calls w.versions good.machines good.apart good.lives s c may.is w.phase (good.started s c may.is) may.clear _
              (passed w.all w.visited w.bound) w.frozen unrecorded good.statuses;
          recorded = λ q e. wrote_some w.phase c.start n b q (good.recorded q e);
          sets = good.sets;
          scan = good.scan;
          images = good.images;
        }

  module _ (s : ℕ) (c : Open) (is : w.calls s ≡ Some c) where
    still_started : Started w.phase (put w.calls s None)
    still_started = put_none (λ u d. starts w.phase d.start ≡ true) w.calls s (λ u d ne h. good.started u d h)

    kept_some : (st p : Phase) (o : Option Cell) (v : Option KeyVersions) → is_some v ≡ true → is_some (kept_key st p o v) ≡ true
    kept_some st p None v e = e
    kept_some st p (Some x) None e = e
    kept_some st p (Some x) (Some v) e = refl

    undone_some : (o : Option Cell) (v : Option KeyVersions) → is_some v ≡ true → is_some (undone_key o v) ≡ true
    undone_some None v e = e
    undone_some (Some x) None e = e
    undone_some (Some x) (Some v) e = refl

    committed_some : (q : Bytes) (o : Option Cell) → change_at c.machine.changes q ≡ o → ((is_some o || w.collecting q) || w.frozen q) ≡ true → is_some (w.versions q) ≡ true
    committed_some q None i e = good.recorded q e
    committed_some q (Some x) i e = let (v, j, l) = good.lives.own s c is q x i in ap is_some j

    pub give_up_good : Invariant (give_up w s c)
    give_up_good =
        record {
          lawful = good.lawful;
          machines = undo_machines w.catalog (now w) w.calls w.versions good.machines good.apart good.lives s c is;
          finishing = put_none (λ u d. MayFinish w.catalog w.log u d) w.calls s (λ u d ne h. good.finishing u d h);
          apart = still_apart w.catalog (now w) w.calls w.versions good.machines good.apart good.lives s c is;
          lives = undo_lives w.catalog (now w) w.calls w.versions good.machines good.apart good.lives s c is;
          started = still_started;
          statuses = undo_statuses w.catalog (now w) w.calls w.versions good.machines good.apart good.lives s c is w.phase _ (passed w.all w.visited w.bound) w.frozen good.statuses;
          recorded = λ q e. undone_some (c.undo q) (w.versions q) (good.recorded q e);
          sets = good.sets;
          scan = good.scan;
          images = good.images;
        }

    module _ (ended : has_ended c.machine ≡ true) where
      pub abort_good : (c.machine.outcome == 0) ≡ false → Invariant (abort w s c)
      unfolding before
      abort_good z =
          let e : history_table w.catalog w.opening (answer s c ∷ w.log) ≡ now w = after_abort w.catalog w.opening w.log s c (good.machines s c is) ended z in
          record {
            lawful = answer_lawful w.catalog w.opening w.log s c (good.machines s c is) ended w.phase w.number w.finished (good.finishing s c is) good.lawful;
            machines = subst (λ x. Machines w.catalog x (put w.calls s None)) (sym e) (undo_machines w.catalog (now w) w.calls w.versions good.machines good.apart good.lives s c is);
            finishing = finish_others w.catalog w.log w.calls s c good.finishing;
            apart = still_apart w.catalog (now w) w.calls w.versions good.machines good.apart good.lives s c is;
            lives =
                subst (λ x. Lives x (put w.calls s None) (λ q. undone_key (c.undo q) (w.versions q))) (sym e)
                (undo_lives w.catalog (now w) w.calls w.versions good.machines good.apart good.lives s c is);
            started = still_started;
            statuses =
                subst (λ x. Statuses w.phase x (at w.catalog w.opening w.number w.log) (put w.calls s None) (λ q. undone_key (c.undo q) (w.versions q)) (passed w.all w.visited w.bound) w.frozen)
                (sym e)
                (undo_statuses w.catalog (now w) w.calls w.versions good.machines good.apart good.lives s c is w.phase _ (passed w.all w.visited w.bound) w.frozen good.statuses);
            recorded = λ q e. undone_some (c.undo q) (w.versions q) (good.recorded q e);
            sets = sets_call w.catalog w.opening (is_cutting w.phase) w.log w.number w.finished w.collecting w.collecting w.frozen s c no_changes
                (committed_abort w.catalog w.opening w.log s c (good.machines s c is) ended z) (λ q. ap (λ o. is_some o || w.collecting q) (sym (change_at-none q))) good.sets;
            scan = good.scan;
            images = images_grow w.catalog w.opening w.log (answer s c) w.finished w.finished (λ n l. refl) (le_refl _) w.images good.images;
          }

      pub commit_good : c.machine.outcome ≡ 0 → Invariant (commit w s c)
      unfolding before
      commit_good z =
          let e : history_table w.catalog w.opening (answer s c ∷ w.log) ≡ merged (now w) c.machine.changes = after_commit w.catalog w.opening w.log s c (good.machines s c is) ended z in
          record {
            lawful = answer_lawful w.catalog w.opening w.log s c (good.machines s c is) ended w.phase w.number w.finished (good.finishing s c is) good.lawful;
            machines = subst (λ x. Machines w.catalog x (put w.calls s None)) (sym e) (commit_machines w.catalog (now w) w.calls w.versions good.machines good.apart good.lives s c is);
            finishing = finish_others w.catalog w.log w.calls s c good.finishing;
            apart = still_apart w.catalog (now w) w.calls w.versions good.machines good.apart good.lives s c is;
            lives = subst (λ x. Lives x (put w.calls s None) (λ q. kept_key c.start w.phase (change_at c.machine.changes q) (w.versions q))) (sym e)
                (commit_lives w.catalog (now w) w.calls w.versions good.machines good.apart good.lives s c is c.start w.phase);
            started = still_started;
            statuses = subst (λ x. Statuses w.phase x (at w.catalog w.opening w.number w.log) (put w.calls s None) (λ q. kept_key c.start w.phase (change_at c.machine.changes q) (w.versions q))
                (passed w.all w.visited w.bound) w.frozen) (sym e)
                (commit_statuses w.catalog (now w) w.calls w.versions good.machines good.apart good.lives s c is w.phase (good.started s c is) _
                (passed w.all w.visited w.bound) w.frozen good.statuses);
            recorded = λ q f. kept_some c.start w.phase (change_at c.machine.changes q) (w.versions q) (committed_some q (change_at c.machine.changes q) refl f);
            sets =
                sets_call w.catalog w.opening (is_cutting w.phase) w.log w.number w.finished w.collecting
                (λ q. is_some (change_at c.machine.changes q) || w.collecting q) w.frozen s c c.machine.changes
                (committed_commit w.catalog w.opening w.log s c (good.machines s c is) ended z) (λ q. refl) good.sets;
            scan = good.scan;
            images = images_grow w.catalog w.opening w.log (answer s c) w.finished w.finished (λ n l. refl) (le_refl _) w.images good.images;
          }
