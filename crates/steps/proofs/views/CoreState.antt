-- What a core's fields say, by the machine's state for which they stand.
use Rattle.std.proofs.Common.{Bool, true, ◌≡◌, ℕ, ◌<◌, cond, List, [], length, map, reverse, Option, Some, None, option_map, slice_get, slice_set, slice_index_or, Vec, inl, inr, refl, sym, ap, ◌∙◌, subst, length-set, get_or-set_other}
use Rattle.std.proofs.lemmas.List.{length-map, map-set, get_or-set_same}
use Rattle.std.proofs.lemmas.Bool.{cases_eq, ne_eqb, eq-eqb}
use Rattle.procedure.specs.Bytes.{Bytes}
use Rattle.procedure.specs.Table.{Changes}
use Rattle.image.specs.Images.{Image}
use Rattle.image.specs.declared.headers.Header.{Header}
use Rattle.record_store.specs.Stores.{Slots}
use Rattle.steps.specs.Versions.{VersionsByKey, versions_in}
use Rattle.steps.specs.inside.CheckpointFields.{IsHead, ScansIn, is_unfinished, machine_image, spots}
use Rattle.steps.specs.inside.SetAside.{AsideIn}
use Rattle.steps.specs.machine.ScheduleAnswers.{Among}
use Rattle.steps.specs.declared.reclaiming.Aside.{Aside}
use Rattle.procedure.specs.Runs.{at_start}
use Rattle.procedure.specs.declared.limits.TheConstants.{SESSIONS}
use Rattle.phase.specs.Phases.{Starts}
use Rattle.phase.specs.declared.phases.Phase.{Phase}
use Rattle.commitlog.specs.Histories as log
use Rattle.commitlog.specs.Histories.{code_of, Takes, IsAbove, IsCyclic, IsLegal, IsOrderly}
use Rattle.steps.proofs.log.SchedulePromises.{all_schedules}
use Rattle.image.specs.Merges.{table_of}
use Rattle.locktable.specs.Locks.{mode_of}
use Rattle.steps.specs.machine.NewestFirst as back
use Rattle.steps.specs.inside.CoreFields.{either, IsCore, IsOpen, SameCall, call_at, mode_held, start_of, underway, view_of}
use Rattle.steps.specs.CoreViews.{CoreView, table_now}
use Rattle.steps.specs.inside.RecordEdits.{first_noted, noted_of}
use Rattle.steps.specs.machine.Invariant.{Invariant}
use Rattle.steps.specs.machine.Machine.{Open, State, Runs, initial, Begins, MayBegin, more, now, begin, begun}
use Rattle.steps.specs.declared.calls.OpenCall.{OpenCall}
use Rattle.steps.specs.declared.checkpoints.Checkpoint.{Checkpoint}
use Rattle.steps.specs.declared.cores.Core.TheInside.{Inside}
use Rattle.steps.proofs.machine.CallInvariant.{initial_good}
use Rattle.steps.proofs.log.OldestFirst.{after-reverse, phase_of-reverse, last_number-reverse}
use Rattle.steps.proofs.machine.ScheduleInvariant.{runs_good}

module _ {A : Type 0} where
  module _ (c : Inside A) (ok : IsCore c) where
    pub good : Invariant ok.world
    good = runs_good ok.run (initial_good c.catalog (table_of c.opening))

    -- the table after the log
    pub now_is : now ok.world ≡ table_now (view_of c)
    now_is =
        sym (after-reverse ok.world.catalog ok.world.opening ok.world.log)
        ∙ ap (λ k. log.after k ok.world.opening (reverse ok.world.log)) ok.stands.catalog
        ∙ ap (λ t. log.after c.catalog t (reverse ok.world.log)) ok.stands.opening
        ∙ ap (log.after c.catalog (table_of c.opening)) ok.stands.log

    pub phase_is : c.phase ≡ log.phase_of c.log.records
    phase_is = sym ok.stands.phase ∙ sym good.lawful.phase ∙ sym (phase_of-reverse ok.world.log) ∙ ap log.phase_of ok.stands.log

    pub phase_by : {v : CoreView} {p : Phase} → view_of c ≡ v → log.phase_of v.log ≡ p → c.phase ≡ p
    phase_by same e = phase_is ∙ ap (λ (v : CoreView). log.phase_of v.log) same ∙ e

    pub last_is : (s : ℕ) → back.history_last_number s ok.world.log ≡ log.last_number s c.log.records
    last_is s = sym (last_number-reverse s ok.world.log) ∙ ap (log.last_number s) ok.stands.log

    pub sessions_seen : {v : CoreView} → view_of c ≡ v → length v.calls ≡ SESSIONS
    sessions_seen same = sym (ap (λ (v : CoreView). length v.calls) same) ∙ length-map c.calls.items (option_map underway) ∙ ok.sessions

    -- the log is one history
    pub history : IsLegal c.catalog (table_of c.opening) c.log.records × IsOrderly c.log.records × IsCyclic c.log.records
    history =
        let one = (all_schedules c.catalog (table_of c.opening) ok.world ok.run).0 in
        (subst (IsLegal c.catalog (table_of c.opening)) ok.stands.log one.legal, subst IsOrderly ok.stands.log one.orderly, subst IsCyclic ok.stands.log one.cyclic)

    -- another store, and what else a scan and a reclaim change, stand for another state at the same place of the log
    pub stored_core :
        (store : Slots) (aside : Aside) (k : Checkpoint A) (vs : VersionsByKey) (given : Changes) (seen : Bytes → Bool) →
        k.number ≡ c.checkpoint.number → k.finished ≡ c.checkpoint.finished → k.kind ≡ c.checkpoint.kind → k.place ≡ c.checkpoint.place →
        Runs (initial c.catalog (table_of c.opening)) (record ok.world { versions = vs; given = given; visited = seen }) → ((q : Bytes) → vs q ≡ versions_in store q) →
        ScansIn ok.world.phase k (spots k.kind store c.changed.frozen) seen ok.world.bound given →
        ((i : Image) → k.waiting ≡ Some i → Among (machine_image i) ok.world.images) → ((h : Header) → k.header ≡ Some h → IsHead k.given.entries ok.world.images h) →
        (is_unfinished ok.world.phase ≡ true → k.header ≡ None) → AsideIn aside store (either c.changed) c.locks →
        IsCore (record c { store = store; aside = aside; checkpoint = k })
    stored_core store aside k vs given seen number finished kind place run versions scan waits heads none_yet reasons = record {
      world = record ok.world { versions = vs; given = given; visited = seen };
      run = run;
      stands = record {
        catalog = ok.stands.catalog;
        opening = ok.stands.opening;
        log = ok.stands.log;
        calls = ok.stands.calls;
        versions = versions;
        collecting = ok.stands.collecting;
        frozen = ok.stands.frozen;
        locks = ok.stands.locks;
        phase = ok.stands.phase;
        checkpoint = record {
          number = ok.stands.checkpoint.number ∙ sym number;
          finished = ok.stands.checkpoint.finished ∙ sym finished;
          kind = ok.stands.checkpoint.kind ∙ sym kind;
          place = λ cutting. ok.stands.checkpoint.place cutting ∙ sym place;
          scan = scan;
          waits = waits;
          heads = heads;
          none_yet = none_yet;
        };
      };
      lawful = ok.lawful;
      opens = ok.opens;
      small = ok.small;
      sessions = ok.sessions;
      tables = ok.tables;
      starts = ok.starts;
      numbers = ok.numbers;
      last = ok.last;
      aside = reasons;
    }

    -- where no call is kept, none is open
    pub none_open : (s : ℕ) → call_at c s ≡ None → ok.world.calls s ≡ None
    none_open s e = by (call_at c s) (ok.world.calls s) e (ok.stands.calls s)
      where
        by : (k : Option (OpenCall A)) (o : Option Open) → k ≡ None → SameCall k o → o ≡ None
        by None None e x = refl
        by None (Some o) e x = absurd x
        by (Some k) o e x = absurd (cc)

    -- where a call is kept, one is open
    pub some_open : (s : ℕ) (k : OpenCall A) → call_at c s ≡ Some k → (o : Open) × (ok.world.calls s ≡ Some o) × IsOpen k o
    some_open s k e = by (call_at c s) (ok.world.calls s) e refl (ok.stands.calls s)
      where
        by : (x : Option (OpenCall A)) (y : Option Open) → x ≡ Some k → y ≡ ok.world.calls s → SameCall x y → (o : Open) × (ok.world.calls s ≡ Some o) × IsOpen k o
        by None y e f x = absurd (cc)
        by (Some j) None e f x = absurd x
        by (Some j) (Some o) e f x = (o, sym f, subst (λ (j : OpenCall A). IsOpen j o) (cc) x)

  -- A CALL BEGINS

  -- a call as it begins
  pub record IsNew (c : Inside A) (call : OpenCall A) : Type 0 where
    pub start : call.start ≡ c.phase
    pub count : call.executed ≡ 0
    pub progress : call.machine.progress ≡ at_start (code_of c.catalog call.procedure)
    pub notes : call.notes.items ≡ []

  -- the core with these calls
  abbrev pub with_calls : Inside A → Vec (Option (OpenCall A)) A → Starts → Inside A
  with_calls c calls active = record c { calls = calls; active = active }

  module _ (c : Inside A) (ok : IsCore c) (s : ℕ) (call : OpenCall A) (calls : Vec (Option (OpenCall A)) A) (active : Starts) where
    abbrev after_begin : State
    after_begin = begin ok.world s call.number call.procedure call.machine.args

    same_code : code_of ok.world.catalog call.procedure ≡ code_of c.catalog call.procedure
    same_code = ap (λ k. code_of k call.procedure) ok.stands.catalog

    new_open : IsNew c call → IsOpen call (begun ok.world call.number call.procedure call.machine.args)
    new_open n = record {
      number = refl;
      procedure = refl;
      args = refl;
      start = ok.stands.phase ∙ sym n.start;
      count = sym n.count;
      progress = ap at_start same_code ∙ sym n.progress;
      notes = λ q. sym (ap (λ l. first_noted (map noted_of l) q) n.notes);
    }

    begin_calls : IsNew c call → s < SESSIONS → calls.items ≡ slice_set c.calls.items s (Some call) → (t : ℕ) → SameCall (call_at (with_calls c calls active) t) (after_begin.calls t)
    begin_calls n lt e t =
        elim (cases_eq t s) [
          | inl is ↦
              subst (λ (k : Option (OpenCall A)). SameCall k (after_begin.calls t))
              (sym (ap (λ (l : List (Option (OpenCall A))). slice_index_or l t None) e ∙ ap (λ j. slice_index_or (slice_set c.calls.items s (Some call)) j None) is
              ∙ get_or-set_same c.calls.items s (Some call) None (rw (ok.sessions) lt)))
              (subst (λ (o : Option Open). SameCall (Some call) o) (sym (ap (λ b. cond b (Some (begun ok.world call.number call.procedure call.machine.args)) (ok.world.calls t)) (eq-eqb t s is)))
              (new_open n))
          | inr differs ↦
              subst (λ (k : Option (OpenCall A)). SameCall k (after_begin.calls t))
              (sym (ap (λ (l : List (Option (OpenCall A))). slice_index_or l t None) e ∙ get_or-set_other c.calls.items s t (Some call) None differs))
              (subst (λ (o : Option Open). SameCall (call_at c t) o) (sym (ap (λ b. cond b (Some (begun ok.world call.number call.procedure call.machine.args)) (ok.world.calls t))
              (ne_eqb t s differs))) (ok.stands.calls t))
        ]

    may_begin :
        s < SESSIONS → call_at c s ≡ None → Takes (slice_get c.catalog call.procedure) (length call.machine.args) → IsAbove (log.last_number s c.log.records) call.number →
        MayBegin ok.world s call.number call.procedure call.machine.args
    may_begin lt free takes above = record {
      free = none_open c ok s free;
      procedure = subst (λ k. Takes (slice_get k call.procedure) (length call.machine.args)) (sym ok.stands.catalog) takes;
      number = subst (λ m. IsAbove m call.number) (sym (last_is c ok s)) above;
    }

    begin_locks : call_at c s ≡ None → (t : ℕ) (q : Bytes) → mode_of c.locks t q ≡ mode_held (after_begin.calls t) q
    begin_locks free t q =
        elim (cases_eq t s) [
          | inl is ↦
              ok.stands.locks t q ∙ ap (λ o. mode_held o q) (ap ok.world.calls is ∙ none_open c ok s free)
              ∙ sym (ap (λ b. mode_held (cond b (Some (begun ok.world call.number call.procedure call.machine.args)) (ok.world.calls t)) q) (eq-eqb t s is))
          | inr differs ↦
              ok.stands.locks t q ∙ sym (ap (λ b. mode_held (cond b (Some (begun ok.world call.number call.procedure call.machine.args)) (ok.world.calls t)) q) (ne_eqb t s differs))
        ]

    -- the core with the call begun is one
    pub begin_core :
        IsNew c call → s < SESSIONS → call_at c s ≡ None → Takes (slice_get c.catalog call.procedure) (length call.machine.args) → IsAbove (log.last_number s c.log.records) call.number →
        calls.items ≡ slice_set c.calls.items s (Some call) → active ≡ slice_set c.active s (Some c.phase) → IsCore (with_calls c calls active)
    begin_core n lt free takes above e f = record {
      world = after_begin;
      run = more ok.run (Begins s call.number call.procedure call.machine.args (may_begin lt free takes above));
      stands = record {
        catalog = ok.stands.catalog;
        opening = ok.stands.opening;
        log = ok.stands.log;
        calls = begin_calls n lt e;
        versions = ok.stands.versions;
        collecting = ok.stands.collecting;
        frozen = ok.stands.frozen;
        locks = begin_locks free;
        phase = ok.stands.phase;
        checkpoint = ok.stands.checkpoint;
      };
      lawful = ok.lawful;
      opens = ok.opens;
      small = ok.small;
      sessions = ap length e ∙ length-set c.calls.items s (Some call) ∙ ok.sessions;
      tables = ok.tables;
      starts =
          f ∙ ap (λ l. slice_set l s (Some c.phase)) ok.starts ∙ ap (slice_set (map start_of c.calls.items) s) (ap (λ p. Some p) (sym n.start)) ∙ sym (map-set start_of c.calls.items s (Some call))
          ∙ ap (map start_of) (sym e);
      numbers = ok.numbers;
      last = ok.last;
      aside = ok.aside;
    }
