-- A core after one instruction of a call.
use Rattle.std.proofs.Common.{◌≡◌, ℕ, suc, ◌+◌, ◌<◌, ◌≤◌, arith, Bool, true, false, cond, not, ◌&&◌, List, Option, Some, None, Ok, Err, OnOk, OnErr, IfOk, Vec, map, option_map, length, slice_get, slice_set, slice_index_or, inl, inr, refl, sym, ap, ◌∙◌, subst, length-set, get_or-set_other, IsSome}
use Rattle.std.specs.declared.result.Result.{Result}
use Rattle.std.specs.Option.{option_or}
use Rattle.std.proofs.lemmas.List.{get_or-set_same, map-set, set-get_or}
use Rattle.std.proofs.Math.ListN.{get_or-map}
use Rattle.std.proofs.lemmas.Bool.{cases_eq, eq-eqb, ne_eqb}
use Rattle.std.specs.Prelude.{if◌then◌else◌}
use Rattle.steps.proofs.reclaim.SetAside.{aside_kept, locked_still}
use Rattle.steps.specs.inside.SetAside.{IsLocked}
use Rattle.steps.specs.declared.step.Stepped.{Stepped}
use Rattle.steps.specs.declared.step.Stepped.TheVariants.{Ran, Ready}
use Rattle.procedure.specs.Bytes.{Bytes}
use Rattle.procedure.specs.Needs.{becomes_of, touch_of}
use Rattle.procedure.specs.Runs.{Execution, Progress, advanced, has_ended, is_nil, next_becomes, next_need, next_touch, reads_after, writes_after}
use Rattle.procedure.specs.declared.limits.TheConstants.{INSTRUCTIONS, SESSIONS}
use Rattle.procedure.proofs.Ending.{next_touch-progress, progress-fed, reads-fed, writes-fed}
use Rattle.commitlog.specs.Histories.{code_at, code_of, phase_of}
use Rattle.procedure.specs.Catalogs.{procedure_fault}
use Rattle.procedure.specs.Procedures.{Procedure}
use Rattle.procedure.proofs.Faults.{code_within, no_first_fault, procedures_lawful}
use Rattle.locktable.specs.Locks.{Locks, mode_of}
use Rattle.record_store.specs.Stores.{Slots}
use Rattle.steps.specs.inside.Instructions.{Advances, SameOpen, becomes_in, lacks_place, seen_in, touch_in}
use Rattle.steps.specs.machine.NewestFirst.{before}
use Rattle.steps.specs.inside.CoreFields.{IsCore, IsOpen, SameCall, call_at, mode_held, mode_by, start_of, underway, view_of, either}
use Rattle.steps.specs.CoreViews.{CoreView, OfOpen, Steps, Underway, becomes_next, front_of, is_barred, one_more, open_at, stepped_as, table_now, touch_next}
use Rattle.steps.specs.inside.RecordEdits.{first_noted, noted_of}
use Rattle.steps.specs.Versions.{versions_in, found, makes_record, slots_with, wrote_key}
use Rattle.steps.specs.inside.InstructionLocks.{AnswersTo, IsExcluded, SameLocks, grant, locked}
use Rattle.steps.specs.Refusals.{Answers, is_store_full, step_refusal, refused_unless, unstepped}
use Rattle.steps.specs.machine.Machine.{MayStep, NoConflict, Open, Steps as Goes_on, more, noted, put, step, stepped}
use Rattle.steps.specs.declared.calls.OpenCall.{OpenCall}
use Rattle.steps.specs.declared.cores.Core.TheInside.{Inside}
use Rattle.steps.specs.declared.errors.StepError.{StepError}
use Rattle.steps.specs.declared.errors.StepError.TheVariants as refused
use Rattle.steps.proofs.sessions.KeptInstructions.{becomes_is, few_executed, found_same, noted_same, wrote_same}
use Rattle.steps.proofs.sessions.BarredTouches.{barred_excluded, free_clear, unbarred_free}
use Rattle.steps.proofs.sessions.EndedCall.{is_under, within}
use Rattle.steps.proofs.sessions.LockGrants.{length_held_so, other_locks, own_locks}
use Rattle.steps.proofs.sessions.CallProgress.{open_is, progress_is}
use Rattle.steps.proofs.store.SlotEdits.{tracked_on, slots_same}
use Rattle.steps.proofs.views.CoreState.{phase_is, some_open}

-- the procedures of a core have few instructions
code_short : {A : Type 0} (c : Inside A) → IsCore c → (p : ℕ) → length (code_of c.catalog p) ≤ INSTRUCTIONS
code_short c ok p = by (slice_get c.catalog p) refl
  where
    by : (o : Option Procedure) → slice_get c.catalog p ≡ o → length (code_at o) ≤ INSTRUCTIONS
    by None e = omega arith
    by (Some x) e = code_within x (no_first_fault procedure_fault c.catalog p x (procedures_lawful c.catalog ok.lawful) (sym e))

module _ {A : Type 0} (c : Inside A) (ok : IsCore c) (s : ℕ) (call : OpenCall A) (is : call_at c s ≡ Some call) where
  abbrev opened : (o : Open) × (ok.world.calls s ≡ Some o) × IsOpen call o
  opened = some_open c ok s call is

  -- THE NEXT INSTRUCTION, AS IT IS KEPT AND AS THE MACHINE HAS IT

  need_is : next_need opened.0.args opened.0.machine.progress ≡ next_need call.machine.args call.machine.progress
  need_is = ap (λ (l : List Bytes). next_need l opened.0.machine.progress) opened.2.args ∙ ap (next_need call.machine.args) opened.2.progress

  touch_is : next_touch opened.0.args opened.0.machine ≡ touch_in call.machine
  touch_is = next_touch-progress opened.0.args opened.0.machine ∙ ap touch_of need_is

  seen_is : found ok.world.versions (next_touch opened.0.args opened.0.machine) ≡ seen_in c.store call.machine
  seen_is = ap (found ok.world.versions) touch_is ∙ found_same (touch_in call.machine) ok.world.versions (versions_in c.store) ok.stands.versions

  becomes_are : next_becomes opened.0.args opened.0.machine (found ok.world.versions (next_touch opened.0.args opened.0.machine)) ≡ becomes_in c.store call.machine
  becomes_are =
      becomes_is opened.0.args opened.0.machine (found ok.world.versions (next_touch opened.0.args opened.0.machine))
      ∙ ap (λ n. becomes_of n (found ok.world.versions (next_touch opened.0.args opened.0.machine))) need_is
      ∙ ap (becomes_of (next_need call.machine.args call.machine.progress)) seen_is

  -- AS THE VIEW HAS IT

  abbrev v : CoreView
  v = view_of c

  abbrev u : Underway
  u = underway call

  shown_need : next_need call.machine.args (front_of v u).progress ≡ next_need call.machine.args call.machine.progress
  shown_need = ap (next_need call.machine.args) (sym (progress_is c ok v refl s call is))

  pub shown_touch : touch_next v u ≡ touch_in call.machine
  shown_touch = next_touch-progress call.machine.args (front_of v u) ∙ ap touch_of shown_need

  pub shown_becomes : becomes_next v u ≡ becomes_in c.store call.machine
  shown_becomes =
      becomes_is call.machine.args (front_of v u) (found (versions_in c.store) (touch_next v u))
      ∙ ap (λ n. becomes_of n (found (versions_in c.store) (touch_next v u))) shown_need
      ∙ ap (λ n. becomes_of (next_need call.machine.args call.machine.progress) (found (versions_in c.store) n)) shown_touch

  pub shown_end : has_ended (front_of v u) ≡ is_nil call.machine.progress.rest
  shown_end = ap (λ (p : Progress). is_nil p.rest) (sym (progress_is c ok v refl s call is))

  shown_full : (is_store_full c.store && makes_record (versions_in c.store) (touch_next v u) (becomes_next v u)) ≡ lacks_place c.store call.machine
  shown_full =
      ap (λ n. is_store_full c.store && makes_record (versions_in c.store) n (becomes_next v u)) shown_touch
      ∙ ap (λ x. is_store_full c.store && makes_record (versions_in c.store) (touch_in call.machine) x) shown_becomes

  -- REFUSALS

  abbrev first_of : (a b f : Bool) → Option StepError
  first_of a b f = option_or (refused_unless (not a) refused.AlreadyReady) (option_or (refused_unless (not b) refused.Conflict) (refused_unless (not f) refused.TableFull))

  refusal_is : step_refusal v s ≡ first_of (is_nil call.machine.progress.rest) (is_barred v s (touch_in call.machine)) (lacks_place c.store call.machine)
  refusal_is =
      ap (unstepped v s) (open_is c ok v refl s call is)
      ∙ ap (λ a. first_of a (is_barred v s (touch_next v u)) (is_store_full c.store && makes_record (versions_in c.store) (touch_next v u) (becomes_next v u))) shown_end
      ∙ ap (λ n. first_of (is_nil call.machine.progress.rest) (is_barred v s n) (is_store_full c.store && makes_record (versions_in c.store) (touch_next v u) (becomes_next v u))) shown_touch
      ∙ ap (first_of (is_nil call.machine.progress.rest) (is_barred v s (touch_in call.machine))) shown_full

  bar_false : (b : Bool) {X : Type 0} → (b ≡ true → X) → (X → ⊥) → b ≡ false
  bar_false true f g = absurd (g (f refl))
  bar_false false f g = refl

  bar_true : (b : Bool) {X : Type 0} → (b ≡ false → X → ⊥) → X → b ≡ true
  bar_true true f x = refl
  bar_true false f x = absurd (f refl x)

  answered_by : {X Y : Type 0} (a b f : Bool) (r : Result X StepError) → (b ≡ true → Y) → (b ≡ false → Y → ⊥) → AnswersTo a Y f r → Answers (first_of a b f) refused.NoMemory r
  answered_by a b f (Ok x) when never y = ap (λ a. first_of a b f) y.0 ∙ ap (λ b. first_of false b f) (bar_false b when y.1) ∙ ap (first_of false false) y.2
  answered_by a b f (Err refused.NotActive) when never y = absurd y
  answered_by a b f (Err refused.AlreadyReady) when never y = inl (ap (λ a. first_of a b f) y)
  answered_by a b f (Err refused.Conflict) when never y = inl (ap (λ a. first_of a b f) y.0 ∙ ap (λ b. first_of false b f) (bar_true b never y.1))
  answered_by a b f (Err refused.TableFull) when never y = inl (ap (λ a. first_of a b f) y.0 ∙ ap (λ b. first_of false b f) (bar_false b when y.1) ∙ ap (first_of false false) y.2)
  answered_by a b f (Err refused.NoMemory) when never y = inr (ap (λ a. first_of a b f) y.0 ∙ ap (λ b. first_of false b f) (bar_false b when y.1) ∙ ap (first_of false false) y.2, refl)

  -- the answer is the refusal whose condition is the first to hold
  pub step_answers :
      {X : Type 0} (w : CoreView) → view_of c ≡ w → (r : Result X StepError) →
      AnswersTo (is_nil call.machine.progress.rest) (IsExcluded c.locks s (touch_in call.machine)) (lacks_place c.store call.machine) r → Answers (step_refusal w s) refused.NoMemory r
  step_answers {X} w same r y =
      subst (λ (w : CoreView). Answers (step_refusal w s) refused.NoMemory r) same
      (subst (λ o. Answers o refused.NoMemory r) (sym refusal_is)
      (answered_by (is_nil call.machine.progress.rest) (is_barred v s (touch_in call.machine)) (lacks_place c.store call.machine) r (barred_excluded c ok s (touch_in call.machine))
      (unbarred_free c ok s (touch_in call.machine)) y))

  -- THE CORE AFTER THE INSTRUCTION

  -- a call that goes on has executed fewer instructions than there may be
  pub few : is_nil call.machine.progress.rest ≡ false → call.executed < INSTRUCTIONS
  few e =
      let here : has_ended (front_of v u) ≡ false = shown_end ∙ e in
      omega (arith, few_executed (code_of c.catalog call.procedure) call.machine.args (table_now v) call.executed here, code_short c ok call.procedure)

  in_table : s < length c.locks
  in_table = subst (λ n. s < n) (ok.sessions ∙ sym ok.tables) (within c ok s call is)

  -- the calls, of which the session's is this now
  abbrev with_this : Option (OpenCall A) → List (Option (OpenCall A))
  with_this o = slice_set c.calls.items s o

  at_this : (d : OpenCall A) → slice_index_or (with_this (Some d)) s None ≡ Some d
  at_this d = get_or-set_same c.calls.items s (Some d) None (within c ok s call is)

  calls_stand :
      (d : OpenCall A) (o : Open) → IsOpen d o → (calls : List (Option (OpenCall A))) → calls ≡ with_this (Some d) → (t : ℕ) → SameCall (slice_index_or calls t None) (put ok.world.calls s (Some o) t)
  calls_stand d o x calls e t =
      elim (cases_eq t s) [
        | inl same ↦
            subst (λ (k : Option (OpenCall A)). SameCall k (put ok.world.calls s (Some o) t))
            (sym (ap (λ (l : List (Option (OpenCall A))). slice_index_or l t None) e ∙ ap (λ j. slice_index_or (with_this (Some d)) j None) same ∙ at_this d))
            (subst (λ (p : Option Open). SameCall (Some d) p) (sym (ap (λ b. cond {A = Option Open} b (Some o) (ok.world.calls t)) (eq-eqb t s same))) x)
        | inr differs ↦
            subst (λ (k : Option (OpenCall A)). SameCall k (put ok.world.calls s (Some o) t))
            (sym (ap (λ (l : List (Option (OpenCall A))). slice_index_or l t None) e ∙ get_or-set_other c.calls.items s t (Some d) None differs))
            (subst (λ (p : Option Open). SameCall (call_at c t) p) (sym (ap (λ b. cond {A = Option Open} b (Some o) (ok.world.calls t)) (ne_eqb t s differs))) (ok.stands.calls t))
      ]

  starts_stay : (d : OpenCall A) → d.start ≡ call.start → (calls : List (Option (OpenCall A))) → calls ≡ with_this (Some d) → c.active ≡ map start_of calls
  starts_stay d e calls f =
      let here : slice_index_or (map start_of c.calls.items) s None ≡ Some d.start =
      get_or-map start_of c.calls.items s None ∙ ap start_of is ∙ ap (λ p. Some p) (sym e) in
      ok.starts ∙ sym (ap (slice_set (map start_of c.calls.items) s) (sym here) ∙ set-get_or (map start_of c.calls.items) s None) ∙ sym (map-set start_of c.calls.items s (Some d))
      ∙ ap (map start_of) (sym f)

  -- the core with the call put back
  abbrev pub with_step : Vec (Option (OpenCall A)) A → Slots → Locks → Inside A
  with_step calls store locks = record c { calls = calls; store = store; locks = locks }

  -- A refusal changes nothing.
  module _ (d : OpenCall A) (calls : Vec (Option (OpenCall A)) A) (locks : Locks) (same : SameOpen call d) (calls_are : calls.items ≡ with_this (Some d)) (locks_are : SameLocks c.locks locks)
      (tables : length locks ≡ SESSIONS) where
    same_open : IsOpen d opened.0
    same_open = record {
      number = opened.2.number ∙ sym same.begun.number;
      procedure = opened.2.procedure ∙ sym same.begun.procedure;
      args = opened.2.args ∙ ap (λ (m : Execution). m.args) (sym same.machine);
      start = opened.2.start ∙ sym same.begun.start;
      count = opened.2.count ∙ sym same.executed;
      progress = opened.2.progress ∙ ap (λ (m : Execution). m.progress) (sym same.machine);
      notes = λ q. opened.2.notes q ∙ ap (λ l. first_noted (map noted_of l) q) (sym same.notes);
    }

    put_back : (t : ℕ) → put ok.world.calls s (Some opened.0) t ≡ ok.world.calls t
    put_back t =
        elim (cases_eq t s) [
          | inl e ↦ ap (λ b. cond {A = Option Open} b (Some opened.0) (ok.world.calls t)) (eq-eqb t s e) ∙ sym opened.1 ∙ ap ok.world.calls (sym e)
          | inr differs ↦ ap (λ b. cond {A = Option Open} b (Some opened.0) (ok.world.calls t)) (ne_eqb t s differs)
        ]

    pub refused_core : IsCore (with_step calls c.store locks)
    refused_core = record {
      world = ok.world;
      run = ok.run;
      stands = record {
        catalog = ok.stands.catalog;
        opening = ok.stands.opening;
        log = ok.stands.log;
        calls = λ t. subst (λ (o : Option Open). SameCall (slice_index_or calls.items t None) o) (put_back t) (calls_stand d opened.0 same_open calls.items calls_are t);
        versions = ok.stands.versions;
        collecting = ok.stands.collecting;
        frozen = ok.stands.frozen;
        locks = λ t q. locks_are t q ∙ ok.stands.locks t q;
        phase = ok.stands.phase;
        checkpoint = ok.stands.checkpoint;
      };
      lawful = ok.lawful;
      opens = ok.opens;
      small = ok.small;
      sessions = ap length calls_are ∙ length-set c.calls.items s _ ∙ ok.sessions;
      tables = tables;
      starts = starts_stay d same.begun.start calls.items calls_are;
      numbers = ok.numbers;
      last = ok.last;
      aside =
          aside_kept c.aside c.store c.store (either c.changed) (either c.changed) c.locks locks (slots_same c.store c.store refl) (λ q is. is)
          (λ q is. (is.0, subst (λ o. IsSome o) (sym (locks_are is.0 q)) is.1)) ok.aside;
    }

    same_shown : underway d ≡ underway call
    same_shown =
        ap (λ n. record { number = n; procedure = d.procedure; args = d.machine.args; start = d.start; count = d.executed }) same.begun.number
        ∙ ap (λ n. record { number = call.number; procedure = n; args = d.machine.args; start = d.start; count = d.executed }) same.begun.procedure
        ∙ ap (λ (m : Execution). record { number = call.number; procedure = call.procedure; args = m.args; start = d.start; count = d.executed }) same.machine
        ∙ ap (λ p. record { number = call.number; procedure = call.procedure; args = call.machine.args; start = p; count = d.executed }) same.begun.start
        ∙ ap (λ n. record { number = call.number; procedure = call.procedure; args = call.machine.args; start = call.start; count = n }) same.executed

    pub refused_view : (w : CoreView) → view_of c ≡ w → view_of (with_step calls c.store locks) ≡ w
    refused_view w e =
        ap (λ l. record v { calls = map (option_map underway) l }) calls_are
        ∙ ap (λ l. record v { calls = l }) (map-set (option_map underway) c.calls.items s (Some d))
        ∙ ap (λ x. record v { calls = slice_set v.calls s (Some x) }) same_shown
        ∙ ap (λ o. record v { calls = slice_set v.calls s o }) (sym (open_is c ok v refl s call is))
        ∙ ap (λ l. record v { calls = l }) (set-get_or v.calls s None)
        ∙ e

  -- The instruction is a step of the machine.
  module _ (d : OpenCall A) (calls : Vec (Option (OpenCall A)) A) (store : Slots) (locks : Locks) (advances : Advances c.phase c.store call store d) (calls_are : calls.items ≡ with_this (Some d))
      (locks_are : locks ≡ locked c.locks s (touch_in call.machine)) (going : is_nil call.machine.progress.rest ≡ false) (free : IsExcluded c.locks s (touch_in call.machine) → ⊥) where
    abbrev after : Open
    after = stepped ok.world.versions opened.0

    machine_fed : d.machine.progress ≡ advanced call.machine.args call.machine.progress (seen_in c.store call.machine)
    machine_fed = ap (λ (m : Execution). m.progress) advances.on.machine

    next_open : IsOpen d after
    next_open = record {
      number = opened.2.number ∙ sym advances.on.begun.number;
      procedure = opened.2.procedure ∙ sym advances.on.begun.procedure;
      args = opened.2.args ∙ ap (λ (m : Execution). m.args) (sym advances.on.machine);
      start = opened.2.start ∙ sym advances.on.begun.start;
      count = let e = advances.executed in let f = opened.2.count in omega (arith, e, f);
      progress =
          progress-fed opened.0.args opened.0.machine (found ok.world.versions (next_touch opened.0.args opened.0.machine))
          ∙ ap (advanced opened.0.args opened.0.machine.progress) seen_is
          ∙ ap (λ (l : List Bytes). advanced l opened.0.machine.progress (seen_in c.store call.machine)) opened.2.args
          ∙ ap (λ p. advanced call.machine.args p (seen_in c.store call.machine)) opened.2.progress
          ∙ sym machine_fed;
      notes = λ q.
          ap (λ n. noted n (next_becomes opened.0.args opened.0.machine (found ok.world.versions (next_touch opened.0.args opened.0.machine))) ok.world.versions opened.0.undo q) touch_is
          ∙ ap (λ x. noted (touch_in call.machine) x ok.world.versions opened.0.undo q) becomes_are
          ∙ noted_same (touch_in call.machine) (becomes_in c.store call.machine) ok.world.versions (versions_in c.store) opened.0.undo
          (first_noted (map noted_of call.notes.items)) ok.stands.versions opened.2.notes q
          ∙ sym (advances.on.notes q);
    }

    next_versions : (q : Bytes) → (step ok.world s opened.0).versions q ≡ versions_in store q
    next_versions q =
        ap (λ n. wrote_key ok.world.phase opened.0.start n (next_becomes opened.0.args opened.0.machine (found ok.world.versions (next_touch opened.0.args opened.0.machine))) ok.world.versions q)
        touch_is
        ∙ ap (λ x. wrote_key ok.world.phase opened.0.start (touch_in call.machine) x ok.world.versions q) becomes_are
        ∙ ap (λ p. wrote_key p opened.0.start (touch_in call.machine) (becomes_in c.store call.machine) ok.world.versions q) ok.stands.phase
        ∙ ap (λ p. wrote_key c.phase p (touch_in call.machine) (becomes_in c.store call.machine) ok.world.versions q) opened.2.start
        ∙ wrote_same c.phase call.start (touch_in call.machine) (becomes_in c.store call.machine) ok.world.versions (versions_in c.store) ok.stands.versions q
        ∙ sym (advances.on.versions q)

    own_now : (q : Bytes) → mode_of c.locks s q ≡ mode_by (opened.0.machine.writes q) (opened.0.machine.reads q)
    own_now q = ok.stands.locks s q ∙ ap (λ o. mode_held o q) opened.1

    next_locks : (t : ℕ) (q : Bytes) → mode_of locks t q ≡ mode_held (put ok.world.calls s (Some after) t) q
    next_locks t q =
        ap (λ (l : Locks). mode_of l t q) locks_are
        ∙ elim (cases_eq t s) [
          | inl e ↦
              ap (λ i. mode_of (locked c.locks s (touch_in call.machine)) i q) e
              ∙ own_locks c.locks s (touch_in call.machine) opened.0.machine.writes opened.0.machine.reads in_table own_now q
              ∙ ap (λ n. mode_by (writes_after n opened.0.machine.writes q) (reads_after n opened.0.machine.reads q)) (sym touch_is)
              ∙ ap (λ (w : Bytes → Bool). mode_by (w q) (reads_after (next_touch opened.0.args opened.0.machine) opened.0.machine.reads q))
              (sym (writes-fed opened.0.args opened.0.machine (found ok.world.versions (next_touch opened.0.args opened.0.machine))))
              ∙ ap (λ (r : Bytes → Bool). mode_by (after.machine.writes q) (r q)) (sym (reads-fed opened.0.args opened.0.machine (found ok.world.versions (next_touch opened.0.args opened.0.machine))))
              ∙ sym (ap (λ b. mode_held (cond {A = Option Open} b (Some after) (ok.world.calls t)) q) (eq-eqb t s e))
          | inr differs ↦
              other_locks c.locks s (touch_in call.machine) in_table t q differs ∙ ok.stands.locks t q
              ∙ sym (ap (λ b. mode_held (cond {A = Option Open} b (Some after) (ok.world.calls t)) q) (ne_eqb t s differs))
        ]

    may_step : MayStep ok.world s opened.0
    may_step = record {
      is = opened.1;
      going = ap (λ (p : Progress). is_nil p.rest) opened.2.progress ∙ going;
      clear = subst (λ n. NoConflict ok.world.calls s n) (sym touch_is) (free_clear c ok s (touch_in call.machine) free);
    }

    pub step_core : IsCore (with_step calls store locks)
    step_core = record {
      world = step ok.world s opened.0;
      run = more ok.run (Goes_on s opened.0 may_step);
      stands = record {
        catalog = ok.stands.catalog;
        opening = ok.stands.opening;
        log = ok.stands.log;
        calls = calls_stand d after next_open calls.items calls_are;
        versions = next_versions;
        collecting = ok.stands.collecting;
        frozen = ok.stands.frozen;
        locks = next_locks;
        phase = ok.stands.phase;
        checkpoint =
            tracked_on c.checkpoint c.store store c.changed.frozen c.changed.frozen ok.world.phase ok.world.number ok.world.finished ok.world.kind (length (before ok.world.number ok.world.log))
            (length (before ok.world.number ok.world.log)) ok.world.visited ok.world.bound ok.world.given ok.world.images
            advances.on.keys refl refl ok.stands.checkpoint;
      };
      lawful = ok.lawful;
      opens = ok.opens;
      small = ok.small;
      sessions = ap length calls_are ∙ length-set c.calls.items s _ ∙ ok.sessions;
      tables = ap length locks_are ∙ length_held_so c.locks s (touch_in call.machine) (grant c.locks s (touch_in call.machine)) ∙ ok.tables;
      starts = starts_stay d advances.on.begun.start calls.items calls_are;
      numbers = ok.numbers;
      last = ok.last;
      aside =
          aside_kept c.aside c.store store (either c.changed) (either c.changed) c.locks locks advances.on.keys (λ q is. is)
          (λ q is. subst (λ l. IsLocked l q) (sym locks_are) (locked_still c.locks s (touch_in call.machine) in_table q is)) ok.aside;
    }

    next_shown : underway d ≡ one_more u
    next_shown =
        ap (λ n. record { number = n; procedure = d.procedure; args = d.machine.args; start = d.start; count = d.executed }) advances.on.begun.number
        ∙ ap (λ n. record { number = call.number; procedure = n; args = d.machine.args; start = d.start; count = d.executed }) advances.on.begun.procedure
        ∙ ap (λ (m : Execution). record { number = call.number; procedure = call.procedure; args = m.args; start = d.start; count = d.executed }) advances.on.machine
        ∙ ap (λ p. record { number = call.number; procedure = call.procedure; args = call.machine.args; start = p; count = d.executed }) advances.on.begun.start
        ∙ ap (λ n. record { number = call.number; procedure = call.procedure; args = call.machine.args; start = call.start; count = n })
        (let e = advances.executed in let f : call.executed + 1 ≡ suc call.executed = omega arith in e ∙ f)

    pub step_view : (w : CoreView) → view_of c ≡ w → OfOpen w s (Steps w (view_of (with_step calls store locks)) s)
    step_view w same x there =
        let which : u ≡ x = is_under c ok s call is calls store locks c.active c.aside x (ap (λ (w : CoreView). open_at w s) same ∙ there) in
        subst (λ (w : CoreView). Steps w (view_of (with_step calls store locks)) s x) same
        (subst (λ (y : Underway). Steps v (view_of (with_step calls store locks)) s y) which
        (record {
          same = record {
            catalog = refl;
            opening = refl;
            checkpoint = refl;
            calls = ap (map (option_map underway)) calls_are ∙ map-set (option_map underway) c.calls.items s (Some d) ∙
                ap (λ y. slice_set v.calls s (Some y)) next_shown;
          };
          log = refl;
          slots = advances.on.slots
              ∙ ap (λ n. slots_with (makes_record (versions_in c.store) n (becomes_in c.store call.machine)) c.store) (sym shown_touch)
              ∙ ap (λ y. slots_with (makes_record (versions_in c.store) (touch_next v u) y) c.store) (sym shown_becomes);
          keys = advances.on.keys.keys;
          versions = λ q.
              advances.on.versions q
              ∙ ap (λ p. wrote_key p call.start (touch_in call.machine) (becomes_in c.store call.machine) (versions_in c.store) q) (phase_is c ok)
              ∙ ap (λ n. wrote_key (phase_of v.log) call.start n (becomes_in c.store call.machine) (versions_in c.store) q) (sym shown_touch)
              ∙ ap (λ y. wrote_key (phase_of v.log) call.start (touch_next v u) y (versions_in c.store) q) (sym shown_becomes);
        }))

    -- whether the call has ended then
    pub ready_is : (w : CoreView) → view_of c ≡ w → OfOpen w s (λ x. (if is_nil d.machine.progress.rest then Ready else Ran) ≡ stepped_as (front_of w (one_more x)))
    ready_is w same x there =
        let which : u ≡ x = is_under c ok s call is calls store locks c.active c.aside x (ap (λ (w : CoreView). open_at w s) same ∙ there) in
        let now = progress_is (with_step calls store locks) step_core (view_of (with_step calls store locks)) refl s d (ap (λ l. slice_index_or l s None) calls_are ∙ at_this d) in
        ap (λ (p : Progress). if is_nil p.rest then Ready else Ran) (now ∙ ap (λ (y : Underway). (front_of v y).progress) (next_shown ∙ ap one_more which))
        ∙ ap (λ (w : CoreView). stepped_as (front_of w (one_more x))) same

  -- What is answered, and the core after it.
  module _ (d : OpenCall A) (calls : Vec (Option (OpenCall A)) A) (store : Slots) (locks : Locks) (calls_are : calls.items ≡ with_this (Some d)) where
    pub answered_core :
        (r : Result Stepped StepError) → OnOk r (Advances c.phase c.store call store d) → OnOk r (locks ≡ locked c.locks s (touch_in call.machine)) → OnErr r ((store ≡ c.store) × SameOpen call d) →
        OnErr r (SameLocks c.locks locks × (length locks ≡ SESSIONS)) →
        AnswersTo (is_nil call.machine.progress.rest) (IsExcluded c.locks s (touch_in call.machine)) (lacks_place c.store call.machine) r → IsCore (with_step calls store locks)
    answered_core (Ok x) a l e u y = step_core d calls store locks a calls_are l y.0 y.1
    answered_core (Err x) a l e u y = subst (λ (st : Slots). IsCore (with_step calls st locks)) (sym e.0) (refused_core d calls locks e.1 calls_are u.0 u.1)

    pub answered_view :
        (w : CoreView) → view_of c ≡ w → (r : Result Stepped StepError) → OnOk r (Advances c.phase c.store call store d) → OnOk r (locks ≡ locked c.locks s (touch_in call.machine)) →
        AnswersTo (is_nil call.machine.progress.rest) (IsExcluded c.locks s (touch_in call.machine)) (lacks_place c.store call.machine) r →
        OnOk r (OfOpen w s (Steps w (view_of (with_step calls store locks)) s))
    answered_view w same (Ok x) a l y = step_view d calls store locks a calls_are l y.0 y.1 w same
    answered_view w same (Err x) a l y = tt

    pub answered_ready :
        (w : CoreView) → view_of c ≡ w → (r : Result Stepped StepError) → OnOk r (Advances c.phase c.store call store d) → OnOk r (locks ≡ locked c.locks s (touch_in call.machine)) →
        AnswersTo (is_nil call.machine.progress.rest) (IsExcluded c.locks s (touch_in call.machine)) (lacks_place c.store call.machine) r →
        IfOk r (λ x. x ≡ (if is_nil d.machine.progress.rest then Ready else Ran)) → IfOk r (λ x. OfOpen w s (λ k. x ≡ stepped_as (front_of w (one_more k))))
    answered_ready w same (Ok x) a l y e = λ k there. e ∙ ready_is d calls store locks a calls_are l y.0 y.1 w same k there
    answered_ready w same (Err x) a l y e = tt

    pub unanswered_view :
        (w : CoreView) → view_of c ≡ w → (r : Result Stepped StepError) → OnErr r ((store ≡ c.store) × SameOpen call d) → OnErr r (SameLocks c.locks locks × (length locks ≡ SESSIONS)) →
        OnErr r (view_of (with_step calls store locks) ≡ w)
    unanswered_view w same (Ok x) e u = tt
    unanswered_view w same (Err x) e u = ap (λ (st : Slots). view_of (with_step calls st locks)) e.0 ∙ refused_view d calls locks e.1 calls_are u.0 u.1 w same
