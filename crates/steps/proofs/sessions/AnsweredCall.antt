-- A core after a call was answered.
use Rattle.std.proofs.Common.{◌≡◌, ℕ, ◌<◌, ◌≤◌, Bool, true, false, cond, ◌||◌, List, [], ◌∷◌, ◌++◌, Option, Some, None, Vec, is_some, map, option_map, length, reverse, inl, inr, slice_get, slice_set, slice_index_or, refl, sym, ap, ◌∙◌, subst, arith, length-set, get_or-set_other}
use Rattle.std.specs.Prelude.{◌==◌}
use Rattle.std.proofs.lemmas.List.{get_or-set_same, map-set}
use Rattle.std.proofs.lemmas.Option.{slice_get_within}
use Rattle.std.proofs.lemmas.Bool.{cases_eq, eqb-true, eq-eqb, ne_eqb}
use Rattle.procedure.specs.Bytes.{Bytes, Cell}
use Rattle.procedure.specs.Catalogs.{IsLawful, procedure_fault}
use Rattle.procedure.specs.declared.catalogs.CatalogError.TheVariants.{BadArgument}
use Rattle.phase.specs.declared.phases.Phase.{Phase}
use Rattle.procedure.specs.Procedures.{Procedure}
use Rattle.procedure.specs.Runs.{Front, Progress, IsOutcome, front, has_ended, is_nil}
use Rattle.procedure.specs.Table.{change_at, value_at}
use Rattle.procedure.specs.declared.limits.TheConstants.{SESSIONS, ARGUMENTS}
use Rattle.procedure.specs.declared.outcomes.TheConstants.{COMMITTED}
use Rattle.procedure.proofs.Bounds.{keeps_limits}
use Rattle.procedure.proofs.Faults.{at_most, code_within, neither, no_first_fault, procedures_lawful, procedures_within}
use Rattle.phase.specs.Phases.{Starts}
use Rattle.commitlog.specs.Histories.{after as table_after_all, Takes, code_at, last_number}
use Rattle.commitlog.specs.Logs.{Log}
use Rattle.commitlog.specs.Records.{IsInRange, Record, Call}
use Rattle.commitlog.proofs.Histories.{last_number-push}
use Rattle.locktable.specs.Locks.{Locks, without_locks}
use Rattle.record_store.specs.ChangedSets.{ChangedSets, has}
use Rattle.record_store.specs.Stores.{Slots, records}
use Rattle.std.specs.FinMap as fin
use Rattle.image.specs.Merges.{table_of}
use Rattle.record_store.specs.declared.limits.TheConstants as stored
use Rattle.steps.proofs.reclaim.SetAside.{aside_released}
use Rattle.steps.specs.inside.SetAside.{AsideIn, after_release}
use Rattle.steps.specs.inside.CoreFields.{IsCore, IsOpen, SameCall, call_at, underway, view_of, either}
use Rattle.steps.specs.CoreViews.{CoreView, IsSmall, SameKeys, Underway, OfOpen, Finishes, front_of, open_at, replaced, table_now}
use Rattle.steps.specs.machine.NewestFirst.{before}
use Rattle.steps.specs.inside.RecordEdits.{KeepsSlots, all_kept, all_undone, first_noted, noted_of}
use Rattle.steps.specs.Versions.{versions_in, undo_of, KeyVersions, VersionsByKey, kept_key, undone_key}
use Rattle.steps.specs.machine.Machine.{Open, State, Goes, Commits, Aborts, abort, answer, commit, more, now, put}
use Rattle.steps.specs.declared.calls.OpenCall.{OpenCall}
use Rattle.steps.specs.declared.cores.Core.TheInside.{Inside}
use Rattle.steps.proofs.sessions.EndedCall.{closed_calls, closed_locks, closed_starts, is_under, notes_are, within}
use Rattle.steps.proofs.log.OldestFirst.{reverse_push}
use Rattle.steps.proofs.sessions.CallProgress.{progress_is}
use Rattle.steps.proofs.store.SlotEdits.{tracked_on}
use Rattle.steps.proofs.views.CoreState.{good, phase_is, some_open}
use Rattle.steps.proofs.store.KeyCount.{beyond, now_as, small_more, small_now}
use Rattle.steps.proofs.machine.CallInvariant.{initial_good}
use Rattle.steps.proofs.machine.ScheduleInvariant.{runs_good}
use Rattle.steps.specs.declared.reclaiming.Aside.{Aside}

-- what is noted of a change tells that there is one
kept_by : (start phase : Phase) (x : Option Cell) (y : Cell) (v : Option KeyVersions) → kept_key start phase (undo_of x y) v ≡ kept_key start phase x v
kept_by start phase None y v = refl
kept_by start phase (Some z) y None = refl
kept_by start phase (Some z) y (Some v) = refl

-- a call leaves the cut where it is
before_answer : (n s : ℕ) (o : Open) (h : List Record) → before n (answer s o ∷ h) ≡ before n h
unfolding before
before_answer n s o h = refl

some_by : (x : Option Cell) (y : Cell) → is_some (undo_of x y) ≡ is_some x
some_by None y = refl
some_by (Some z) y = refl

arity_within : (x : Procedure) → procedure_fault x ≡ None → x.arity ≤ ARGUMENTS
unfolding procedure_fault
arity_within x h = at_most _ _ BadArgument (neither _ _ (neither _ _ h).1).0

-- THE RANGES OF THE RECORD

taken_from : (ps : List Procedure) (p n : ℕ) → Takes (slice_get ps p) n → (x : Procedure) × (slice_get ps p ≡ Some x) × (x.arity ≡ n)
taken_from ps p n t = by (slice_get ps p) refl t
  where
    by : (o : Option Procedure) → slice_get ps p ≡ o → Takes o n → (x : Procedure) × (slice_get ps p ≡ Some x) × (x.arity ≡ n)
    by None e t = absurd t
    by (Some x) e t = (x, e, t)

-- what an answer with the outcome o makes of the parts of a core
pub record IsAnswered {A : Type 0} (c : Inside A) (s : ℕ) (call : OpenCall A)
    (log : Log) (store : Slots) (locks : Locks) (changed : ChangedSets) (calls : Vec (Option (OpenCall A)) A) (active : Starts) (last : Vec (Option ℕ) A) (aside : Aside) (o : ℕ) : Type 0 where
  pub outcome : o ≡ call.machine.progress.outcome
  pub ends : is_nil call.machine.progress.rest ≡ true
  pub log_is : log.records ≡ c.log.records ++ Call s call.number call.procedure call.machine.args o call.machine.progress.replies ∷ []
  pub calls_are : calls.items ≡ slice_set c.calls.items s None
  pub versions : (q : Bytes) → versions_in store q ≡ cond (o == COMMITTED) (all_kept call.start c.phase (map noted_of call.notes.items) (versions_in c.store) q)
      (all_undone (map noted_of call.notes.items) (versions_in c.store) q)
  pub collecting : (q : Bytes) → has changed.collecting q ≡ cond (o == COMMITTED) (is_some (first_noted (map noted_of call.notes.items) q) || has c.changed.collecting q) (has c.changed.collecting q)
  pub frozen : changed.frozen ≡ c.changed.frozen
  pub locks_are : locks ≡ without_locks c.locks s
  pub starts : active ≡ slice_set c.active s None
  pub last_is : last.items ≡ slice_set c.last.items s (Some call.number)
  pub most : records store ≤ stored.STORE_RECORDS
  pub keys : KeepsSlots c.store store
  pub aside_is : aside ≡ after_release c.aside

module _ {A : Type 0} (c : Inside A) (ok : IsCore c) (s : ℕ) (call : OpenCall A) (is : call_at c s ≡ Some call) where
  abbrev opened : (o : Open) × (ok.world.calls s ≡ Some o) × IsOpen call o
  opened = some_open c ok s call is

  takes : Takes (slice_get c.catalog call.procedure) (length call.machine.args)
  takes =
      let may = (good c ok).finishing s opened.0 opened.1 in
      subst (λ (l : List Bytes). Takes (slice_get c.catalog call.procedure) (length l)) opened.2.args
      (subst (λ p. Takes (slice_get c.catalog p) (length opened.0.args)) opened.2.procedure
      (subst (λ (k : List Procedure). Takes (slice_get k opened.0.procedure) (length opened.0.args)) ok.stands.catalog may.procedure))

  lawful_procedure : (x : Procedure) → slice_get c.catalog call.procedure ≡ Some x → IsLawful x
  lawful_procedure x at = record { no_fault = no_first_fault procedure_fault c.catalog call.procedure x (procedures_lawful c.catalog ok.lawful) (sym at) }

  progress_here : call.machine.progress ≡ (front_of (view_of c) (underway call)).progress
  progress_here = progress_is c ok (view_of c) refl s call is

  pub in_range : (o : ℕ) → o ≡ call.machine.progress.outcome → IsInRange (Call s call.number call.procedure call.machine.args o call.machine.progress.replies)
  in_range o e =
      let taken = taken_from c.catalog call.procedure (length call.machine.args) takes in
      let x = taken.0 in
      let lawful = lawful_procedure x taken.1 in
      let limits = keeps_limits x lawful call.machine.args (table_now (view_of c)) call.executed in
      let same : front x.code call.machine.args (table_now (view_of c)) call.executed ≡ front_of (view_of c) (underway call) =
      ap (λ k. front k call.machine.args (table_now (view_of c)) call.executed) (sym (ap code_at taken.1)) in
      let few = code_within x lawful.no_fault in
      let replies : length call.machine.progress.replies ≤ length x.code =
      subst (λ (p : Progress). length p.replies ≤ length x.code) (ap (λ (m : Front). m.progress) same ∙ sym progress_here) limits.1 in (
        subst (λ n. s < n) ok.sessions (within c ok s call is),
        omega (arith, slice_get_within c.catalog call.procedure x taken.1, procedures_within c.catalog ok.lawful),
        omega (arith, taken.2, arity_within x lawful.no_fault),
        subst (λ n. IsOutcome n) (ap (λ (m : Front). m.outcome) same ∙ sym (ap (λ (p : Progress). p.outcome) progress_here) ∙ sym e) limits.0,
        omega (arith, few, replies),
      )

  -- THE CORE AFTER THE ANSWER

  abbrev record_made : ℕ → Record
  record_made o = Call s call.number call.procedure call.machine.args o call.machine.progress.replies

  outcome_here : opened.0.machine.outcome ≡ call.machine.progress.outcome
  outcome_here = ap (λ (p : Progress). p.outcome) opened.2.progress

  answer_is : (o : ℕ) → o ≡ call.machine.progress.outcome → answer s opened.0 ≡ record_made o
  answer_is o e =
      let x = opened.0 in
      ap (λ n. Call s n x.procedure x.args x.machine.outcome x.machine.replies) opened.2.number
      ∙ ap (λ n. Call s call.number n x.args x.machine.outcome x.machine.replies) opened.2.procedure
      ∙ ap (λ l. Call s call.number call.procedure l x.machine.outcome x.machine.replies) opened.2.args
      ∙ ap (λ (p : Progress). Call s call.number call.procedure call.machine.args p.outcome p.replies) opened.2.progress
      ∙ ap (λ n. Call s call.number call.procedure call.machine.args n call.machine.progress.replies) (sym e)

  longer_log : (o : ℕ) → o ≡ call.machine.progress.outcome → (records : List Record) → records ≡ c.log.records ++ record_made o ∷ [] → reverse (answer s opened.0 ∷ ok.world.log) ≡ records
  longer_log o e records is_longer =
      reverse_push (answer s opened.0) ok.world.log ∙ ap (λ l. l ++ answer s opened.0 ∷ []) ok.stands.log
      ∙ ap (λ r. c.log.records ++ r ∷ []) (answer_is o e) ∙ sym is_longer

  longer_last :
      (o : ℕ) (records : List Record) (last : List (Option ℕ)) → records ≡ c.log.records ++ record_made o ∷ [] → last ≡ slice_set c.last.items s (Some call.number) → (t : ℕ) → t < SESSIONS →
      slice_index_or last t None ≡ last_number t records
  longer_last o records last e f t lt =
      let said : last_number t records ≡ cond (s == t) (Some call.number) (last_number t c.log.records) = ap (last_number t) e ∙ last_number-push t c.log.records (record_made o) in
      elim (cases_eq t s) [
        | inl same ↦
            ap (λ l. slice_index_or l t None) f ∙ ap (λ i. slice_index_or (slice_set c.last.items s (Some call.number)) i None) same
            ∙ get_or-set_same c.last.items s (Some call.number) None (subst (λ n. s < n) (ok.sessions ∙ sym ok.numbers) (within c ok s call is))
            ∙ sym (ap (λ b. cond b (Some call.number) (last_number t c.log.records)) (eq-eqb s t (sym same))) ∙ sym said
        | inr differs ↦
            ap (λ l. slice_index_or l t None) f ∙ get_or-set_other c.last.items s t (Some call.number) None differs ∙ ok.last t lt
            ∙ sym (ap (λ b. cond b (Some call.number) (last_number t c.log.records)) (ne_eqb s t (λ e. differs (sym e)))) ∙ sym said
      ]

  -- what was noted tells which keys were changed
  noted_as : (q : Bytes) → first_noted (map noted_of call.notes.items) q ≡ undo_of (change_at opened.0.machine.changes q) (value_at (now ok.world) q)
  noted_as q = sym (opened.2.notes q) ∙ ((good c ok).machines s opened.0 opened.1).undo q

  abbrev after_answer : Log → Slots → Locks → ChangedSets → Vec (Option (OpenCall A)) A → Starts → Vec (Option ℕ) A → Aside → Inside A
  after_answer log store locks changed calls active last aside = record c { log = log; store = store; locks = locks; changed = changed; calls = calls; active = active; last = last; aside = aside }

  module _ (log : Log) (store : Slots) (locks : Locks) (changed : ChangedSets) (calls : Vec (Option (OpenCall A)) A) (active : Starts) (last : Vec (Option ℕ) A) (aside : Aside)
      (o : ℕ) (a : IsAnswered c s call log store locks changed calls active last aside o) where
    ended_here : has_ended opened.0.machine ≡ true
    ended_here = ap (λ (p : Progress). is_nil p.rest) opened.2.progress ∙ a.ends

    -- the table after the answer is small
    smaller :
        (w : State) → Goes ok.world w → w.catalog ≡ c.catalog → w.opening ≡ table_of c.opening → reverse w.log ≡ log.records → ((t : ℕ) → SameCall (slice_index_or calls.items t None) (w.calls t)) →
        ((q : Bytes) → w.versions q ≡ versions_in store q) → IsSmall c.catalog (table_of c.opening) log.records
    smaller w g e f h same versions =
        let after = runs_good (more ok.run g) (initial_good c.catalog (table_of c.opening)) in
        let le = small_now w after (length calls.items) (beyond calls.items w.calls same) store versions a.most in
        let is = now_as w c.catalog (table_of c.opening) log.records e f h in
        subst (IsSmall c.catalog (table_of c.opening)) (sym a.log_is)
        (small_more c.catalog (table_of c.opening) c.log.records (record_made o) ok.small
        (subst (λ l. fin.len (table_after_all c.catalog (table_of c.opening) l) ≤ stored.STORE_RECORDS) a.log_is (subst (λ t. fin.len t ≤ stored.STORE_RECORDS) is le)))

    -- what the writes of the call became, by whether it committed
    settled_as : (b : Bool) → (o == COMMITTED) ≡ b → (q : Bytes) → versions_in store q ≡ cond b (all_kept call.start c.phase (map noted_of call.notes.items) (versions_in c.store) q)
        (all_undone (map noted_of call.notes.items) (versions_in c.store) q)
    settled_as b e q =
        a.versions q ∙ ap (λ b. cond b (all_kept call.start c.phase (map noted_of call.notes.items) (versions_in c.store) q) (all_undone (map noted_of call.notes.items) (versions_in c.store) q)) e

    committed_versions : (o == COMMITTED) ≡ true → (q : Bytes) → (commit ok.world s opened.0).versions q ≡ versions_in store q
    committed_versions so q =
        ap (λ p. kept_key p ok.world.phase (change_at opened.0.machine.changes q) (ok.world.versions q)) opened.2.start
        ∙ ap (λ p. kept_key call.start p (change_at opened.0.machine.changes q) (ok.world.versions q)) ok.stands.phase
        ∙ ap (kept_key call.start c.phase (change_at opened.0.machine.changes q)) (ok.stands.versions q)
        ∙ sym (kept_by call.start c.phase (change_at opened.0.machine.changes q) (value_at (now ok.world) q) (versions_in c.store q))
        ∙ ap (λ x. kept_key call.start c.phase x (versions_in c.store q)) (sym (noted_as q))
        ∙ sym (settled_as true so q)

    aborted_versions : (o == COMMITTED) ≡ false → (q : Bytes) → (abort ok.world s opened.0).versions q ≡ versions_in store q
    aborted_versions not_so q =
        ap (λ u. undone_key u (ok.world.versions q)) (opened.2.notes q) ∙ ap (undone_key (first_noted (map noted_of call.notes.items) q)) (ok.stands.versions q)
        ∙ sym (settled_as false not_so q)

    commits_here : (o == COMMITTED) ≡ true → Goes ok.world (commit ok.world s opened.0)
    commits_here so = Commits s opened.0 opened.1 ended_here (outcome_here ∙ sym a.outcome ∙ eqb-true o COMMITTED so)

    aborts_here : (o == COMMITTED) ≡ false → Goes ok.world (abort ok.world s opened.0)
    aborts_here not_so = Aborts s opened.0 opened.1 ended_here (ap (λ n. n == 0) (outcome_here ∙ sym a.outcome) ∙ not_so)

    -- what was collected is
    collected_still : (q : Bytes) → either c.changed q ≡ true → either changed q ≡ true
    collected_still q is =
        by (o == COMMITTED) (is_some (first_noted (map noted_of call.notes.items) q)) (has c.changed.collecting q) (has c.changed.frozen q) (has changed.collecting q) (has changed.frozen q)
        (a.collecting q) (ap (λ f. has f q) a.frozen) is
      where
        by : (so new col fro x y : Bool) → x ≡ cond so (new || col) col → y ≡ fro → (col || fro) ≡ true → (x || y) ≡ true
        by true true col fro x y e f h = ap (λ b. b || y) e
        by true false col fro x y e f h = ap (λ b. b || y) e ∙ ap (λ b. col || b) f ∙ h
        by false new col fro x y e f h = ap (λ b. b || y) e ∙ ap (λ b. col || b) f ∙ h

    still_aside : AsideIn aside store (either changed) locks
    still_aside =
        subst (λ x. AsideIn x store (either changed) locks) (sym a.aside_is) (aside_released c.aside c.store store (either c.changed) (either changed) c.locks locks a.keys collected_still ok.aside)

    -- the core stands for the state after the answer, whose versions and collected keys are these
    abbrev ended_state : VersionsByKey → (Bytes → Bool) → State
    ended_state vs gathered = record ok.world { log = answer s opened.0 ∷ ok.world.log; calls = put ok.world.calls s None; versions = vs; collecting = gathered }

    ended_core :
        (vs : VersionsByKey) (gathered : Bytes → Bool) → Goes ok.world (ended_state vs gathered) → ((q : Bytes) → vs q ≡ versions_in store q) → ((q : Bytes) → gathered q ≡ has changed.collecting q) →
        IsCore (after_answer log store locks changed calls active last aside)
    ended_core vs gathered goes versions_are gathered_are = record {
      world = ended_state vs gathered;
      run = more ok.run goes;
      stands = record {
        catalog = ok.stands.catalog;
        opening = ok.stands.opening;
        log = longer_log o a.outcome log.records a.log_is;
        calls = closed_calls c ok s (within c ok s call is) calls.items a.calls_are;
        versions = versions_are;
        collecting = gathered_are;
        frozen = λ q. ok.stands.frozen q ∙ ap (λ f. has f q) (sym a.frozen);
        locks = closed_locks c ok s (subst (λ n. s < n) (ok.sessions ∙ sym ok.tables) (within c ok s call is)) locks a.locks_are;
        phase = ok.stands.phase;
        checkpoint =
            tracked_on c.checkpoint c.store store c.changed.frozen changed.frozen ok.world.phase ok.world.number ok.world.finished ok.world.kind (length (before ok.world.number ok.world.log))
            (length (before ok.world.number (answer s opened.0 ∷ ok.world.log))) ok.world.visited ok.world.bound ok.world.given ok.world.images
            a.keys a.frozen (ap length (before_answer ok.world.number s opened.0 ok.world.log)) ok.stands.checkpoint;
      };
      lawful = ok.lawful;
      opens = ok.opens;
      small =
          smaller (ended_state vs gathered) goes ok.stands.catalog ok.stands.opening (longer_log o a.outcome log.records a.log_is)
          (closed_calls c ok s (within c ok s call is) calls.items a.calls_are) versions_are;
      sessions = ap length a.calls_are ∙ length-set c.calls.items s None ∙ ok.sessions;
      tables = ap length a.locks_are ∙ length-set c.locks s _ ∙ ok.tables;
      starts = closed_starts c ok s calls.items active a.calls_are a.starts;
      numbers = ap length a.last_is ∙ length-set c.last.items s _ ∙ ok.numbers;
      last = longer_last o log.records last.items a.log_is a.last_is;
      aside = still_aside;
    }

    pub finish_core : IsCore (after_answer log store locks changed calls active last aside)
    finish_core = by (o == COMMITTED) refl
      where
        gathered_by :
            (q : Bytes) (b : Bool) → (o == COMMITTED) ≡ b →
            has changed.collecting q ≡ cond b (is_some (first_noted (map noted_of call.notes.items) q) || has c.changed.collecting q) (has c.changed.collecting q)
        gathered_by q b e = a.collecting q ∙ ap (λ b. cond b (is_some (first_noted (map noted_of call.notes.items) q) || has c.changed.collecting q) (has c.changed.collecting q)) e

        by : (b : Bool) → (o == COMMITTED) ≡ b → IsCore (after_answer log store locks changed calls active last aside)
        by true e = ended_core (commit ok.world s opened.0).versions (commit ok.world s opened.0).collecting (commits_here e) (committed_versions e) (λ q.
            ap (λ b. is_some (change_at opened.0.machine.changes q) || b) (ok.stands.collecting q)
            ∙ ap (λ b. b || has c.changed.collecting q) (sym (some_by (change_at opened.0.machine.changes q) (value_at (now ok.world) q)) ∙ ap is_some (sym (noted_as q))) ∙ sym (gathered_by q true e))
        by false e = ended_core (abort ok.world s opened.0).versions ok.world.collecting (aborts_here e) (aborted_versions e) (λ q. ok.stands.collecting q ∙ sym (gathered_by q false e))

    pub finish_view : length store ≡ length c.store → SameKeys c.store store → (v : CoreView) → view_of c ≡ v →
        OfOpen v s (Finishes v (view_of (after_answer log store locks changed calls active last aside)) s)
    finish_view slots keys v same u there =
        let which : underway call ≡ u = is_under c ok s call is calls store locks active aside u (ap (λ (w : CoreView). open_at w s) same ∙ there) in
        subst (λ (w : CoreView). Finishes w (view_of (after_answer log store locks changed calls active last aside)) s u) same
        (subst (λ (x : Underway). Finishes (view_of c) (view_of (after_answer log store locks changed calls active last aside)) s x) which
        (record {
          same = record { catalog = refl; opening = refl; checkpoint = refl; calls = ap (map (option_map underway)) a.calls_are ∙ map-set (option_map underway) c.calls.items s None };
          log = a.log_is ∙ ap (λ (n : ℕ). c.log.records ++ Call s call.number call.procedure call.machine.args n call.machine.progress.replies ∷ []) a.outcome
              ∙ ap (λ (p : Progress). c.log.records ++ Call s call.number call.procedure call.machine.args p.outcome p.replies ∷ []) progress_here;
          slots = slots;
          keys = keys;
          versions = λ q.
              a.versions q
              ∙ ap
              (λ n. cond (n == COMMITTED) (all_kept call.start c.phase (map noted_of call.notes.items) (versions_in c.store) q) (all_undone (map noted_of call.notes.items) (versions_in c.store) q))
              (a.outcome ∙ ap (λ (p : Progress). p.outcome) progress_here)
              ∙ ap (λ x. cond ((front_of (view_of c) (underway call)).outcome == COMMITTED) (kept_key call.start c.phase x (versions_in c.store q)) (undone_key x (versions_in c.store q)))
              (notes_are c ok s call is calls store locks active aside q)
              ∙ ap (λ p. cond ((front_of (view_of c) (underway call)).outcome == COMMITTED) (kept_key call.start p (replaced (view_of c) (underway call) q) (versions_in c.store q))
              (undone_key (replaced (view_of c) (underway call) q) (versions_in c.store q))) (phase_is c ok);
        }))
