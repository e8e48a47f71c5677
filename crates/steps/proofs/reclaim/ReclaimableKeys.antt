-- Which records of a core at rest may go, by its store, its sets and its locks.
use Rattle.std.proofs.Common.{◌≡◌, ◌⊎◌, ℕ, suc, ◌-◌, arith, Bool, true, false, cond, not, ◌&&◌, List, length, drop, reverse, Option, Some, None, IsSome, is_none, inl, inr, refl, sym, ap, ◌∙◌, subst, true≢false}
use Rattle.std.specs.Option.{option_map, option_and_then}
use Rattle.std.specs.Prelude.{slice_range}
use Rattle.std.proofs.lemmas.List.{length-drop, take_all}
use Rattle.procedure.specs.Bytes.{Bytes, Cell}
use Rattle.procedure.specs.Needs.{Writes}
use Rattle.procedure.specs.Procedures.{Procedure}
use Rattle.procedure.specs.Runs.{Front}
use Rattle.procedure.specs.Table.{Table, change_at, value_at}
use Rattle.procedure.proofs.Ending.{front_changed}
use Rattle.phase.specs.declared.phases.Phase.TheVariants.{Rest}
use Rattle.commitlog.specs.Histories as log
use Rattle.commitlog.specs.Histories.{code_of}
use Rattle.commitlog.specs.Cuts.{HasCut, IsFinished, cut, last_finished, written, written_from}
use Rattle.commitlog.specs.Records as logged
use Rattle.commitlog.proofs.Finished.{last_stands, was_resolved}
use Rattle.image.specs.Merges.{table_of}
use Rattle.locktable.specs.declared.modes.Mode.{Mode}
use Rattle.locktable.specs.Locks.{IsFree, mode_of}
use Rattle.record_store.specs.ChangedSets.{has}
use Rattle.record_store.specs.DeadKeys.{precedes}
use Rattle.record_store.specs.Stores.{IsLeastCandidate, HasKeysOnce, StoreRecord, Slots, candidate_at, candidate_key, key_at, record_at}
use Rattle.record_store.specs.Versions as stored
use Rattle.record_store.specs.Versions.{version_of}
use Rattle.record_store.proofs.Versions.{version_found, version_some}
use Rattle.steps.specs.inside.SetAside.{IsLocked, aside_at, is_aside}
use Rattle.steps.specs.machine.NewestFirst.{history_table, before, since}
use Rattle.steps.specs.inside.CoreFields.{IsCore, mode_held, mode_by, underway, view_of}
use Rattle.steps.specs.CoreViews.{bars, front_of, table_now}
use Rattle.steps.specs.Versions.{key_versions, versions_in, KeyVersions, live_version}
use Rattle.steps.specs.machine.Invariant.{Gathers, Sets, Unchanged}
use Rattle.steps.specs.Refusals.{is_cutting}
use Rattle.steps.specs.Reclaiming.{IsReclaimable, MayGo, is_recent, is_touched}
use Rattle.steps.specs.machine.Machine.{MayReclaim, Open, State, now}
use Rattle.steps.specs.declared.cores.Core.TheInside.{Inside}
use Rattle.steps.proofs.sessions.BarredTouches.{any_found, any_none, excluded_by, held_at, holder, writes_excluded}
use Rattle.steps.proofs.log.Cuts.{HasPlace, front-reverse, since-reverse}
use Rattle.steps.proofs.log.OldestFirst.{after-reverse, cyclic-reverse, last_finished-reverse}
use Rattle.steps.proofs.machine.OpenCalls.{none_some}
use Rattle.steps.proofs.log.SchedulePromises.{has_place, stood}
use Rattle.steps.proofs.sessions.AcceptedCalls.{shown_at}
use Rattle.steps.proofs.views.CoreState.{good, now_is, phase_is}

not_some : {X : Type 0} (o : Option X) → o ≡ None → IsSome o → ⊥
not_some None e is = true≢false (sym is)
not_some (Some x) e is = none_some (sym e)

-- SINCE A CUT

-- those written since a cut are written from it to the log's end
since_end : (c : List Procedure) (t : Table) (b : ℕ) (h : List logged.Record) (q : Bytes) → HasPlace b h → written c t (reverse h) (cut (reverse h) b) (length (reverse h)) q ≡ since c t b h q
since_end c t b h q e =
    ap (λ l. written_from c (log.after c t l) (slice_range (reverse h) (cut (reverse h) b) (length (reverse h))) q) (front-reverse b h e)
    ∙ ap (λ u. written_from c u (slice_range (reverse h) (cut (reverse h) b) (length (reverse h))) q) (after-reverse c t (before b h))
    ∙ ap (λ l. written_from c (history_table c t (before b h)) l q) range
    ∙ sym (since-reverse c t b q h)
  where
    range : slice_range (reverse h) (cut (reverse h) b) (length (reverse h)) ≡ drop (length (before b h)) (reverse h)
    range =
        ap (λ x. slice_range (reverse h) x (length (reverse h))) e
        ∙ take_all (length (reverse h) - length (before b h)) (drop (length (before b h)) (reverse h)) (let l = length-drop (length (before b h)) (reverse h) in omega arith)

-- the last finished checkpoint of a log has a cut
last_has_cut : (l : List logged.Record) → log.IsCyclic l → HasCut l (last_finished l)
last_has_cut l c = by (last_stands l)
  where
    by : (last_finished l ≡ 0) ⊎ IsFinished l (last_finished l) → HasCut l (last_finished l)
    by (inl e) = inl e
    by (inr x) = inr (was_resolved l c (last_finished l) x)

-- WHAT A CANDIDATE IS

-- the slot holds a dead record with the key
pub record IsDead (slots : Slots) (slot : ℕ) (key : Bytes) : Type 0 where
  pub kept : StoreRecord
  pub there : record_at slots slot ≡ Some kept
  pub key_is : kept.key ≡ key
  pub dead : kept.live ≡ None

key_of : Option StoreRecord → Option Bytes
key_of o = option_map (λ r. r.key) o

pub dead_key : (slots : Slots) (slot : ℕ) (key : Bytes) → IsDead slots slot key → key_at slots slot ≡ Some key
unfolding key_of
dead_key slots slot key d = ap key_of d.there ∙ ap (λ (k : Bytes). Some k) d.key_is

candidate_by :
    (r : StoreRecord) (key : Bytes) (live : Cell) (aside : Bool) → r.live ≡ live → r.aside ≡ aside → cond (is_none live && not aside) (Some r.key) None ≡ Some key →
    (r.key ≡ key) × (r.live ≡ None) × (r.aside ≡ false)
candidate_by r key None false dead unset is = (cc, dead, unset)
candidate_by r key None true dead unset is = none_some is
candidate_by r key (Some x) aside dead unset is = none_some is

-- a candidate is dead and isn't set aside
pub candidate_is : (slots : Slots) (slot : ℕ) (key : Bytes) → candidate_at slots slot ≡ Some key → IsDead slots slot key × (aside_at slots slot ≡ false)
candidate_is slots slot key is = by (record_at slots slot) refl is
  where
    by : (o : Option StoreRecord) → record_at slots slot ≡ o → option_and_then candidate_key o ≡ Some key → IsDead slots slot key × (aside_at slots slot ≡ false)
    by None e is = none_some is
    by (Some r) e is =
        let all = candidate_by r key r.live r.aside refl refl is in
        (record { kept = r; there = e; key_is = all.0; dead = all.1 }, ap is_aside e ∙ all.2)

pub candidate_dead : (slots : Slots) (slot : ℕ) (key : Bytes) → candidate_at slots slot ≡ Some key → IsDead slots slot key
candidate_dead slots slot key is = (candidate_is slots slot key is).0

pub dead_offered : (slots : Slots) (slot : ℕ) (key : Bytes) → IsDead slots slot key → aside_at slots slot ≡ false → candidate_at slots slot ≡ Some key
dead_offered slots slot key d unset =
    ap (option_and_then candidate_key) d.there
    ∙ ap (λ (x : Cell). cond (is_none x && not d.kept.aside) (Some d.kept.key) None) d.dead
    ∙ ap (λ b. cond (not b) (Some d.kept.key) None) (sym (ap is_aside d.there) ∙ unset)
    ∙ ap (λ (k : Bytes). Some k) d.key_is

-- the least candidate offers the key of its record
pub least_offered : (slots : Slots) (slot : ℕ) (key : Bytes) → IsLeastCandidate slots (Some slot) → key_at slots slot ≡ Some key → candidate_at slots slot ≡ Some key
least_offered slots slot key least is =
    let one : Some least.key ≡ Some key = sym (dead_key slots slot least.key (candidate_dead slots slot least.key least.offered)) ∙ is in
    least.offered ∙ one

-- what the version of its key says
pub dead_version : (slots : Slots) (slot : ℕ) (key : Bytes) → HasKeysOnce slots → IsDead slots slot key → (v : KeyVersions) × (versions_in slots key ≡ Some v) × (v.live ≡ None)
unfolding versions_in
dead_version slots slot key once d = (
  key_versions (stored.version d.kept),
  ap (λ (k : Bytes). option_map key_versions (version_of slots k)) (sym d.key_is) ∙
      ap (option_map key_versions) (version_found slots slot d.kept once d.there),
  d.dead,
)

-- a dead version is that of a dead record
pub version_dead : (slots : Slots) (key : Bytes) (v : KeyVersions) → versions_in slots key ≡ Some v → v.live ≡ None → (slot : ℕ) × IsDead slots slot key
unfolding versions_in
version_dead slots key v is dead = by (version_of slots key) refl is
  where
    by : (o : Option stored.Version) → version_of slots key ≡ o → option_map key_versions o ≡ Some v → (slot : ℕ) × IsDead slots slot key
    by None e is = none_some is
    by (Some u) e is =
        let h = version_some slots key u e in
        let one : key_versions u ≡ v = cc in
        (h.slot, record { kept = h.kept; there = h.there; key_is = h.key_is; dead = ap (λ (x : stored.Version). x.live) h.version_is ∙ ap (λ (x : KeyVersions). x.live) one ∙ dead })

-- FREE KEYS

unheld : (w r : Bool) → mode_by w r ≡ None → (w ≡ false) × (r ≡ false)
unheld true r e = none_some (sym e)
unheld false true e = none_some (sym e)
unheld false false e = (refl, refl)

module _ {A : Type 0} (c : Inside A) (ok : IsCore c) where
  -- what no call has touched is free
  pub untouched_free : (q : Bytes) → is_touched (view_of c) q ≡ false → IsFree c.locks q
  untouched_free q e t = by (mode_of c.locks t q) refl
    where
      by : (o : Option Mode) → mode_of c.locks t q ≡ o → o ≡ None
      by None f = refl
      by (Some h) f =
          let k = holder c ok t q h f in
          absurd (writes_excluded ((front_of (view_of c) (underway k.0)).writes q) ((front_of (view_of c) (underway k.0)).reads q) h
          (any_none (bars (view_of c) (Writes q)) (view_of c).calls e t (underway k.0) (shown_at c t ∙ ap (option_map underway) k.1))
          (sym (held_at c ok t k.0 k.1 q) ∙ f))

  -- what is free no call has touched
  pub free_untouched : (q : Bytes) → IsFree c.locks q → is_touched (view_of c) q ≡ false
  free_untouched q free = by (is_touched (view_of c) q) refl
    where
      differs : (t : ℕ) → t ≡ suc t → ⊥
      differs t e = omega (arith, e)

      by : (b : Bool) → is_touched (view_of c) q ≡ b → b ≡ false
      by false e = refl
      by true e =
          let f = any_found (bars (view_of c) (Writes q)) (view_of c).calls e in
          let x = excluded_by c ok (suc f.at) f.at (Writes q) f.call (differs f.at) f.is f.holds in
          none_some (sym (free x.0) ∙ x.3)

  -- the machine's calls have not touched it
  pub free_of_calls : (q : Bytes) → IsFree c.locks q → (s : ℕ) (o : Open) → ok.world.calls s ≡ Some o → (o.machine.writes q ≡ false) × (o.machine.reads q ≡ false)
  free_of_calls q free s o is = unheld (o.machine.writes q) (o.machine.reads q) (sym (ok.stands.locks s q ∙ ap (λ x. mode_held x q) is) ∙ free s)

  free_unchanged : (q : Bytes) → IsFree c.locks q → Unchanged ok.world.calls q
  free_unchanged q free s o is = by (change_at o.machine.changes q) refl
    where
      writes : (x : Cell) → change_at o.machine.changes q ≡ Some x → o.machine.writes q ≡ true
      writes x e =
          subst (λ (m : Front). change_at m.changes q ≡ Some x → m.writes q ≡ true) (sym ((good c ok).machines s o is).machine)
          (front_changed (code_of ok.world.catalog o.procedure) o.args (now ok.world) o.count q x) e

      by : (x : Option Cell) → change_at o.machine.changes q ≡ x → x ≡ None
      by None e = refl
      by (Some x) e = absurd (true≢false (sym (writes x e) ∙ (free_of_calls q free s o is).0))

  -- its live version is what the table holds
  pub free_live : (q : Bytes) → IsFree c.locks q → live_version (versions_in c.store q) ≡ value_at (table_now (view_of c)) q
  free_live q free = ap live_version (sym (ok.stands.versions q)) ∙ (good c ok).lives.table q (free_unchanged q free) ∙ ap (λ t. value_at t q) (now_is c ok)

  pub dead_absent : (q : Bytes) → IsFree c.locks q → live_version (versions_in c.store q) ≡ None → value_at (table_now (view_of c)) q ≡ None
  dead_absent q free dead = sym (free_live q free) ∙ dead

  pub absent_dead : (q : Bytes) → IsFree c.locks q → value_at (table_now (view_of c)) q ≡ None → live_version (versions_in c.store q) ≡ None
  absent_dead q free absent = free_live q free ∙ absent

  module _ (phase : c.phase ≡ Rest) where
    abbrev w : State
    w = ok.world

    gathers : Gathers w.catalog w.opening w.log w.finished w.collecting w.frozen
    gathers = subst (λ b. Sets b w.catalog w.opening w.log w.number w.finished w.collecting w.frozen) (ap is_cutting (ok.stands.phase ∙ phase)) (good c ok).sets

    finished_is : last_finished (reverse w.log) ≡ w.finished
    finished_is = last_finished-reverse w.log ∙ (good c ok).lawful.finished

    finished_place : HasPlace w.finished w.log
    finished_place =
        has_place w.finished w.log (good c ok).lawful.cyclic
        (stood w.finished w.log (subst (HasCut (reverse w.log)) finished_is (last_has_cut (reverse w.log) (cyclic-reverse w.log (good c ok).lawful.cyclic))))

    abbrev written_since : List Procedure → Table → List logged.Record → ℕ → Bytes → Bool
    written_since k t l n q = written k t l (cut l n) (length l) q

    -- at rest the collected keys are those written since the cut of the last finished checkpoint
    pub recent_is : (q : Bytes) → has c.changed.collecting q ≡ is_recent (view_of c) q
    recent_is q =
        sym (ok.stands.collecting q) ∙ gathers.collecting q
        ∙ sym (since_end w.catalog w.opening w.finished w.log q finished_place)
        ∙ ap (λ n. written_since w.catalog w.opening (reverse w.log) n q) (sym finished_is)
        ∙ ap (λ k. written_since k w.opening (reverse w.log) (last_finished (reverse w.log)) q) ok.stands.catalog
        ∙ ap (λ t. written_since c.catalog t (reverse w.log) (last_finished (reverse w.log)) q) ok.stands.opening
        ∙ ap (λ l. written_since c.catalog (table_of c.opening) l (last_finished l) q) ok.stands.log

    -- and none is frozen
    pub no_frozen : (q : Bytes) → has c.changed.frozen q ≡ false
    no_frozen q = sym (ok.stands.frozen q) ∙ gathers.frozen q

    -- WHAT MAY GO

    -- a dead record whose key is neither collected nor locked
    pub dead_may_go : (key : Bytes) (v : KeyVersions) → versions_in c.store key ≡ Some v → v.live ≡ None → has c.changed.collecting key ≡ false → IsFree c.locks key → MayGo (view_of c) key
    dead_may_go key v is dead uncollected free = record {
      recorded = subst (λ (o : Option KeyVersions). IsSome o) (sym is) refl;
      absent = dead_absent key free (ap live_version is ∙ dead);
      untouched = free_untouched key free;
      unwritten = sym (recent_is key) ∙ uncollected;
    }

    pub may_reclaim : (key : Bytes) (v : KeyVersions) → versions_in c.store key ≡ Some v → v.live ≡ None → has c.changed.collecting key ≡ false → IsFree c.locks key → MayReclaim ok.world key v
    may_reclaim key v is dead uncollected free = record {
      phase = ok.stands.phase ∙ phase;
      is = ok.stands.versions key ∙ is;
      dead = dead;
      uncollected = ok.stands.collecting key ∙ uncollected;
      free = free_of_calls key free;
    }

    at_rest_is : log.phase_of (view_of c).log ≡ Rest
    at_rest_is = sym (phase_is c ok) ∙ phase

    -- a store that says the same of each key, whichever of its records are set aside
    module _ (slots : Slots) (same : (q : Bytes) → versions_in slots q ≡ versions_in c.store q) where
      pub may_go : HasKeysOnce slots → (slot : ℕ) (key : Bytes) → candidate_at slots slot ≡ Some key → has c.changed.collecting key ≡ false → IsFree c.locks key → MayGo (view_of c) key
      may_go once slot key offered uncollected free =
          let v = dead_version slots slot key once (candidate_dead slots slot key offered) in
          dead_may_go key v.0 (sym (same key) ∙ v.1) v.2 uncollected free

      pub candidate_reclaims :
          HasKeysOnce slots → (slot : ℕ) (key : Bytes) → candidate_at slots slot ≡ Some key → has c.changed.collecting key ≡ false → IsFree c.locks key → (v : KeyVersions) × MayReclaim ok.world key v
      candidate_reclaims once slot key offered uncollected free =
          let v = dead_version slots slot key once (candidate_dead slots slot key offered) in
          (v.0, may_reclaim key v.0 (sym (same key) ∙ v.1) v.2 uncollected free)

      -- where only collected and locked keys are set aside
      module _ (stays : (slot : ℕ) (key : Bytes) → key_at slots slot ≡ Some key → aside_at slots slot ≡ true → (has c.changed.collecting key ≡ true) ⊎ IsLocked c.locks key) where
        not_aside : (slot : ℕ) (key : Bytes) → MayGo (view_of c) key → key_at slots slot ≡ Some key → aside_at slots slot ≡ true → ⊥
        not_aside slot key goes is e = by (stays slot key is e)
          where
            by : (has c.changed.collecting key ≡ true) ⊎ IsLocked c.locks key → ⊥
            by (inl collected) = true≢false (sym collected ∙ recent_is key ∙ goes.unwritten)
            by (inr locked) = not_some (mode_of c.locks locked.0 key) (untouched_free key goes.untouched locked.0) locked.1

        unset_by : (slot : ℕ) (key : Bytes) → MayGo (view_of c) key → key_at slots slot ≡ Some key → (b : Bool) → aside_at slots slot ≡ b → b ≡ false
        unset_by slot key goes is false e = refl
        unset_by slot key goes is true e = absurd (not_aside slot key goes is e)

        -- what may go is a candidate
        pub goes_offered : (key : Bytes) → MayGo (view_of c) key → (slot : ℕ) × (candidate_at slots slot ≡ Some key)
        goes_offered key goes = by (versions_in slots key) refl
          where
            live : live_version (versions_in slots key) ≡ None
            live = ap live_version (same key) ∙ absent_dead key (untouched_free key goes.untouched) goes.absent

            by : (o : Option KeyVersions) → versions_in slots key ≡ o → (slot : ℕ) × (candidate_at slots slot ≡ Some key)
            by None e = absurd (not_some (versions_in c.store key) (sym (same key) ∙ e) goes.recorded)
            by (Some v) e =
                let d = version_dead slots key v e (sym (ap live_version e) ∙ live) in
                (d.0, dead_offered slots d.0 key d.1 (unset_by d.0 key goes (dead_key slots d.0 key d.1) (aside_at slots d.0) refl))

        -- the least candidate is the least key that may go
        pub least_is :
            HasKeysOnce slots → (slot : ℕ) (key : Bytes) → IsLeastCandidate slots (Some slot) → key_at slots slot ≡ Some key → has c.changed.collecting key ≡ false → IsFree c.locks key →
            IsReclaimable (view_of c) (Some key)
        least_is once slot key least is uncollected free = (
          at_rest_is,
          may_go once slot key (least_offered slots slot key least is) uncollected free,
          λ k goes. let o = goes_offered k goes in ap (precedes k) (sym key_is) ∙ least.least o.0 k o.1,
        )
          where
            key_is : least.key ≡ key
            key_is = let one : Some least.key ≡ Some key = sym least.offered ∙ least_offered slots slot key least is in cc

        pub none_is : IsLeastCandidate slots None → IsReclaimable (view_of c) None
        none_is least resting key goes = let o = goes_offered key goes in none_some (sym (least o.0) ∙ o.1)
