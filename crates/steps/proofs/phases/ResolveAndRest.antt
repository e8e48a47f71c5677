-- A core after its phase changed: into resolve, and to rest.
use Rattle.std.proofs.Common.{◌≡◌, ℕ, false, List, [], ◌∷◌, ◌++◌, Option, Some, None, is_some, map, option_map, length, refl, sym, ap, ◌∙◌, true≢false, Bool, true, ◌||◌, subst}
use Rattle.std.specs.FinMap as fin
use Rattle.std.specs.Ordering.{nat_cmp}
use Rattle.std.specs.Cmp.Lexicographic.{slice_cmp}
use Rattle.procedure.specs.Bytes.{Bytes}
use Rattle.phase.specs.declared.phases.Phase.{Phase}
use Rattle.phase.specs.declared.phases.Phase.TheVariants.{Rest, Prepare, Resolve, Capture, Complete}
use Rattle.commitlog.specs.Logs.{Log}
use Rattle.commitlog.specs.Records.{Record, Token}
use Rattle.record_store.proofs.Versions.{version_of-rested}
use Rattle.record_store.specs.ChangedSets.{ChangedSets, KeySet, has, empty_set}
use Rattle.record_store.specs.Stores.{Slots, record_at_rest}
use Rattle.record_store.specs.Versions as stored
use Rattle.steps.proofs.reclaim.SetAside.{aside_kept}
use Rattle.steps.proofs.store.SlotEdits.{slots_same, slots_rested}
use Rattle.steps.specs.machine.NewestFirst.{before}
use Rattle.steps.specs.Checkpointing.{entered, rested_core}
use Rattle.steps.specs.inside.CoreFields.{IsCore, view_of, either}
use Rattle.steps.specs.CoreViews.{CoreView}
use Rattle.steps.specs.Versions.{key_versions, versions_in}
use Rattle.steps.specs.inside.RecordEdits.{KeepsSlots}
use Rattle.steps.specs.machine.Invariant.{Gathers, Sets}
use Rattle.steps.specs.Refusals.{is_cutting, is_held}
use Rattle.steps.specs.inside.CheckpointFields.{is_unfinished}
use Rattle.steps.specs.machine.Machine.{Resolves, Rests, cleaned_versions, more, resolve, rest}
use Rattle.steps.specs.declared.cores.Core.TheInside.{Inside}
use Rattle.steps.proofs.phases.AddedToken.{number_is, token_core}
use Rattle.steps.proofs.log.OldestFirst.{length-reverse}
use Rattle.steps.proofs.machine.HistoryGrowth.{before-own}
use Rattle.steps.proofs.phases.PhaseEnds.{all_started}
use Rattle.steps.proofs.views.CoreState.{good}

-- a token of another phase leaves the cut where it is
pub before_capture : (n m : ℕ) (h : List Record) → before n (Token Capture m ∷ h) ≡ before n h
unfolding before
before_capture n m h = refl

pub none_in_empty : (q : Bytes) → has empty_set q ≡ false
none_in_empty q = ap is_some (fin.get-empty (slice_cmp nat_cmp) q)

rested_as : (o : Option stored.Version) → option_map key_versions (option_map stored.rested o) ≡ cleaned_versions (option_map key_versions o)
rested_as None = refl
rested_as (Some v) = refl

-- the versions at rest
pub rested_versions : (slots : Slots) (q : Bytes) → versions_in (map (option_map record_at_rest) slots) q ≡ cleaned_versions (versions_in slots q)
unfolding versions_in
rested_versions slots q = ap (option_map key_versions) (version_of-rested slots q) ∙ rested_as (stored.version_of slots q)

module _ {A : Type 0} (c : Inside A) (ok : IsCore c) (log : Log) where
  pub number_here : (p : Phase) → log.records ≡ c.log.records ++ Token p c.checkpoint.number ∷ [] → log.records ≡ c.log.records ++ Token p ok.world.number ∷ []
  number_here p log_is = log_is ∙ ap (λ n. c.log.records ++ Token p n ∷ []) (sym ok.stands.checkpoint.number)

  -- the log as the view says it
  pub entered_log : (p : Phase) → log.records ≡ c.log.records ++ Token p c.checkpoint.number ∷ [] → log.records ≡ (entered (view_of c) p).log
  entered_log p log_is = number_here p log_is ∙ ap (λ n. c.log.records ++ Token p n ∷ []) (number_is c ok)

  module _ (changed : ChangedSets) (place : ℕ) (phase_is : c.phase ≡ Prepare) (free : is_held Prepare (view_of c).calls ≡ false)
      (log_is : log.records ≡ c.log.records ++ Token Resolve c.checkpoint.number ∷ []) (collecting : changed.collecting ≡ empty_set) (frozen : changed.frozen ≡ c.changed.collecting)
      (place_is : place ≡ length c.log.records) where
    abbrev after_resolve : Inside A
    after_resolve = record c { log = log; changed = changed; phase = Resolve; checkpoint = record c.checkpoint { place = place } }

    none_frozen : (q : Bytes) → has c.changed.frozen q ≡ false
    none_frozen q =
        let sets : Gathers ok.world.catalog ok.world.opening ok.world.log ok.world.finished ok.world.collecting ok.world.frozen =
        subst (λ b. Sets b ok.world.catalog ok.world.opening ok.world.log ok.world.number ok.world.finished ok.world.collecting ok.world.frozen) (ap is_cutting (ok.stands.phase ∙ phase_is))
        (good c ok).sets in
        sym (ok.stands.frozen q) ∙ sets.frozen q

    -- what was collected is frozen
    now_frozen : (q : Bytes) → either c.changed q ≡ true → either changed q ≡ true
    now_frozen q is = by (has c.changed.collecting q) (has c.changed.frozen q) (has changed.collecting q) (none_frozen q) (ap (λ (s : KeySet). has s q) frozen) is
      where
        by : (col fro x : Bool) → fro ≡ false → has changed.frozen q ≡ col → (col || fro) ≡ true → (x || has changed.frozen q) ≡ true
        by true fro true e f h = refl
        by true fro false e f h = f
        by false fro x e f h = absurd (true≢false (sym h ∙ e))

    pub resolve_core : IsCore after_resolve
    resolve_core =
        token_core c ok Resolve ok.world.number log.records (number_here Resolve log_is) log refl c.store changed (record c.checkpoint { place = place }) c.aside
        (resolve ok.world) (refl, refl, refl, refl, refl)
        (more ok.run (Resolves (ok.stands.phase ∙ phase_is) (all_started c ok Prepare free)))
        ok.stands.versions (λ q. sym (ap (λ (s : KeySet). has s q) collecting ∙ none_in_empty q)) (λ q. ok.stands.collecting q ∙ ap (λ (s : KeySet). has s q) (sym frozen))
        record {
          number = ok.stands.checkpoint.number;
          finished = ok.stands.checkpoint.finished;
          kind = ok.stands.checkpoint.kind;
          place = λ cutting. ap length (before-own ok.world.log ok.world.number) ∙ sym (length-reverse ok.world.log) ∙ ap length ok.stands.log ∙ sym place_is;
          scan = tt;
          waits = ok.stands.checkpoint.waits;
          heads = ok.stands.checkpoint.heads;
          none_yet = λ unfinished. ok.stands.checkpoint.none_yet (ap is_unfinished (ok.stands.phase ∙ phase_is));
        }
        (aside_kept c.aside c.store c.store (either c.changed) (either changed) c.locks c.locks (slots_same c.store c.store refl) now_frozen (λ q is. is) ok.aside)

    pub resolve_view : (v : CoreView) → view_of c ≡ v → view_of after_resolve ≡ entered v Resolve
    resolve_view v same = ap (λ l. record (view_of c) { log = l }) (entered_log Resolve log_is) ∙ ap (λ w. entered w Resolve) same

  module _ (store : Slots) (phase_is : c.phase ≡ Complete) (free : is_held Complete (view_of c).calls ≡ false) (log_is : log.records ≡ c.log.records ++ Token Rest c.checkpoint.number ∷ [])
      (store_is : store ≡ map (option_map record_at_rest) c.store) where
    abbrev after_rest : Inside A
    after_rest = record c { log = log; store = store; phase = Rest }

    pub rest_core : IsCore after_rest
    rest_core =
        token_core c ok Rest ok.world.number log.records (number_here Rest log_is) log refl store c.changed c.checkpoint c.aside (rest ok.world) (refl, refl, refl, refl, refl)
        (more ok.run (Rests (ok.stands.phase ∙ phase_is) (all_started c ok Complete free)))
        (λ q. ap cleaned_versions (ok.stands.versions q) ∙ sym (rested_versions c.store q) ∙ ap (λ (l : Slots). versions_in l q) (sym store_is)) ok.stands.collecting ok.stands.frozen
        record {
          number = ok.stands.checkpoint.number;
          finished = ok.stands.checkpoint.finished;
          kind = ok.stands.checkpoint.kind;
          place = λ cutting. absurd (true≢false (sym cutting));
          scan = tt;
          waits = ok.stands.checkpoint.waits;
          heads = ok.stands.checkpoint.heads;
          none_yet = λ unfinished. absurd (true≢false (sym unfinished));
        }
        (aside_kept c.aside c.store store (either c.changed) (either c.changed) c.locks c.locks (subst (λ (l : Slots). KeepsSlots c.store l) (sym store_is) (slots_rested c.store)) (λ q is. is)
        (λ q is. is) ok.aside)

    pub rest_view : (v : CoreView) → view_of c ≡ v → view_of after_rest ≡ rested_core (entered v Rest)
    rest_view v same =
        ap (λ l. record (view_of c) { log = l; slots = store }) (entered_log Rest log_is)
        ∙ ap (λ l. record (entered (view_of c) Rest) { slots = l }) store_is
        ∙ ap (λ w. rested_core (entered w Rest)) same
