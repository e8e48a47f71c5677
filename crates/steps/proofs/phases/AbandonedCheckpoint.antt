-- A core after its checkpoint was abandoned.
use Rattle.std.proofs.Common.{◌≡◌, ◌⊎◌, ◌||◌, List, [], ◌∷◌, ◌++◌, Option, Some, None, Vec, inl, inr, map, option_map, length, slice_index_or, refl, sym, ap, ◌∙◌, subst, true≢false, Bool, true, false}
use Rattle.std.specs.Option.{option_or}
use Rattle.std.proofs.Math.ListN.{get_or-map}
use Rattle.std.proofs.lemmas.List.{length-map}
use Rattle.procedure.specs.Bytes.{Bytes, Cell}
use Rattle.phase.specs.Phases as phases
use Rattle.phase.specs.Phases.{Starts}
use Rattle.phase.specs.declared.phases.Phase.{Phase}
use Rattle.phase.specs.declared.phases.Phase.TheVariants.{Rest, Resolve, Capture}
use Rattle.commitlog.specs.Logs.{Log}
use Rattle.commitlog.specs.Records.{Token}
use Rattle.commitlog.specs.Histories.{phase_of}
use Rattle.record_store.proofs.ChangedKeys.{has-union}
use Rattle.record_store.specs.ChangedSets.{ChangedSets, KeySet, has, empty_set, union}
use Rattle.record_store.specs.Stores.{Slots, record_at_rest}
use Rattle.steps.proofs.reclaim.SetAside.{aside_kept}
use Rattle.steps.proofs.store.SlotEdits.{slots_rested}
use Rattle.steps.specs.Checkpointing.{abandoned, restarted}
use Rattle.steps.specs.inside.CheckpointFields.{is_unfinished}
use Rattle.steps.specs.inside.CoreFields.{IsCore, SameCall, call_at, mode_held, restarted_call, start_of, underway, view_of, either}
use Rattle.steps.specs.CoreViews.{CoreView, Underway}
use Rattle.steps.specs.Versions.{versions_in}
use Rattle.steps.specs.inside.RecordEdits.{KeepsSlots}
use Rattle.steps.specs.machine.Machine as machine
use Rattle.steps.specs.machine.Machine.{Abandons, Open, abandon, cleaned_versions, more}
use Rattle.steps.specs.declared.calls.OpenCall.{OpenCall}
use Rattle.steps.specs.declared.cores.Core.TheInside.{Inside}
use Rattle.steps.specs.Refusals.{abandon_refusal, is_cutting, refused_unless}
use Rattle.steps.specs.declared.errors.AbandonError.{AbandonError}
use Rattle.steps.specs.declared.errors.AbandonError.TheVariants as abandoning
use Rattle.steps.proofs.views.CoreState.{phase_by}
use Rattle.steps.proofs.phases.AddedToken.{token_last, token_log, token_small}
use Rattle.steps.proofs.phases.ResolveAndRest.{entered_log, none_in_empty, number_here, rested_versions}

same_held : (o : Option Open) (q : Bytes) → mode_held o q ≡ mode_held (machine.restarted_open o) q
same_held None q = refl
same_held (Some o) q = refl

module _ {A : Type 0} where
  same_restarted : (k : Option (OpenCall A)) (o : Option Open) → SameCall k o → SameCall (option_map restarted_call k) (machine.restarted_open o)
  same_restarted None None same = tt
  same_restarted None (Some o) same = absurd same
  same_restarted (Some k) None same = absurd same
  same_restarted (Some k) (Some o) same = record { number = same.number; procedure = same.procedure; args = same.args; start = refl; count = same.count; progress = same.progress; notes = same.notes }

  starts_restarted : (l : List (Option (OpenCall A))) → map phases.restarted_phase (map start_of l) ≡ map start_of (map (option_map restarted_call) l)
  starts_restarted [] = refl
  starts_restarted (None ∷ l) = ap (λ (s : Starts). None ∷ s) (starts_restarted l)
  starts_restarted (Some k ∷ l) = ap (λ (s : Starts). Some Rest ∷ s) (starts_restarted l)

  shown_restarted : (l : List (Option (OpenCall A))) → map (option_map underway) (map (option_map restarted_call) l) ≡ map (option_map restarted) (map (option_map underway) l)
  shown_restarted [] = refl
  shown_restarted (None ∷ l) = ap (λ (s : List (Option Underway)). None ∷ s) (shown_restarted l)
  shown_restarted (Some k ∷ l) = ap (λ (s : List (Option Underway)). Some (restarted (underway k)) ∷ s) (shown_restarted l)

  module _ (c : Inside A) (ok : IsCore c) (log : Log) (store : Slots) (changed : ChangedSets) (calls : Vec (Option (OpenCall A)) A) (active : Starts) (captured : Vec (Bytes × Cell) A)
      (phase_is : (c.phase ≡ Resolve) ⊎ (c.phase ≡ Capture)) (log_is : log.records ≡ c.log.records ++ Token Rest c.checkpoint.number ∷ []) (store_is : store ≡ map (option_map record_at_rest) c.store)
      (collecting : changed.collecting ≡ union c.changed.collecting c.changed.frozen) (frozen : changed.frozen ≡ empty_set) (calls_are : calls.items ≡ map (option_map restarted_call) c.calls.items)
      (active_is : active ≡ map phases.restarted_phase c.active)
    where
      abbrev after_abandon : Inside A
      after_abandon =
          record c { log = log; store = store; changed = changed; calls = calls; active = active; phase = Rest; checkpoint = record c.checkpoint { captured = captured; waiting = None } }

      cutting : (ok.world.phase ≡ Resolve) ⊎ (ok.world.phase ≡ Capture)
      cutting = elim phase_is [ inl e ↦ inl (ok.stands.phase ∙ e) | inr e ↦ inr (ok.stands.phase ∙ e) ]

      none_yet : c.checkpoint.header ≡ None
      none_yet = elim phase_is [ inl e ↦ ok.stands.checkpoint.none_yet (ap is_unfinished (ok.stands.phase ∙ e)) | inr e ↦ ok.stands.checkpoint.none_yet (ap is_unfinished (ok.stands.phase ∙ e)) ]

      -- what was collected or frozen is collected
      rejoined : (q : Bytes) → either c.changed q ≡ true → either changed q ≡ true
      rejoined q is = by (has c.changed.collecting q) (has c.changed.frozen q) (has changed.frozen q) (ap (λ (s : KeySet). has s q) collecting ∙ has-union c.changed.collecting c.changed.frozen q) is
        where
          by : (col fro x : Bool) → has changed.collecting q ≡ (fro || col) → (col || fro) ≡ true → (has changed.collecting q || x) ≡ true
          by true true x e h = ap (λ b. b || x) e
          by true false x e h = ap (λ b. b || x) e
          by false true x e h = ap (λ b. b || x) e
          by false false x e h = absurd (true≢false (sym h))

      pub abandon_core : IsCore after_abandon
      abandon_core = record {
        world = abandon ok.world;
        run = more ok.run (Abandons cutting);
        stands = record {
          catalog = ok.stands.catalog;
          opening = ok.stands.opening;
          log = token_log c ok Rest ok.world.number log.records (number_here c ok log Rest log_is);
          calls = λ s.
              subst (λ (k : Option (OpenCall A)). SameCall k (machine.restarted_open (ok.world.calls s)))
              (sym (ap (λ (l : List (Option (OpenCall A))). slice_index_or l s None) calls_are ∙ get_or-map (option_map restarted_call) c.calls.items s None))
              (same_restarted (call_at c s) (ok.world.calls s) (ok.stands.calls s));
          versions = λ q. ap cleaned_versions (ok.stands.versions q) ∙ sym (rested_versions c.store q) ∙ ap (λ (l : Slots). versions_in l q) (sym store_is);
          collecting = λ q.
              ap (λ b. b || ok.world.collecting q) (ok.stands.frozen q) ∙ ap (λ b. has c.changed.frozen q || b) (ok.stands.collecting q)
              ∙ sym (ap (λ (s : KeySet). has s q) collecting ∙ has-union c.changed.collecting c.changed.frozen q);
          frozen = λ q. sym (ap (λ (s : KeySet). has s q) frozen ∙ none_in_empty q);
          locks = λ s q. ok.stands.locks s q ∙ same_held (ok.world.calls s) q;
          phase = refl;
          checkpoint = record {
            number = ok.stands.checkpoint.number;
            finished = ok.stands.checkpoint.finished;
            kind = ok.stands.checkpoint.kind;
            place = λ cutting. absurd (true≢false (sym cutting));
            scan = tt;
            waits = λ i is. absurd (let no_image : None ≡ Some i = is in cc);
            heads = λ h is. absurd (let no_header : None ≡ Some h = sym none_yet ∙ is in cc);
            none_yet = λ unfinished. absurd (true≢false (sym unfinished));
          };
        };
        lawful = ok.lawful;
        opens = ok.opens;
        small = token_small c ok Rest ok.world.number log.records (number_here c ok log Rest log_is);
        sessions = ap length calls_are ∙ length-map c.calls.items (option_map restarted_call) ∙ ok.sessions;
        tables = ok.tables;
        starts = active_is ∙ ap (map phases.restarted_phase) ok.starts ∙ starts_restarted c.calls.items ∙ sym (ap (map start_of) calls_are);
        numbers = ok.numbers;
        last = token_last c ok Rest ok.world.number log.records (number_here c ok log Rest log_is);
        aside =
            aside_kept c.aside c.store store (either c.changed) (either changed) c.locks c.locks (subst (λ (l : Slots). KeepsSlots c.store l) (sym store_is) (slots_rested c.store)) rejoined
            (λ q is. is) ok.aside;
      }

      pub abandon_view : (v : CoreView) → view_of c ≡ v → view_of after_abandon ≡ abandoned v
      abandon_view v same =
          ap (λ l. record (view_of after_abandon) { log = l }) (entered_log c ok log Rest log_is)
          ∙ ap (λ l. record (abandoned (view_of c)) { slots = l; calls = map (option_map underway) calls.items }) store_is
          ∙ ap (λ l. record (abandoned (view_of c)) { calls = map (option_map underway) l }) calls_are
          ∙ ap (λ l. record (abandoned (view_of c)) { calls = l }) (shown_restarted c.calls.items)
          ∙ ap abandoned same

  -- a checkpoint that may be abandoned has a cut, and isn't finished
  pub abandons_from : (c : Inside A) → IsCore c → (v : CoreView) → view_of c ≡ v → abandon_refusal v ≡ None → (c.phase ≡ Resolve) ⊎ (c.phase ≡ Capture)
  abandons_from c ok v same e = by (phase_of v.log) refl _ e
    where
      by : (p : Phase) → phase_of v.log ≡ p → (rest : Option AbandonError) → option_or (refused_unless (is_cutting p) abandoning.NotAbandonable) rest ≡ None → (c.phase ≡ Resolve) ⊎ (c.phase ≡ Capture)
      by Resolve is rest e = inl (phase_by c ok same is)
      by Capture is rest e = inr (phase_by c ok same is)
      by _ is rest e = absurd (cc)
