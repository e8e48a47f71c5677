-- A core after one token more.
use Rattle.std.proofs.Common.{◌≡◌, ℕ, suc, ◌<◌, ◌≤◌, List, [], ◌∷◌, ◌++◌, None, slice_index_or, length, reverse, refl, sym, ap, ◌∙◌, subst, arith, le_refl}
use Rattle.std.specs.FinMap as fin
use Rattle.std.proofs.lemmas.List.{take_all}
use Rattle.procedure.specs.declared.limits.TheConstants.{SESSIONS}
use Rattle.procedure.specs.Bytes.{Bytes}
use Rattle.phase.specs.declared.phases.Phase.{Phase}
use Rattle.phase.specs.declared.phases.Phase.TheVariants.{Rest, Prepare, Resolve, Capture, Complete}
use Rattle.commitlog.proofs.Histories.{after-push, last_number-push}
use Rattle.commitlog.specs.Histories as log
use Rattle.commitlog.specs.Histories.{Follows, last_number}
use Rattle.commitlog.specs.Logs.{Log}
use Rattle.commitlog.specs.Records.{Record, Token, Call}
use Rattle.image.specs.Merges.{table_of}
use Rattle.record_store.specs.declared.limits.TheConstants.{STORE_RECORDS}
use Rattle.steps.specs.machine.NewestFirst.{IsCyclicHistory, before, history_number, history_phase}
use Rattle.record_store.specs.ChangedSets.{ChangedSets, has}
use Rattle.record_store.specs.Stores.{Slots}
use Rattle.steps.specs.inside.CheckpointFields.{IsTracked, spots}
use Rattle.steps.specs.inside.CoreFields.{IsCore, SameCall, call_at, either, mode_held, view_of}
use Rattle.steps.specs.inside.SetAside.{AsideIn}
use Rattle.steps.specs.machine.Machine.{CallsBySession, Runs, State, initial}
use Rattle.steps.specs.declared.checkpoints.Checkpoint.{Checkpoint}
use Rattle.steps.specs.declared.reclaiming.Aside.{Aside}
use Rattle.steps.specs.CoreViews.{CoreView, IsSmall}
use Rattle.steps.specs.Versions.{versions_in}
use Rattle.steps.specs.declared.cores.Core.TheInside.{Inside}
use Rattle.steps.proofs.log.OldestFirst.{length-reverse, number_of-reverse, reverse_push}
use Rattle.steps.proofs.sessions.CallProgress.{roomy_core, roomy_view}
use Rattle.steps.proofs.store.KeyCount.{small_more}
use Rattle.steps.proofs.views.CoreState.{good}

next_number : (p q : Phase) (n m : ℕ) → Follows p n q m → m ≤ suc n
next_number Rest Prepare n m f = omega (arith, f)
next_number Prepare Resolve n m f = omega (arith, f)
next_number Resolve Capture n m f = omega (arith, f)
next_number Resolve Rest n m f = omega (arith, f)
next_number Capture Complete n m f = omega (arith, f)
next_number Capture Rest n m f = omega (arith, f)
next_number Complete Rest n m f = omega (arith, f)
next_number _ _ n m f = absurd f

-- no more checkpoints than records
few_numbers : (h : List Record) → IsCyclicHistory h → history_number h ≤ length h
few_numbers [] c = omega arith
few_numbers (Token p n ∷ h) c = omega (arith, next_number (history_phase h) p (history_number h) n c.0, few_numbers h c.1)
few_numbers (Call s n p args o r ∷ h) c = omega (arith, few_numbers h c)

module _ {A : Type 0} (c : Inside A) (ok : IsCore c) where
  pub number_is : ok.world.number ≡ log.number_of c.log.records
  number_is = sym (good c ok).lawful.number ∙ sym (number_of-reverse ok.world.log) ∙ ap log.number_of ok.stands.log

  pub number_seen : (v : CoreView) → view_of c ≡ v → c.checkpoint.number ≡ log.number_of v.log
  number_seen v same = sym ok.stands.checkpoint.number ∙ number_is ∙ ap (λ (w : CoreView). log.number_of w.log) same

  -- the number of the checkpoint is at most that of the records
  pub number_within : c.checkpoint.number ≤ length c.log.records
  number_within =
      let few = few_numbers ok.world.log (good c ok).lawful.cyclic in
      let same = (good c ok).lawful.number in
      let kept = ok.stands.checkpoint.number in
      let as_long = sym (length-reverse ok.world.log) ∙ ap length ok.stands.log in
      omega (arith, few, same, kept, as_long)

  module _ (p : Phase) (n : ℕ) (records : List Record) (log_is : records ≡ c.log.records ++ Token p n ∷ []) where
    pub token_log : reverse (Token p n ∷ ok.world.log) ≡ records
    token_log = reverse_push (Token p n) ok.world.log ∙ ap (λ (l : List Record). l ++ Token p n ∷ []) ok.stands.log ∙ sym log_is

    pub token_small : IsSmall c.catalog (table_of c.opening) records
    token_small =
        subst (IsSmall c.catalog (table_of c.opening)) (sym log_is)
        (small_more c.catalog (table_of c.opening) c.log.records (Token p n) ok.small
        (subst (λ t. fin.len t ≤ STORE_RECORDS) (sym (after-push c.catalog (table_of c.opening) c.log.records (Token p n)))
        (subst (λ l. fin.len (log.after c.catalog (table_of c.opening) l) ≤ STORE_RECORDS) (take_all (length c.log.records) c.log.records (le_refl (length c.log.records)))
        (ok.small (length c.log.records)))))

    pub token_last : (s : ℕ) → s < SESSIONS → slice_index_or c.last.items s None ≡ last_number s records
    token_last s lt = ok.last s lt ∙ sym (ap (last_number s) log_is ∙ last_number-push s c.log.records (Token p n))

    -- a state of the machine after that token, with the same calls
    abbrev pub IsAfterToken : State → Type 0
    IsAfterToken w = (w.catalog ≡ ok.world.catalog) × (w.opening ≡ ok.world.opening) × (w.log ≡ Token p n ∷ ok.world.log) × (w.calls ≡ ok.world.calls) × (w.phase ≡ p)

    -- the core in the phase of that token, by the machine's state
    pub token_core :
        (log : Log) → log.records ≡ records → (store : Slots) (changed : ChangedSets) (checkpoint : Checkpoint A) (aside : Aside) (w : State) →
        IsAfterToken w → Runs (initial c.catalog (table_of c.opening)) w →
        ((q : Bytes) → w.versions q ≡ versions_in store q) → ((q : Bytes) → w.collecting q ≡ has changed.collecting q) → ((q : Bytes) → w.frozen q ≡ has changed.frozen q) →
        IsTracked checkpoint (spots checkpoint.kind store changed.frozen) w.phase w.number w.finished w.kind (length (before w.number w.log)) w.visited w.bound w.given w.images →
        AsideIn aside store (either changed) c.locks → IsCore (record c { log = log; store = store; changed = changed; checkpoint = checkpoint; aside = aside; phase = p })
    token_core log is store changed checkpoint aside w (catalog, opening, entered, calls, phase) run versions collecting frozen tracked reasons = record {
      world = w;
      run = run;
      stands = record {
        catalog = catalog ∙ ok.stands.catalog;
        opening = opening ∙ ok.stands.opening;
        log = ap reverse entered ∙ token_log ∙ sym is;
        calls = λ s. subst (λ (l : CallsBySession). SameCall (call_at c s) (l s)) (sym calls) (ok.stands.calls s);
        versions = versions;
        collecting = collecting;
        frozen = frozen;
        locks = λ s q. ok.stands.locks s q ∙ ap (λ (l : CallsBySession). mode_held (l s) q) (sym calls);
        phase = phase;
        checkpoint = tracked;
      };
      lawful = ok.lawful;
      opens = ok.opens;
      small = subst (IsSmall c.catalog (table_of c.opening)) (sym is) token_small;
      sessions = ok.sessions;
      tables = ok.tables;
      starts = ok.starts;
      numbers = ok.numbers;
      last = λ s lt. token_last s lt ∙ ap (last_number s) (sym is);
      aside = reasons;
    }

  -- the log, as long as it was, is the same
  pub same_core : (log : Log) → log.records ≡ c.log.records → IsCore (record c { log = log })
  same_core log e = roomy_core c ok log c.changed e refl refl

  pub same_view : (v : CoreView) → view_of c ≡ v → (log : Log) → log.records ≡ c.log.records → view_of (record c { log = log }) ≡ v
  same_view v same log e = roomy_view c v same log c.changed e
