-- Whether a call has ended, by its machine as it is kept and by its run alone.
use Rattle.std.proofs.Common.{◌≡◌, ℕ, Bool, true, false, not, cond, List, Option, Some, None, Vec, map, option_map, slice_index_or, refl, sym, ap, ◌∙◌, subst, ◌||◌, true≢false}
use Rattle.std.specs.Prelude.{◌==◌, length}
use Rattle.std.specs.Option.{option_or}
use Rattle.std.proofs.lemmas.Bool.{eq-eqb, ne_eqb}
use Rattle.procedure.specs.Bytes.{Cell}
use Rattle.procedure.specs.Runs.{Front, Progress, ended, is_nil}
use Rattle.commitlog.specs.Histories.{last_number}
use Rattle.commitlog.specs.Logs.{Log}
use Rattle.record_store.specs.ChangedSets.{ChangedSets, has}
use Rattle.commitlog.specs.declared.limits.TheConstants.{LOG_RECORDS}
use Rattle.steps.proofs.reclaim.SetAside.{aside_kept}
use Rattle.steps.specs.machine.NewestFirst.{before}
use Rattle.steps.specs.inside.CoreFields.{IsCore, SameCall, call_at, start_of, underway, view_of, either}
use Rattle.image.specs.Merges.{table_of}
use Rattle.steps.specs.CoreViews.{CoreView, IsSmall, Underway, OfOpen, front_of, open_at}
use Rattle.steps.specs.Refusals.{refused_unless, unfinished, finish_refusal}
use Rattle.steps.specs.inside.Endings.{unanswered}
use Rattle.steps.specs.declared.calls.OpenCall.{OpenCall}
use Rattle.steps.specs.declared.notes.Room.{Room}
use Rattle.steps.specs.declared.cores.Core.TheInside.{Inside}
use Rattle.steps.specs.declared.errors.FinishError.TheVariants as refused
use Rattle.steps.proofs.sessions.EndedCall.{machine_is}
use Rattle.steps.proofs.sessions.AcceptedCalls.{shown_at}
use Rattle.steps.proofs.store.SlotEdits.{slots_same, tracked_on}
use Rattle.steps.proofs.views.CoreState.{some_open}

pub going : (p : Progress) → ended p ≡ None → is_nil p.rest ≡ false
going p e = by (is_nil p.rest) e
  where
    by : (b : Bool) → cond b (Some p.outcome) None ≡ None → b ≡ false
    by true e = absurd (cc)
    by false e = refl

pub done : (p : Progress) (o : ℕ) → ended p ≡ Some o → (is_nil p.rest ≡ true) × (o ≡ p.outcome)
done p o e = by (is_nil p.rest) e
  where
    by : (b : Bool) → cond b (Some p.outcome) None ≡ Some o → (b ≡ true) × (o ≡ p.outcome)
    by true e = (refl, cc)
    by false e = absurd (cc)

pub ready : (p : Progress) (full : Bool) → unanswered p full ≡ None → (is_nil p.rest ≡ true) × (full ≡ false)
ready p full e = by (is_nil p.rest) full e
  where
    by : (a b : Bool) → option_or (refused_unless a refused.NotReady) (refused_unless (not b) refused.LogFull) ≡ None → (a ≡ true) × (b ≡ false)
    by true true e = absurd (cc)
    by true false e = (refl, refl)
    by false b e = absurd (cc)

-- a test that tells whether two numbers are the same
pub same_test : (b : Bool) (n m : ℕ) → (b ≡ true → n ≡ m) → (n ≡ m → b ≡ true) → b ≡ (n == m)
same_test true n m f g = sym (eq-eqb n m (f refl))
same_test false n m f g = sym (ne_eqb n m (λ e. true≢false (sym (g e))))

module _ {A : Type 0} (c : Inside A) (ok : IsCore c) (v : CoreView) (same : view_of c ≡ v) (s : ℕ) where
  pub open_is : (k : OpenCall A) → call_at c s ≡ Some k → open_at v s ≡ Some (underway k)
  open_is k is = ap (λ (w : CoreView). open_at w s) (sym same) ∙ shown_at c s ∙ ap (option_map underway) is

  -- how far the call came
  pub progress_is : (k : OpenCall A) → call_at c s ≡ Some k → k.machine.progress ≡ (front_of v (underway k)).progress
  progress_is k is =
      let opened = some_open c ok s k is in
      sym opened.2.progress ∙ ap (λ (m : Front). m.progress) (machine_is c ok s k is c.calls c.store c.locks c.active c.aside)
      ∙ ap (λ (w : CoreView). (front_of w (underway k)).progress) same

  pub progress_of : (k : OpenCall A) → call_at c s ≡ Some k → (P : Progress → Type 0) → P k.machine.progress → OfOpen v s (λ u. P (front_of v u).progress)
  progress_of k is P here u there =
      let one : Some (underway k) ≡ Some u = sym (open_is k is) ∙ there in
      let which : underway k ≡ u = cc in
      subst (λ (w : Underway). P (front_of v w).progress) which (subst P (progress_is k is) here)

  pub refusal_is : (k : OpenCall A) (full : Bool) → call_at c s ≡ Some k → full ≡ (length v.log == LOG_RECORDS) → finish_refusal v s ≡ unanswered k.machine.progress full
  refusal_is k full is e =
      ap (unfinished v) (open_is k is)
      ∙ ap (λ (p : Progress). unanswered p (length v.log == LOG_RECORDS)) (sym (progress_is k is))
      ∙ ap (unanswered k.machine.progress) (sym e)

  pub not_active : call_at c s ≡ None → finish_refusal v s ≡ Some refused.NotActive
  not_active is = ap (unfinished v) (ap (λ (w : CoreView). open_at w s) (sym same) ∙ shown_at c s ∙ ap (option_map underway) is)

  pub outcome_is : (k : OpenCall A) (o : ℕ) → call_at c s ≡ Some k → o ≡ k.machine.progress.outcome → OfOpen v s (λ u. o ≡ (front_of v u).outcome)
  outcome_is k o is e = progress_of k is (λ p. o ≡ p.outcome) e

  pub replies_are : (k : OpenCall A) (replies : List Cell) → call_at c s ≡ Some k → replies ≡ k.machine.progress.replies → OfOpen v s (λ u. replies ≡ (front_of v u).replies)
  replies_are k replies is e = progress_of k is (λ p. replies ≡ p.replies) e

module _ {A : Type 0} (c : Inside A) (ok : IsCore c) where
  -- More room, or less of it, changes nothing that stands for the machine.
  pub roomy_fields :
      (calls : Vec (Option (OpenCall A)) A) (log : Log) (changed : ChangedSets) (rooms : Vec (Room A) A) → calls.items ≡ c.calls.items → log.records ≡ c.log.records →
      changed.collecting ≡ c.changed.collecting → changed.frozen ≡ c.changed.frozen → IsCore (record c { calls = calls; log = log; changed = changed; rooms = rooms })
  roomy_fields calls log changed rooms same_calls e f h = record {
    world = ok.world;
    run = ok.run;
    stands = record {
      catalog = ok.stands.catalog;
      opening = ok.stands.opening;
      log = ok.stands.log ∙ sym e;
      calls = λ s. subst (λ (l : List (Option (OpenCall A))). SameCall (slice_index_or l s None) (ok.world.calls s)) (sym same_calls) (ok.stands.calls s);
      versions = ok.stands.versions;
      collecting = λ q. ok.stands.collecting q ∙ ap (λ k. has k q) (sym f);
      frozen = λ q. ok.stands.frozen q ∙ ap (λ k. has k q) (sym h);
      locks = ok.stands.locks;
      phase = ok.stands.phase;
      checkpoint =
          tracked_on c.checkpoint c.store c.store c.changed.frozen changed.frozen ok.world.phase ok.world.number ok.world.finished ok.world.kind (length (before ok.world.number ok.world.log))
          (length (before ok.world.number ok.world.log)) ok.world.visited ok.world.bound ok.world.given ok.world.images
          (slots_same c.store c.store refl) h refl ok.stands.checkpoint;
    };
    lawful = ok.lawful;
    opens = ok.opens;
    small = subst (IsSmall c.catalog (table_of c.opening)) (sym e) ok.small;
    sessions = ap length same_calls ∙ ok.sessions;
    tables = ok.tables;
    starts = ok.starts ∙ ap (map start_of) (sym same_calls);
    numbers = ok.numbers;
    last = λ s lt. ok.last s lt ∙ ap (last_number s) (sym e);
    aside =
        aside_kept c.aside c.store c.store (either c.changed) (either changed) c.locks c.locks (slots_same c.store c.store refl)
        (λ q is. ap (λ k. has k q || has changed.frozen q) f ∙ ap (λ k. has c.changed.collecting q || has k q) h ∙ is) (λ q is. is) ok.aside;
  }

  pub roomy_core :
      (log : Log) (changed : ChangedSets) → log.records ≡ c.log.records → changed.collecting ≡ c.changed.collecting → changed.frozen ≡ c.changed.frozen →
      IsCore (record c { log = log; changed = changed })
  roomy_core log changed = roomy_fields c.calls log changed c.rooms refl

  pub other_rooms : (rooms : Vec (Room A) A) → IsCore (record c { rooms = rooms })
  other_rooms rooms = roomy_fields c.calls c.log c.changed rooms refl refl refl refl

pub roomy_view :
    {A : Type 0} (c : Inside A) (v : CoreView) → view_of c ≡ v → (log : Log) (changed : ChangedSets) → log.records ≡ c.log.records → view_of (record c { log = log; changed = changed }) ≡ v
roomy_view c v same log changed e = ap (λ r. record (view_of c) { log = r }) e ∙ same
