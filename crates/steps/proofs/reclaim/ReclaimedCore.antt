-- A store after a dead record was reclaimed.
use Rattle.std.proofs.Common.{◌≡◌, ◌≢◌, ◌||◌, ℕ, Bool, true, false, cond, length, Option, Some, None, inl, inr, is_none, refl, sym, ap, ◌∙◌, subst, length-set, get_or-set_other, true≢false}
use Rattle.std.specs.Option.{option_map, option_and_then}
use Rattle.std.proofs.lemmas.Bool.{cases_eq}
use Rattle.procedure.specs.Bytes.{Bytes, same}
use Rattle.procedure.proofs.Base.{keys, same_refl}
use Rattle.phase.specs.declared.phases.Phase.TheVariants.{Rest}
use Rattle.locktable.specs.Locks.{IsFree, Locks}
use Rattle.record_store.proofs.Fields.{edited_here}
use Rattle.record_store.proofs.Versions.{version_of-reclaimed}
use Rattle.record_store.specs.ChangedSets.{has}
use Rattle.record_store.specs.Stores.{IsLeastCandidate, HasKeysOnce, StoreRecord, Slots, candidate_at, key_at, reclaimed, record_at, unless_dead}
use Rattle.record_store.specs.Versions as stored
use Rattle.steps.specs.inside.SetAside.{AsideIn, IsKnown, SameRecords, aside_at, is_aside}
use Rattle.steps.specs.inside.CoreFields.{IsCore, either, view_of}
use Rattle.steps.specs.CoreViews.{CoreView}
use Rattle.steps.specs.Versions.{key_versions, versions_in, KeyVersions, VersionsByKey}
use Rattle.steps.specs.Reclaiming.{IsReclaimable, Reclaims, left_of, without}
use Rattle.steps.specs.inside.CheckpointFields.{ScansIn, spots}
use Rattle.steps.proofs.views.CoreState.{stored_core}
use Rattle.image.specs.Merges.{table_of}
use Rattle.steps.specs.machine.Machine as machine
use Rattle.steps.specs.machine.Machine.{MayReclaim, Runs, State, initial, more, reclaim}
use Rattle.steps.specs.declared.cores.Core.TheInside.{Inside}
use Rattle.steps.specs.declared.reclaiming.Aside.{Aside}
use Rattle.steps.specs.declared.reclaiming.Aside.TheVariants.{CollectedOrLocked}
use Rattle.steps.proofs.reclaim.Candidates.{either_reason, same_then}
use Rattle.steps.proofs.machine.OpenCalls.{none_some}
use Rattle.steps.proofs.reclaim.ReclaimableKeys.{IsDead, candidate_dead, candidate_reclaims, dead_key, least_is, least_offered, no_frozen, none_is}
use Rattle.steps.proofs.reclaim.SetAside.{aside_kept}
use Rattle.steps.proofs.store.SlotEdits.{slots_same}

shown_without : (b : Bool) (o : Option stored.Version) → option_map key_versions (cond b None o) ≡ cond b None (option_map key_versions o)
shown_without true o = refl
shown_without false o = refl

left_same : (key : Bytes) (o : Option Bytes) → o ≡ Some key → left_of (Some key) o ≡ None
left_same key o is = ap (left_of (Some key)) is ∙ ap (λ b. cond b None (Some key)) (same_refl key)

left_other : (key : Bytes) (o : Option Bytes) → o ≢ Some key → left_of (Some key) o ≡ o
left_other key None differs = refl
left_other key (Some k) differs =
    elim (keys k key) [
      | inl e ↦ absurd (differs (ap (λ (x : Bytes). Some x) e))
      | inr f ↦ ap (λ b. cond b None (Some k)) f
    ]

module _ (slots : Slots) (slot : ℕ) where
  -- as many slots
  pub reclaimed_length : length (reclaimed slots slot) ≡ length slots
  reclaimed_length = length-set slots slot (option_and_then unless_dead (record_at slots slot))

  others : (i : ℕ) → i ≢ slot → record_at (reclaimed slots slot) i ≡ record_at slots i
  others i differs = get_or-set_other slots slot i (option_and_then unless_dead (record_at slots slot)) None differs

  module _ (key : Bytes) (dead : IsDead slots slot key) where
    gone : record_at (reclaimed slots slot) slot ≡ None
    gone =
        edited_here (option_and_then unless_dead) refl slots slot
        ∙ ap (option_and_then unless_dead) dead.there
        ∙ ap (λ b. cond b None (Some dead.kept)) (ap is_none dead.dead)

    gone_at : (i : ℕ) → i ≡ slot → record_at (reclaimed slots slot) i ≡ None
    gone_at i e = ap (record_at (reclaimed slots slot)) e ∙ gone

    pub reclaimed_key : (i : ℕ) (k : Bytes) → key_at (reclaimed slots slot) i ≡ Some k → key_at slots i ≡ Some k
    reclaimed_key i k is =
        elim (cases_eq i slot) [
          | inl e ↦ none_some (sym (ap (option_map (λ (r : StoreRecord). r.key)) (gone_at i e)) ∙ is)
          | inr differs ↦ ap (option_map (λ (r : StoreRecord). r.key)) (sym (others i differs)) ∙ is
        ]

    -- what is set aside was so
    pub reclaimed_aside : (i : ℕ) → aside_at (reclaimed slots slot) i ≡ true → aside_at slots i ≡ true
    reclaimed_aside i is =
        elim (cases_eq i slot) [
          | inl e ↦ absurd (true≢false (sym is ∙ ap is_aside (gone_at i e)))
          | inr differs ↦ ap is_aside (sym (others i differs)) ∙ is
        ]

    pub aside_reclaimed : (aside : Aside) (collected : Bytes → Bool) (locks : Locks) → AsideIn aside slots collected locks → AsideIn aside (reclaimed slots slot) collected locks
    aside_reclaimed aside collected locks why i k is e = why i k (reclaimed_key i k is) (reclaimed_aside i e)

    module _ (once : HasKeysOnce slots) where
      -- the key has no version, and each other key has its own
      pub reclaimed_versions : (q : Bytes) → versions_in (reclaimed slots slot) q ≡ without (Some key) q (versions_in slots q)
      unfolding versions_in
      reclaimed_versions q =
          ap (option_map key_versions) (version_of-reclaimed slots slot dead.kept q once dead.there dead.dead)
          ∙ shown_without (same q dead.kept.key) (stored.version_of slots q)
          ∙ ap (λ (k : Bytes). cond (same q k) None (option_map key_versions (stored.version_of slots q))) dead.key_is

      -- its slot is vacant, and each other slot has its key
      pub reclaimed_keys : (i : ℕ) → key_at (reclaimed slots slot) i ≡ left_of (Some key) (key_at slots i)
      reclaimed_keys i =
          elim (cases_eq i slot) [
            | inl e ↦ ap (option_map (λ (r : StoreRecord). r.key)) (gone_at i e) ∙ sym (left_same key (key_at slots i) (ap (key_at slots) e ∙ dead_key slots slot key dead))
            | inr differs ↦
                ap (option_map (λ (r : StoreRecord). r.key)) (others i differs)
                ∙ sym (left_other key (key_at slots i) (λ f. differs (once.once i slot key f (dead_key slots slot key dead))))
          ]

left_none : (o : Option Bytes) → left_of None o ≡ o
left_none None = refl
left_none (Some k) = refl

-- At rest nothing is frozen, so that what is set aside was collected.
module _ {A : Type 0} (c : Inside A) (ok : IsCore c) (phase : c.phase ≡ Rest) where
  pub reasons_here : AsideIn c.aside c.store (has c.changed.collecting) c.locks
  reasons_here =
      aside_kept c.aside c.store c.store (either c.changed) (has c.changed.collecting) c.locks c.locks (slots_same c.store c.store refl)
      (λ q is. by (has c.changed.collecting q) (has c.changed.frozen q) (no_frozen c ok phase q) is) (λ q is. is) ok.aside
    where
      by : (col fro : Bool) → fro ≡ false → (col || fro) ≡ true → col ≡ true
      by true fro e is = refl
      by false fro e is = sym e ∙ is

-- A core at rest with another store.
module _ {A : Type 0} (c : Inside A) (ok : IsCore c) (phase : c.phase ≡ Rest) (store : Slots) (aside : Aside) where
  abbrev with_store : Inside A
  with_store = record c { store = store; aside = aside }

  abbrev w : State
  w = ok.world

  -- no scan goes by the slots
  unscanned : ScansIn w.phase c.checkpoint (spots c.checkpoint.kind store c.changed.frozen) w.visited w.bound w.given
  unscanned = subst (λ p. ScansIn p c.checkpoint (spots c.checkpoint.kind store c.changed.frozen) w.visited w.bound w.given) (sym (ok.stands.phase ∙ phase)) tt

  -- what is set aside was collected, and nothing is frozen
  asides : AsideIn aside store (has c.changed.collecting) c.locks → AsideIn aside store (either c.changed) c.locks
  asides reasons =
      aside_kept aside store store (has c.changed.collecting) (either c.changed) c.locks c.locks (slots_same store store refl) (λ q is. ap (λ b. b || has c.changed.frozen q) is) (λ q is. is) reasons

  -- the core, by the machine's state
  core_as :
      (vs : VersionsByKey) → Runs (initial c.catalog (table_of c.opening)) (record w { versions = vs }) → ((q : Bytes) → vs q ≡ versions_in store q) →
      AsideIn aside store (has c.changed.collecting) c.locks → IsCore with_store
  core_as vs run versions reasons =
      stored_core c ok store aside c.checkpoint vs w.given w.visited refl refl refl refl run versions unscanned ok.stands.checkpoint.waits ok.stands.checkpoint.heads ok.stands.checkpoint.none_yet (asides reasons)

  -- the same versions
  pub same_core : ((q : Bytes) → versions_in store q ≡ versions_in c.store q) → AsideIn aside store (has c.changed.collecting) c.locks → IsCore with_store
  same_core same reasons = core_as w.versions ok.run (λ q. ok.stands.versions q ∙ sym (same q)) reasons

  pub same_view :
      (v : CoreView) → view_of c ≡ v → length store ≡ length c.store → ((i : ℕ) → key_at store i ≡ key_at c.store i) → ((q : Bytes) → versions_in store q ≡ versions_in c.store q) →
      Reclaims v (view_of with_store) None
  same_view v same slots keys versions = subst (λ (u : CoreView). Reclaims u (view_of with_store) None) same (record {
    rest = refl;
    slots = slots;
    keys = λ i. keys i ∙ sym (left_none (key_at c.store i));
    versions = versions;
  })

  -- all but those of a key that may go
  module _ (key : Bytes) where
    pub reclaim_core :
        (v : KeyVersions) → MayReclaim ok.world key v → ((q : Bytes) → versions_in store q ≡ without (Some key) q (versions_in c.store q)) → AsideIn aside store (has c.changed.collecting) c.locks →
        IsCore with_store
    reclaim_core v may versions reasons =
        core_as (reclaim w key).versions (more ok.run (machine.Reclaims key v may)) (λ q. ap (cond (same q key) None) (ok.stands.versions q) ∙ sym (versions q)) reasons

    pub reclaim_view :
        (v : CoreView) → view_of c ≡ v → length store ≡ length c.store → ((i : ℕ) → key_at store i ≡ left_of (Some key) (key_at c.store i)) →
        ((q : Bytes) → versions_in store q ≡ without (Some key) q (versions_in c.store q)) → Reclaims v (view_of with_store) (Some key)
    reclaim_view v same slots keys versions = subst (λ (u : CoreView). Reclaims u (view_of with_store) (Some key)) same (record { rest = refl; slots = slots; keys = keys; versions = versions })

-- nothing is gone
pub nothing_gone : (v : CoreView) → Reclaims v v None
nothing_gone v = record { rest = refl; slots = refl; keys = λ i. sym (left_none (key_at v.slots i)); versions = λ q. refl }

-- A core at rest, where it is known why records are set aside.
module _ {A : Type 0} (c : Inside A) (ok : IsCore c) (phase : c.phase ≡ Rest) (store : Slots) (aside : Aside) where
  -- only who is set aside may differ
  pub record IsLearnt : Type 0 where
    pub known : IsKnown aside
    pub reasons : AsideIn aside store (has c.changed.collecting) c.locks
    pub once : HasKeysOnce store
    pub records : SameRecords c.store store

  -- by two changes, one after the other
  pub learnt_by : (mid : Slots) → IsKnown aside → AsideIn aside store (has c.changed.collecting) c.locks → HasKeysOnce store → SameRecords mid store → SameRecords c.store mid → IsLearnt
  learnt_by mid known reasons once later first = record { known = known; reasons = reasons; once = once; records = same_then first later }

  module _ (is : IsLearnt) (v : CoreView) (same : view_of c ≡ v) where
    stays : AsideIn CollectedOrLocked store (has c.changed.collecting) c.locks
    stays = either_reason aside store (has c.changed.collecting) c.locks is.known is.reasons

    pub none_core : IsCore (with_store c ok phase store aside)
    none_core = same_core c ok phase store aside is.records.versions is.reasons

    pub none_key : IsLeastCandidate store None → IsReclaimable v None
    none_key least = subst (λ (u : CoreView). IsReclaimable u None) same (none_is c ok phase store is.records.versions stays least)

    -- the candidate goes
    module _ (slot : ℕ) (key : Bytes) (least : IsLeastCandidate store (Some slot)) (key_is : key_at store slot ≡ Some key) (uncollected : has c.changed.collecting key ≡ false)
        (free : IsFree c.locks key) (left : Slots) (left_is : left ≡ reclaimed store slot) where
      offered : candidate_at store slot ≡ Some key
      offered = least_offered store slot key least key_is

      dead : IsDead store slot key
      dead = candidate_dead store slot key offered

      versions_left : (q : Bytes) → versions_in left q ≡ without (Some key) q (versions_in c.store q)
      versions_left q = ap (λ (l : Slots). versions_in l q) left_is ∙ reclaimed_versions store slot key dead is.once q ∙ ap (without (Some key) q) (is.records.versions q)

      pub some_core : IsCore (with_store c ok phase left aside)
      some_core =
          let may = candidate_reclaims c ok phase store is.records.versions is.once slot key offered uncollected free in
          reclaim_core c ok phase left aside key may.0 may.1 versions_left
          (subst (λ (l : Slots). AsideIn aside l (has c.changed.collecting) c.locks) (sym left_is) (aside_reclaimed store slot key dead aside (has c.changed.collecting) c.locks is.reasons))

      pub some_key : IsReclaimable v (Some key)
      some_key = subst (λ (u : CoreView). IsReclaimable u (Some key)) same (least_is c ok phase store is.records.versions stays is.once slot key least key_is uncollected free)

      pub some_view : Reclaims v (view_of (with_store c ok phase left aside)) (Some key)
      some_view =
          reclaim_view c ok phase left aside key v same (ap length left_is ∙ reclaimed_length store slot ∙ is.records.slots)
          (λ i. ap (λ (l : Slots). key_at l i) left_is ∙ reclaimed_keys store slot key dead is.once i ∙ ap (left_of (Some key)) (is.records.keys i))
          versions_left
