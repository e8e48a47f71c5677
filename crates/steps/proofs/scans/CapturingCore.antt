-- A core whose scan begins, and goes on by one place.
use Rattle.std.proofs.Common.{List, ◌≡◌, ◌≢◌, ℕ, suc, ◌+◌, ◌<◌, ◌⊎◌, inl, inr, arith, Bool, true, false, replicate, length-append, cond, ◌||◌, [], ◌∷◌, ◌++◌, length, Option, Some, None, is_some, option_map, append-nil, Vec, refl, sym, ap, ◌∙◌, subst}
use Rattle.std.specs.Prelude.{IsSome}
use Rattle.std.proofs.lemmas.Bool.{cases_lt}
use Rattle.procedure.specs.Bytes.{Bytes, Cell, same}
use Rattle.procedure.specs.Runs.{with_key}
use Rattle.procedure.specs.Table.{Changes, change_at, no_changes, value_at}
use Rattle.procedure.proofs.Base.{keys, same_refl}
use Rattle.phase.specs.declared.phases.Phase.TheVariants.{Resolve, Capture}
use Rattle.commitlog.specs.Logs.{Log}
use Rattle.commitlog.specs.Records.{Token}
use Rattle.image.specs.Headers.{EachKeyOnce as Once, chain_digest, linked, linked_all, map_of}
use Rattle.image.specs.Merges.{is_full, table_of}
use Rattle.image.specs.declared.images.Kind.{Kind}
use Rattle.image.specs.declared.images.Kind.TheVariants.{Full, Partial}
use Rattle.record_store.specs.ChangedSets.{has}
use Rattle.record_store.specs.Stores.{HasKeysOnce, Slots}
use Rattle.steps.proofs.reclaim.SetAside.{aside_kept}
use Rattle.steps.specs.inside.Spots.{VisitsKey}
use Rattle.steps.specs.machine.NewestFirst.{at, before}
use Rattle.steps.specs.Checkpointing.{AdvancesTo, CapturesAs, EndsAt, VisitsNext, entered, visited}
use Rattle.steps.specs.inside.CoreFields.{IsCore, view_of, either}
use Rattle.steps.specs.CoreViews.{CoreView}
use Rattle.steps.specs.inside.RecordEdits.{KeepsSlots}
use Rattle.steps.specs.Versions.{given_at, given_of, kept_of, versions_in, KeyVersions, VersionsByKey, gives}
use Rattle.steps.specs.machine.Invariant.{ScanKeeps, ScanKeepsIn}
use Rattle.steps.specs.Refusals.{is_cutting, is_held}
use Rattle.steps.specs.inside.CheckpointFields.{IsScan, ScansIn, is_unfinished, places, spots}
use Rattle.steps.specs.inside.Sends.{IsRefused, IsSent}
use Rattle.steps.specs.Streaming.{GivesNext, IsRefusedBy}
use Rattle.steps.specs.declared.errors.CaptureToError.{CaptureToError}
use Rattle.steps.specs.machine.Machine.{Captures, MayVisit, Runs, Visits, capture, initial, keeps, more, to_visit, visit}
use Rattle.steps.specs.declared.captures.Captured.TheVariants.{Slot}
use Rattle.steps.specs.declared.checkpoints.Checkpoint.{Checkpoint}
use Rattle.steps.specs.declared.checkpoints.Tally.{Tally}
use Rattle.steps.specs.declared.checkpoints.Way.TheVariants.{Streamed, Whole}
use Rattle.steps.specs.declared.given.Given.{Given}
use Rattle.pipe.specs.declared.taps.Tap.{Tap}
use Rattle.steps.specs.declared.cores.Core.TheInside.{Inside}
use Rattle.steps.proofs.phases.AddedToken.{token_core}
use Rattle.steps.proofs.phases.FrozenKeys.{frozen_is}
use Rattle.steps.proofs.phases.PhaseEnds.{all_started}
use Rattle.steps.proofs.phases.ResolveAndRest.{before_capture, entered_log, number_here}
use Rattle.steps.proofs.machine.OpenCalls.{same_Some}
use Rattle.steps.proofs.scans.ScanPlaces.{frozen_at, given_more, once_more, one_spot, or_right, recorded_at, scan_begun, scan_on, some_key, the_version, visited_as, wanted_at}
use Rattle.steps.proofs.store.SlotEdits.{scan_kept, spots_kept}
use Rattle.steps.proofs.views.CoreState.{good, stored_core}

linked-append : (d : Bytes) (es fs : List (Bytes × Cell)) → linked_all d (es ++ fs) ≡ linked_all (linked_all d es) fs
linked-append d [] fs = refl
linked-append d (e ∷ es) fs = linked-append (linked d e) es fs

nothing_given : no_changes ≡ map_of []
unfolding no_changes
nothing_given = refl

module _ {A : Type 0} (c : Inside A) (ok : IsCore c) where
  module _ (phase_is : c.phase ≡ Capture) where
    pub phase_here : ok.world.phase ≡ Capture
    phase_here = ok.stands.phase ∙ phase_is

    -- the scan of a core in capture
    pub scan_here : IsScan c.checkpoint (spots c.checkpoint.kind c.store c.changed.frozen) ok.world.visited ok.world.bound ok.world.given
    scan_here = subst (λ p. ScansIn p c.checkpoint (spots c.checkpoint.kind c.store c.changed.frozen) ok.world.visited ok.world.bound ok.world.given) phase_here ok.stands.checkpoint.scan

    pub scan_good : ScanKeeps ok.world.kind (at ok.world.catalog ok.world.opening ok.world.number ok.world.log) ok.world.visited ok.world.bound ok.world.frozen ok.world.given
    scan_good =
        subst (λ p. ScanKeepsIn p ok.world.kind (at ok.world.catalog ok.world.opening ok.world.number ok.world.log) ok.world.visited ok.world.bound ok.world.frozen ok.world.given) phase_here
        (good c ok).scan

  -- a frozen key has a record
  pub recorded : (q : Bytes) → has c.changed.frozen q ≡ true → is_some (versions_in c.store q) ≡ true
  recorded q e = ap is_some (sym (ok.stands.versions q)) ∙ (good c ok).recorded q (or_right (ok.world.collecting q) (ok.world.frozen q) (ok.stands.frozen q ∙ e))

  -- A SCAN BEGINS

  module _ (log : Log) (bound : ℕ) (empty : Vec (Bytes × Cell) A) (none : Given (Bytes × Cell)) (tally : Tally) (phase_is : c.phase ≡ Resolve) (free : is_held Resolve (view_of c).calls ≡ false)
      (log_is : log.records ≡ c.log.records ++ Token Capture c.checkpoint.number ∷ []) (bound_is : bound ≡ places c.checkpoint.kind c.store c.changed.frozen) (empty_is : empty.items ≡ []) (none_is : none.entries ≡ [])
      (count_is : tally.count ≡ 0) (chain_is : tally.chain ≡ chain_digest []) where
    abbrev begun : Checkpoint A
    begun = record c.checkpoint { scan = c.checkpoint.kind; cursor = 0; bound = bound; captured = empty; given = none; tally = tally }

    abbrev after_begin : Inside A
    after_begin = record c { log = log; phase = Capture; checkpoint = begun }

    none_yet : c.checkpoint.header ≡ None
    none_yet = ok.stands.checkpoint.none_yet (ap is_unfinished (ok.stands.phase ∙ phase_is))

    begun_scan : IsScan begun (spots c.checkpoint.kind c.store c.changed.frozen) (λ q. false)
        (to_visit (is_full c.checkpoint.kind) ok.world.versions ok.world.frozen) no_changes
    begun_scan =
        scan_begun begun (spots c.checkpoint.kind c.store c.changed.frozen)
        (to_visit (is_full c.checkpoint.kind) ok.world.versions ok.world.frozen) no_changes none_is empty_is count_is chain_is refl nothing_given
        (λ q is.
        let (i, below, at) = wanted_at c.checkpoint.kind c.store c.changed.frozen ok.world.versions ok.world.frozen ok.stands.versions ok.stands.frozen q is in
        (i, subst (λ n. i < n) (sym bound_is) below, at))

    pub begin_core : IsCore after_begin
    begin_core =
        token_core c ok Capture ok.world.number log.records (number_here c ok log Capture log_is) log refl c.store c.changed
        begun c.aside (capture ok.world (is_full c.checkpoint.kind)) (refl, refl, refl, refl, refl)
        (more ok.run (Captures (is_full c.checkpoint.kind) (ok.stands.phase ∙ phase_is) (all_started c ok Resolve free) (ap is_full (sym ok.stands.checkpoint.kind))))
        ok.stands.versions ok.stands.collecting ok.stands.frozen
        record {
          number = ok.stands.checkpoint.number;
          finished = ok.stands.checkpoint.finished;
          kind = ok.stands.checkpoint.kind;
          place = λ cutting. ap length (before_capture ok.world.number ok.world.number ok.world.log) ∙ ok.stands.checkpoint.place (ap is_cutting (ok.stands.phase ∙ phase_is));
          scan = begun_scan;
          waits = ok.stands.checkpoint.waits;
          heads = λ h is. absurd (let no_header : None ≡ Some h = sym none_yet ∙ is in cc);
          none_yet = λ unfinished. none_yet;
        }
        (ok.aside)

    ends_at : (kind : Kind) → bound ≡ places kind c.store c.changed.frozen → EndsAt kind (view_of c) bound
    ends_at Full e = e
    ends_at Partial e = (c.changed.frozen, frozen_is c ok (ap is_cutting phase_is), e)

    pub begin_view : (v : CoreView) → view_of c ≡ v → AdvancesTo Capture v (view_of after_begin)
    begin_view v same =
        subst (λ (u : CoreView). AdvancesTo Capture u (view_of after_begin)) same (
          bound,
          ends_at c.checkpoint.kind bound_is,
          ap (λ l. record (view_of after_begin) { log = l }) (entered_log c ok log Capture log_is)
              ∙ ap (λ l. record (entered (view_of c) Capture) { checkpoint = record (view_of c).checkpoint { scan = c.checkpoint.kind; cursor = 0; bound = bound; given = l } }) none_is,
        )

module _ {A : Type 0} (c : Inside A) (ok : IsCore c) (phase_is : c.phase ≡ Capture) (key : Option Bytes) where
  visits_next : (kind : Kind) → key ≡ spots kind c.store c.changed.frozen c.checkpoint.cursor → VisitsNext kind (view_of c) key
  visits_next Full e = e
  visits_next Partial e = (c.changed.frozen, frozen_is c ok (ap is_cutting phase_is), e)

  -- why a visit into a ring is refused
  pub refused_to :
      key ≡ spots c.checkpoint.kind c.store c.changed.frozen c.checkpoint.cursor → (tap : Tap A) (e : CaptureToError) → IsRefused c.checkpoint.kind (given_of (versions_in c.store) key) tap e →
      (v : CoreView) → view_of c ≡ v → IsRefusedBy v tap e
  refused_to here tap e (inl memory) v same = inl memory
  refused_to here tap e (inr (full, gives, room)) v same =
      inr (full, subst GivesNext same (record { key = key; next = visits_next c.checkpoint.kind here; gives = gives }), room)

module _ {A : Type 0} (c : Inside A) (ok : IsCore c) (store : Slots) (kept : Vec (Bytes × Cell) A) (given : Given (Bytes × Cell)) (tally : Tally) (key : Option Bytes) where
  abbrev spot : ℕ → Option Bytes
  spot = spots c.checkpoint.kind c.store c.changed.frozen

  abbrev one_on : Checkpoint A
  one_on = record c.checkpoint { captured = kept; given = given; tally = tally; cursor = c.checkpoint.cursor + 1 }

  abbrev after_capture : Inside A
  after_capture = record c { store = store; checkpoint = one_on }

  -- what the place gives
  abbrev new_entries : List (Bytes × Cell)
  new_entries = kept_of c.checkpoint.kind (given_of (versions_in c.store) key)

  -- one place of a scan
  pub record IsVisit : Type 0 where
    pub phase : c.phase ≡ Capture
    pub left : c.checkpoint.cursor ≢ c.checkpoint.bound
    pub key_is : key ≡ spot c.checkpoint.cursor
    pub once : IsSome key → HasKeysOnce c.store
    pub visits : VisitsKey c.store store key
    pub given_is : given.entries ≡ c.checkpoint.given.entries ++ new_entries
    pub captured : c.checkpoint.way ≡ Whole → kept.items ≡ given.entries
    pub count : c.checkpoint.way ≡ Streamed → tally.count ≡ length given.entries
    pub chain : c.checkpoint.way ≡ Streamed → tally.chain ≡ chain_digest given.entries

  -- in a list that had been given room
  pub visit_by :
      (roomy : List (Bytes × Cell)) (held : Option (Bytes × Cell)) → c.checkpoint.way ≡ Whole → c.phase ≡ Capture → c.checkpoint.cursor ≢ c.checkpoint.bound → key ≡ spot c.checkpoint.cursor →
      (IsSome key → HasKeysOnce c.store) → VisitsKey c.store store key →
      kept.items ≡ roomy ++ kept_of c.checkpoint.kind held → given.entries ≡ c.checkpoint.given.entries ++ kept_of c.checkpoint.kind held → roomy ≡ c.checkpoint.captured.items →
      held ≡ given_of (versions_in c.store) key → IsVisit
  visit_by roomy held whole phase left key_is once visits kept_is given_is same_items held_is = record {
    phase = phase;
    left = left;
    key_is = key_is;
    once = once;
    visits = visits;
    given_is = given_is ∙ ap (λ o. c.checkpoint.given.entries ++ kept_of c.checkpoint.kind o) held_is;
    captured = λ way.
        kept_is ∙ ap (λ l. l ++ kept_of c.checkpoint.kind held) (same_items ∙ (scan_here c ok phase).captured whole) ∙ sym given_is;
    count = λ way. absurd (let one : Whole ≡ Streamed = sym whole ∙ way in cc);
    chain = λ way. absurd (let one : Whole ≡ Streamed = sym whole ∙ way in cc);
  }

  -- into a ring
  pub visit_to :
      {tap after : Tap A} → c.checkpoint.way ≡ Streamed → c.phase ≡ Capture → c.checkpoint.cursor ≢ c.checkpoint.bound → key ≡ spot c.checkpoint.cursor →
      (IsSome key → HasKeysOnce c.store) → VisitsKey c.store store key → IsSent new_entries tap after c.checkpoint.given given c.checkpoint.tally tally → IsVisit
  visit_to streamed phase left key_is once visits sent = record {
    phase = phase;
    left = left;
    key_is = key_is;
    once = once;
    visits = visits;
    given_is = sent.gave;
    captured = λ way. absurd (let one : Streamed ≡ Whole = sym streamed ∙ way in cc);
    count = λ way.
        let more = sent.count in
        let was = (scan_here c ok phase).count streamed in
        let all = ap length sent.gave ∙ length-append c.checkpoint.given.entries new_entries in
        omega (arith, more, was, all);
    chain = λ way.
        sent.chain ∙ ap (λ d. linked_all d new_entries) ((scan_here c ok phase).chain streamed) ∙ sym (linked-append (replicate 32 0) c.checkpoint.given.entries new_entries)
        ∙ ap chain_digest (sym sent.gave);
  }

  module _ (is : IsVisit) where
    below : c.checkpoint.cursor < c.checkpoint.bound
    below = elim (cases_lt c.checkpoint.cursor c.checkpoint.bound) [
      | inl lt ↦ lt
      | inr ge ↦ let most = (scan_here c ok is.phase).within in let same : c.checkpoint.cursor ≡ c.checkpoint.bound = omega (arith, ge, most) in absurd (is.left same)
    ]

    keeps_slots : KeepsSlots c.store store
    keeps_slots = record { keys = λ slot q at. is.visits.keys slot ∙ at; aside = λ slot so. sym (is.visits.aside slot) ∙ so }

    none_waits : c.checkpoint.header ≡ None
    none_waits = ok.stands.checkpoint.none_yet (ap is_unfinished (phase_here c ok is.phase))

    -- the core, by the machine's state
    core_as :
        (vs : VersionsByKey) (all : Changes) (seen : Bytes → Bool) → Runs (initial c.catalog (table_of c.opening)) (record ok.world { versions = vs; given = all; visited = seen }) →
        ((q : Bytes) → vs q ≡ versions_in store q) → IsScan one_on spot seen ok.world.bound all → IsCore after_capture
    core_as vs all seen run versions scan =
        stored_core c ok store c.aside one_on vs all seen refl refl refl refl run versions
        (subst (λ p. ScansIn p one_on (spots c.checkpoint.kind store c.changed.frozen) seen ok.world.bound all)
        (sym (phase_here c ok is.phase))
        (scan_kept Capture one_on kept spot (spots c.checkpoint.kind store c.changed.frozen) seen ok.world.bound all refl
        (spots_kept c.checkpoint.kind c.store store c.changed.frozen keeps_slots) scan))
        ok.stands.checkpoint.waits
        (λ h here. absurd (let no_header : None ≡ Some h = sym none_waits ∙ here in cc)) (λ unfinished. none_waits) (aside_kept c.aside c.store store (either c.changed) (either c.changed) c.locks c.locks keeps_slots (λ q e. e) (λ q e. e) ok.aside)

    -- where no key stands, nothing is visited
    vacant_core : key ≡ None → IsCore after_capture
    vacant_core none =
        core_as ok.world.versions ok.world.given ok.world.visited ok.run
        (λ q. ok.stands.versions q ∙ sym (is.visits.versions q ∙ ap (λ o. visited o q (versions_in c.store q)) none))
        (scan_on c.checkpoint kept given tally spot ok.world.visited ok.world.visited ok.world.bound ok.world.given ok.world.given key (scan_here c ok is.phase) (sym is.key_is) below
        (λ q seen. inl seen) (λ q seen. seen) (λ q here. absurd (let no : None ≡ Some q = sym none ∙ here in cc))
        ((scan_here c ok is.phase).gave ∙ ap map_of (sym same_entries)) (subst Once (sym same_entries) (scan_here c ok is.phase).once) is.captured is.count is.chain)
      where
        same_entries : given.entries ≡ c.checkpoint.given.entries
        same_entries = is.given_is ∙ ap (λ o. c.checkpoint.given.entries ++ kept_of c.checkpoint.kind (given_of (versions_in c.store) o)) none ∙ append-nil c.checkpoint.given.entries

    module _ (k : Bytes) (here : key ≡ Some k) where
      at_cursor : spot c.checkpoint.cursor ≡ Some k
      at_cursor = sym is.key_is ∙ here

      found : (v : KeyVersions) × (versions_in c.store k ≡ Some v)
      found = the_version (versions_in c.store k) (recorded_at c.checkpoint.kind c.store c.changed.frozen c.checkpoint.cursor k (recorded c ok) at_cursor)

      abbrev v : KeyVersions
      v = found.0

      unvisited : ok.world.visited k ≡ false
      unvisited = by (ok.world.visited k) refl
        where
          by : (b : Bool) → ok.world.visited k ≡ b → b ≡ false
          by false e = refl
          by true e =
              let (i, before, there) = (scan_here c ok is.phase).visited k e in
              let same : i ≡ c.checkpoint.cursor = one_spot c.checkpoint.kind c.store c.changed.frozen i c.checkpoint.cursor k (is.once (some_key key k here)) there at_cursor in
              absurd (omega (arith, before, same))

      may : MayVisit ok.world k v
      may = record { phase = (phase_here c ok is.phase); is = ok.stands.versions k ∙ found.1; unvisited = unvisited }

      new_entry : change_at (map_of c.checkpoint.given.entries) k ≡ None
      new_entry =
          ap (λ (m : Changes). change_at m k) (sym (scan_here c ok is.phase).gave) ∙ (scan_good c ok is.phase).entries k
          ∙ ap (λ b. cond b (keeps ok.world.kind (ok.world.frozen k) (Some (value_at (at ok.world.catalog ok.world.opening ok.world.number ok.world.log) k))) None) unvisited

      entries_are : given.entries ≡ c.checkpoint.given.entries ++ kept_of c.checkpoint.kind (option_map (λ y. (k, y)) (gives v))
      entries_are =
          is.given_is
          ∙ ap (λ o. c.checkpoint.given.entries ++ kept_of c.checkpoint.kind (given_of (versions_in c.store) o)) here
          ∙ ap (λ o. c.checkpoint.given.entries ++ kept_of c.checkpoint.kind (given_at k o)) found.1

      frozen_here : ok.world.kind ≡ Partial → ok.world.frozen k ≡ true
      frozen_here e = ok.stands.frozen k ∙ frozen_at c.checkpoint.kind c.store c.changed.frozen c.checkpoint.cursor k at_cursor (sym ok.stands.checkpoint.kind ∙ e)

      visited_core : IsCore after_capture
      visited_core =
          core_as (visit ok.world k v).versions (visit ok.world k v).given (with_key k ok.world.visited) (more ok.run (Visits k v may))
          (λ q. visited_as (versions_in c.store) ok.world.versions k v q ok.stands.versions found.1 ∙ sym (is.visits.versions q ∙ ap (λ o. visited o q (versions_in c.store q)) here))
          (scan_on c.checkpoint kept given tally spot ok.world.visited (with_key k ok.world.visited) ok.world.bound ok.world.given (visit ok.world k v).given key (scan_here c ok is.phase) (sym is.key_is) below
          grown (λ q seen. or_right (same q k) (ok.world.visited q) seen) (λ q this. now q (same_Some (sym here ∙ this)))
          (given_more ok.world.kind k (ok.world.frozen k) (gives v) ok.world.given c.checkpoint.given.entries frozen_here (scan_here c ok is.phase).gave
          ∙ ap (λ kind. map_of (c.checkpoint.given.entries ++ kept_of kind (option_map (λ y. (k, y)) (gives v)))) ok.stands.checkpoint.kind
          ∙ ap map_of (sym entries_are))
          (subst Once (sym entries_are) (once_more c.checkpoint.kind k (gives v) c.checkpoint.given.entries new_entry (scan_here c ok is.phase).once)) is.captured is.count is.chain)
        where
          grown : (q : Bytes) → (same q k || ok.world.visited q) ≡ true → (ok.world.visited q ≡ true) ⊎ (key ≡ Some q)
          grown q e =
              elim (keys q k) [
                | inl p ↦ inr (here ∙ ap (λ (z : Bytes). Some z) (sym p))
                | inr f ↦ inl (sym (ap (λ b. b || ok.world.visited q) f) ∙ e)
              ]

          now : (q : Bytes) → k ≡ q → (same q k || ok.world.visited q) ≡ true
          now q e = ap (λ b. b || ok.world.visited q) (ap (λ z. same z k) (sym e) ∙ same_refl k)

    pub capture_core : IsCore after_capture
    capture_core = by key refl
      where
        by : (o : Option Bytes) → key ≡ o → IsCore after_capture
        by None e = vacant_core e
        by (Some k) e = visited_core k e

    pub capture_view : (u : CoreView) → view_of c ≡ u → CapturesAs Slot u (view_of after_capture)
    capture_view u same =
        subst (λ (u : CoreView). CapturesAs Slot u (view_of after_capture)) same
        record {
          key = key;
          next = visits_next c ok is.phase key c.checkpoint.kind is.key_is;
          below = below;
          rest =
              ap (λ n. record (view_of c) { slots = store; checkpoint = record (view_of c).checkpoint { cursor = n; given = given.entries } }) one
              ∙ ap (λ l. record (view_of c) { slots = store; checkpoint = record (view_of c).checkpoint { cursor = suc c.checkpoint.cursor; given = l } }) is.given_is;
          slots = is.visits.slots;
          keys = is.visits.keys;
          versions = is.visits.versions;
        }
      where
        one : c.checkpoint.cursor + 1 ≡ suc c.checkpoint.cursor
        one = omega arith

module _ {A : Type 0} where
  module _ (c : Inside A) (ok : IsCore c) (kept : Vec (Bytes × Cell) A) (same_items : kept.items ≡ c.checkpoint.captured.items) where
    abbrev with_room : Slots → Inside A
    with_room store = record c { store = store; checkpoint = record c.checkpoint { captured = kept } }

    -- more room for entries changes nothing that stands for the machine
    pub roomy_scan : (store : Slots) → store ≡ c.store → IsCore (with_room store)
    roomy_scan store e =
        subst (λ (s : Slots). IsCore (with_room s)) (sym e)
        (stored_core c ok c.store c.aside (record c.checkpoint { captured = kept }) ok.world.versions ok.world.given ok.world.visited refl refl refl refl ok.run ok.stands.versions
        (scan_kept ok.world.phase c.checkpoint kept _ _ ok.world.visited ok.world.bound ok.world.given same_items (λ i q is. is) ok.stands.checkpoint.scan)
        ok.stands.checkpoint.waits ok.stands.checkpoint.heads
        ok.stands.checkpoint.none_yet ok.aside)

-- before a scan the list of what it captures says nothing
module _ {A : Type 0} (c : Inside A) (ok : IsCore c) (kept : Vec (Bytes × Cell) A) where
  pub listed_core : c.phase ≡ Resolve → IsCore (record c { checkpoint = record c.checkpoint { captured = kept } })
  listed_core phase_is =
      stored_core c ok c.store c.aside (record c.checkpoint { captured = kept }) ok.world.versions ok.world.given ok.world.visited refl refl refl refl ok.run ok.stands.versions
      (subst
      (λ p. ScansIn p (record c.checkpoint { captured = kept }) (spots c.checkpoint.kind c.store c.changed.frozen) ok.world.visited ok.world.bound ok.world.given)
      (sym (ok.stands.phase ∙ phase_is)) tt)
      ok.stands.checkpoint.waits ok.stands.checkpoint.heads ok.stands.checkpoint.none_yet ok.aside

-- NOTHING IS SENT

module _ {A : Type 0} (c : Inside A) (ok : IsCore c) (store : Slots) (given : Given (Bytes × Cell)) (tally : Tally) (store_is : store ≡ c.store) (given_is : given ≡ c.checkpoint.given)
    (tally_is : tally ≡ c.checkpoint.tally) where
  abbrev unsent : Inside A
  unsent = record c { store = store; checkpoint = record c.checkpoint { given = given; tally = tally } }

  unchanged : unsent ≡ c
  unchanged =
      ap (λ (s : Slots). record c { store = s; checkpoint = record c.checkpoint { given = given; tally = tally } }) store_is
      ∙ ap (λ (g : Given (Bytes × Cell)). record c { checkpoint = record c.checkpoint { given = g; tally = tally } }) given_is
      ∙ ap (λ (t : Tally). record c { checkpoint = record c.checkpoint { tally = t } }) tally_is

  pub unsent_core : IsCore unsent
  unsent_core = subst IsCore (sym unchanged) ok
