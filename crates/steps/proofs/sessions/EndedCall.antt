-- A core after a call's end: the session's call is gone, with its locks.
use Rattle.std.proofs.Common.{◌≡◌, ℕ, zero, suc, ◌<◌, arith, cond, List, [], ◌∷◌, Option, Some, None, IsSome, Vec, map, option_map, length, inl, inr, slice_set, slice_index_or, refl, sym, ap, ◌∙◌, subst, length-set, get_or-set_other}
use Rattle.std.proofs.lemmas.List.{map-set, get_or-set_same}
use Rattle.std.proofs.lemmas.Bool.{cases_eq, ne_eqb, eq-eqb}
use Rattle.procedure.specs.Bytes.{Bytes}
use Rattle.procedure.specs.Table.{change_at, value_at}
use Rattle.procedure.specs.Runs.{Front, front}
use Rattle.phase.specs.Phases.{Starts}
use Rattle.commitlog.specs.Histories.{code_of}
use Rattle.locktable.specs.Locks.{Locks, mode_of, without_locks}
use Rattle.locktable.proofs.Changing.{releases_one_session}
use Rattle.record_store.specs.Stores.{Slots}
use Rattle.steps.proofs.reclaim.SetAside.{aside_released}
use Rattle.steps.specs.inside.SetAside.{AsideIn, after_release}
use Rattle.steps.specs.inside.CoreFields.{IsCore, IsOpen, SameCall, call_at, mode_held, start_of, underway, view_of, either}
use Rattle.steps.specs.CoreViews.{CoreView, SameKeys, Underway, GivesUp, front_of, table_now, open_at, replaced}
use Rattle.steps.specs.machine.NewestFirst.{before}
use Rattle.steps.specs.inside.RecordEdits.{KeepsSlots, all_undone, first_noted, noted_of}
use Rattle.steps.specs.Versions.{versions_in, undo_of, undone_key}
use Rattle.steps.specs.machine.Machine.{Open, Gives_up, more, put, give_up, now}
use Rattle.steps.specs.declared.calls.OpenCall.{OpenCall}
use Rattle.steps.specs.declared.cores.Core.TheInside.{Inside}
use Rattle.steps.proofs.sessions.AcceptedCalls.{shown_at}
use Rattle.steps.proofs.store.SlotEdits.{tracked_on}
use Rattle.steps.proofs.views.CoreState.{good, now_is, some_open}
use Rattle.steps.specs.declared.reclaiming.Aside.{Aside}

within_list : {X : Type 0} (l : List (Option X)) (s : ℕ) (k : X) → slice_index_or l s None ≡ Some k → s < length l
within_list [] s k e = absurd (cc)
within_list (x ∷ l) zero k e = omega arith
within_list (x ∷ l) (suc s) k e = omega (arith, within_list l s k e)

module _ {A : Type 0} (c : Inside A) (ok : IsCore c) (s : ℕ) where
  -- a session with a call is one of the table's
  pub within : (k : OpenCall A) → call_at c s ≡ Some k → s < length c.calls.items
  within k e = within_list c.calls.items s k e

  -- the calls without the session's
  pub closed_calls :
      s < length c.calls.items → (calls : List (Option (OpenCall A))) → calls ≡ slice_set c.calls.items s None → (t : ℕ) → SameCall (slice_index_or calls t None) (put ok.world.calls s None t)
  closed_calls lt calls e t =
      elim (cases_eq t s) [
        | inl is ↦
            subst (λ (k : Option (OpenCall A)). SameCall k (put ok.world.calls s None t))
            (sym (ap (λ (l : List (Option (OpenCall A))). slice_index_or l t None) e ∙ ap (λ j. slice_index_or (slice_set c.calls.items s None) j None) is
            ∙ get_or-set_same c.calls.items s None None lt))
            (subst (λ (o : Option Open). SameCall {A = A} None o) (sym (ap (λ b. cond {A = Option Open} b None (ok.world.calls t)) (eq-eqb t s is))) tt)
        | inr differs ↦
            subst (λ (k : Option (OpenCall A)). SameCall k (put ok.world.calls s None t))
            (sym (ap (λ (l : List (Option (OpenCall A))). slice_index_or l t None) e ∙ get_or-set_other c.calls.items s t None None differs))
            (subst (λ (o : Option Open). SameCall (call_at c t) o) (sym (ap (λ b. cond {A = Option Open} b None (ok.world.calls t)) (ne_eqb t s differs))) (ok.stands.calls t))
      ]

  pub closed_locks : s < length c.locks → (locks : Locks) → locks ≡ without_locks c.locks s → (t : ℕ) (q : Bytes) → mode_of locks t q ≡ mode_held (put ok.world.calls s None t) q
  closed_locks lt locks e t q =
      let releases = releases_one_session c.locks s lt in
      ap (λ l. mode_of l t q) e
      ∙ elim (cases_eq t s) [
        | inl is ↦ ap (λ u. mode_of (without_locks c.locks s) u q) is ∙ releases.0 q ∙ sym (ap (λ b. mode_held (cond {A = Option Open} b None (ok.world.calls t)) q) (eq-eqb t s is))
        | inr differs ↦ releases.1 t q differs ∙ ok.stands.locks t q ∙ sym (ap (λ b. mode_held (cond {A = Option Open} b None (ok.world.calls t)) q) (ne_eqb t s differs))
      ]

  pub closed_starts : (calls : List (Option (OpenCall A))) (active : Starts) → calls ≡ slice_set c.calls.items s None → active ≡ slice_set c.active s None → active ≡ map start_of calls
  closed_starts calls active e f = f ∙ ap (λ l. slice_set l s None) ok.starts ∙ sym (map-set start_of c.calls.items s None) ∙ ap (map start_of) (sym e)

  -- the core after a call was given up
  abbrev pub gave_up : Vec (Option (OpenCall A)) A → Slots → Locks → Starts → Aside → Inside A
  gave_up calls store locks active aside = record c { calls = calls; store = store; locks = locks; active = active; aside = aside }

  module _ (call : OpenCall A) (is : call_at c s ≡ Some call) (calls : Vec (Option (OpenCall A)) A) (store : Slots) (locks : Locks) (active : Starts) (aside : Aside) where
    abbrev opened : (o : Open) × (ok.world.calls s ≡ Some o) × IsOpen call o
    opened = some_open c ok s call is

    pub give_up_core :
        calls.items ≡ slice_set c.calls.items s None → ((q : Bytes) → versions_in store q ≡ all_undone (map noted_of call.notes.items) (versions_in c.store) q) → KeepsSlots c.store store →
        locks ≡ without_locks c.locks s → active ≡ slice_set c.active s None → aside ≡ after_release c.aside → IsCore (gave_up calls store locks active aside)
    give_up_core e versions keys f h k = record {
      world = give_up ok.world s opened.0;
      run = more ok.run (Gives_up s opened.0 opened.1);
      stands = record {
        catalog = ok.stands.catalog;
        opening = ok.stands.opening;
        log = ok.stands.log;
        calls = closed_calls (within call is) calls.items e;
        versions = λ q. ap (λ u. undone_key u (ok.world.versions q)) (opened.2.notes q) ∙ ap (undone_key (first_noted (map noted_of call.notes.items) q)) (ok.stands.versions q) ∙ sym (versions q);
        collecting = ok.stands.collecting;
        frozen = ok.stands.frozen;
        locks = closed_locks (subst (λ n. s < n) (ok.sessions ∙ sym ok.tables) (within call is)) locks f;
        phase = ok.stands.phase;
        checkpoint =
            tracked_on c.checkpoint c.store store c.changed.frozen c.changed.frozen ok.world.phase ok.world.number ok.world.finished ok.world.kind (length (before ok.world.number ok.world.log))
            (length (before ok.world.number ok.world.log)) ok.world.visited ok.world.bound ok.world.given ok.world.images
            keys refl refl ok.stands.checkpoint;
      };
      lawful = ok.lawful;
      opens = ok.opens;
      small = ok.small;
      sessions = ap length e ∙ length-set c.calls.items s None ∙ ok.sessions;
      tables = ap length f ∙ length-set c.locks s _ ∙ ok.tables;
      starts = closed_starts calls.items active e h;
      numbers = ok.numbers;
      last = ok.last;
      aside = subst (λ a. AsideIn a store (either c.changed) locks) (sym k) (aside_released c.aside c.store store (either c.changed) (either c.changed) c.locks locks keys (λ q is. is) ok.aside);
    }

    -- the machine of the session's call, as its run alone
    pub machine_is : opened.0.machine ≡ front_of (view_of c) (underway call)
    machine_is =
        let o = opened.0 in
        let is = opened.2 in
        ((good c ok).machines s o opened.1).machine
        ∙ ap (λ k. front (code_of k o.procedure) o.args (now ok.world) o.count) ok.stands.catalog
        ∙ ap (λ p. front (code_of c.catalog p) o.args (now ok.world) o.count) is.procedure
        ∙ ap (λ l. front (code_of c.catalog call.procedure) l (now ok.world) o.count) is.args
        ∙ ap (λ t. front (code_of c.catalog call.procedure) call.machine.args t o.count) (now_is c ok)
        ∙ ap (front (code_of c.catalog call.procedure) call.machine.args (table_now (view_of c))) is.count

    -- what its notes say
    pub notes_are : (q : Bytes) → first_noted (map noted_of call.notes.items) q ≡ replaced (view_of c) (underway call) q
    notes_are q =
        sym (opened.2.notes q) ∙ ((good c ok).machines s opened.0 opened.1).undo q
        ∙ ap (λ (m : Front). undo_of (change_at m.changes q) (value_at (now ok.world) q)) machine_is
        ∙ ap (λ t. undo_of (change_at (front_of (view_of c) (underway call)).changes q) (value_at t q)) (now_is c ok)

    pub is_under : (u : Underway) → open_at (view_of c) s ≡ Some u → underway call ≡ u
    is_under u e = let there : Some (underway call) ≡ Some u = sym (shown_at c s ∙ ap (option_map underway) is) ∙ e in cc

    pub give_up_view :
        (v : CoreView) → view_of c ≡ v → calls.items ≡ slice_set c.calls.items s None → ((q : Bytes) → versions_in store q ≡ all_undone (map noted_of call.notes.items) (versions_in c.store) q) →
        length store ≡ length c.store → SameKeys c.store store → GivesUp v (view_of (gave_up calls store locks active aside)) s
    give_up_view v same e versions slots keys =
        subst (λ (w : CoreView). GivesUp w (view_of (gave_up calls store locks active aside)) s) same
        (record {
          same = record { catalog = refl; opening = refl; checkpoint = refl; calls = ap (map (option_map underway)) e ∙ map-set (option_map underway) c.calls.items s None };
          log = refl;
          slots = slots;
          keys = keys;
          versions = λ u there q. versions q ∙ ap (λ x. undone_key x (versions_in c.store q)) (notes_are q ∙ ap (λ w. replaced (view_of c) w q) (is_under u there));
        })

  -- a call is open exactly where one is kept
  pub is_open : (call : OpenCall A) (v : CoreView) → view_of c ≡ v → call_at c s ≡ Some call → IsSome (open_at v s)
  is_open call v same e = subst (λ (w : CoreView). IsSome (open_at w s)) same (subst (λ o. IsSome o) (sym (shown_at c s ∙ ap (option_map underway) e)) refl)

  pub not_open : (v : CoreView) → view_of c ≡ v → call_at c s ≡ None → open_at v s ≡ None
  not_open v same e = ap (λ (w : CoreView). open_at w s) (sym same) ∙ shown_at c s ∙ ap (option_map underway) e
