-- Each step keeps all that holds: checkpoints.
use Rattle.std.proofs.Common.{◌≡◌, ℕ, suc, ◌+◌, ◌≤◌, Bool, true, false, cond, ◌||◌, ◌&&◌, not, ◌∷◌, Option, Some, None, refl, sym, ap, ◌∙◌, subst, ◌⊎◌, inl, inr, true≢false, arith, is_some, le_refl}
use Rattle.std.specs.Prelude.{◌==◌}
use Rattle.std.proofs.lemmas.Bool.{ne_eqb}
use Rattle.commitlog.specs.Cuts.{in_full}
use Rattle.commitlog.specs.Histories.{Follows}
use Rattle.commitlog.specs.Records.{Token}
use Rattle.image.specs.declared.images.Kind.{Kind}
use Rattle.image.specs.declared.images.Kind.TheVariants.{Full, Partial}
use Rattle.phase.specs.declared.phases.Phase.{Phase}
use Rattle.phase.specs.declared.phases.Phase.TheVariants.{Rest, Prepare, Resolve, Capture, Complete}
use Rattle.procedure.proofs.Base.{change_at-none, change_at-with, keys, same_refl}
use Rattle.procedure.specs.Bytes.{Bytes, Cell, same}
use Rattle.procedure.specs.Runs.{no_keys, with_key}
use Rattle.procedure.specs.Table.{Changes, value_at, change_at}
use Rattle.steps.proofs.machine.OpenCalls.{yes_no, none_some, same_Some}
use Rattle.steps.proofs.machine.HistoryGrowth.{finished_below, images_grow, resolved_there, has_cut, before-resolve, before-own, sets_prepare, sets_resolve, sets_capture, sets_complete, sets_rest, sets_abandon, pending}
use Rattle.steps.proofs.machine.RecordStatus.{resolve_not}
use Rattle.steps.proofs.machine.InstructionSteps.{unwritten}
use Rattle.steps.specs.machine.NewestFirst.{history_table, history_phase, history_number, before, history_resolves, since, at, history_last_finished, history_last_number, last_finished_at, IsCut}
use Rattle.steps.specs.machine.Invariant.{Invariant, Cuts, Lawful, Recorded, Sets, IsAlone, MayFinish, Finishing, IsApart, Unchanged, Held, Early, Lives, starts, Statuses, status, StatusAtCapture, ScanKeeps, ScanKeepsIn, passed}
use Rattle.steps.specs.Refusals.{is_cutting}
use Rattle.steps.specs.machine.Machine.{Open, CallsBySession, State, AllStarted, now, start, resolve, capture, visit, complete, rest, abandon, reclaim, image, base_at, to_visit, keeps, give, cleaned_versions, restarted_open, MayVisit, MayReclaim}
use Rattle.steps.specs.Versions.{KeyVersions, VersionsByKey, live_version, gives, gives_at, captured_at}
use Rattle.steps.proofs.machine.PhaseStatuses.{prepare_status, resolve_status, capture_status, fresh_scan, visit_status, complete_status, clean_status, rest_prepare, rest_early, capture_complete, restarted_all, restarted_is}

module _ (w : State) (good : Invariant w) where
  no_record : (q : Bytes) → w.versions q ≡ None → value_at (now w) q ≡ None
  no_record q e = sym (good.lives.table q un) ∙ ap live_version e
    where
      un : Unchanged w.calls q
      un u d h = at (change_at d.machine.changes q) refl
        where
          at : (o : Option Cell) → change_at d.machine.changes q ≡ o → o ≡ None
          at None f = refl
          at (Some x) f = let (v, i, l) = good.lives.own u d h q x f in none_some (sym e ∙ i)

  abbrev seen : Bytes → Bool
  seen = passed w.all w.visited w.bound

  starts_at : (p : Phase) → w.phase ≡ p → (u : ℕ) (d : Open) → w.calls u ≡ Some d → starts p d.start ≡ true
  starts_at p e u d h = subst (λ x. starts x d.start ≡ true) e (good.started u d h)

  statuses_at : (p : Phase) → w.phase ≡ p → Statuses p (now w) (at w.catalog w.opening w.number w.log) w.calls w.versions seen w.frozen
  statuses_at p e = subst (λ x. Statuses x (now w) (at w.catalog w.opening w.number w.log) w.calls w.versions seen w.frozen) e good.statuses

  sets_at : (p : Phase) → w.phase ≡ p → Sets (is_cutting p) w.catalog w.opening w.log w.number w.finished w.collecting w.frozen
  sets_at p e = subst (λ x. Sets (is_cutting x) w.catalog w.opening w.log w.number w.finished w.collecting w.frozen) e good.sets

  scan_at : w.phase ≡ Capture → ScanKeeps w.kind (at w.catalog w.opening w.number w.log) w.visited w.bound w.frozen w.given
  scan_at e = subst (λ x. ScanKeepsIn x w.kind (at w.catalog w.opening w.number w.log) w.visited w.bound w.frozen w.given) e good.scan

  next_token : (p q : Phase) (m : ℕ) → w.phase ≡ p → Follows p w.number q m → Follows (history_phase w.log) (history_number w.log) q m
  next_token p q m e f = subst (λ n. Follows (history_phase w.log) n q m) (sym good.lawful.number) (subst (λ x. Follows x w.number q m) (sym (good.lawful.phase ∙ e)) f)

  below : (p : Phase) → w.phase ≡ p → w.finished + pending p ≤ w.number
  below p e =
      subst (λ n. w.finished + pending p ≤ n) good.lawful.number
      (subst (λ f. f + pending p ≤ history_number w.log) good.lawful.finished
      (subst (λ x. history_last_finished w.log + pending x ≤ history_number w.log) (good.lawful.phase ∙ e) (finished_below w.log good.lawful.cyclic)))

  -- what the log says after one token more
  token_lawful : (p q : Phase) (m : ℕ) → w.phase ≡ p → Follows p w.number q m → Lawful w.catalog w.opening (Token q m ∷ w.log) q m (last_finished_at q m w.finished)
  unfolding history_table history_last_finished
  token_lawful p q m e follows = record {
    legal = good.lawful.legal;
    orderly = good.lawful.orderly;
    cyclic = (next_token p q m e follows, good.lawful.cyclic);
    phase = refl;
    number = refl;
    finished = ap (last_finished_at q m) good.lawful.finished;
  }

  -- the records and what a scan has given, changed between two tokens
  versions_good :
      (vs : VersionsByKey) (given : Changes) (visited : Bytes → Bool) → Lives (now w) w.calls vs →
      Statuses w.phase (now w) (at w.catalog w.opening w.number w.log) w.calls vs (passed w.all visited w.bound) w.frozen → Recorded vs w.collecting w.frozen →
      ScanKeepsIn w.phase w.kind (at w.catalog w.opening w.number w.log) visited w.bound w.frozen given → Invariant (record w { versions = vs; given = given; visited = visited })
  versions_good vs given visited lives statuses recorded scan = record {
    lawful = good.lawful;
    machines = good.machines;
    finishing = good.finishing;
    apart = good.apart;
    lives = lives;
    started = good.started;
    statuses = statuses;
    recorded = recorded;
    sets = good.sets;
    scan = scan;
    images = good.images;
  }

  same_finishing : (p : Phase) (n : ℕ) → Finishing w.catalog (Token p n ∷ w.log) w.calls
  unfolding history_last_number
  same_finishing p n s c e = record { procedure = (good.finishing s c e).procedure; number = (good.finishing s c e).number }

  pub start_good : (k : Kind) → w.phase ≡ Rest → Invariant (start w k)
  unfolding history_table before history_last_finished
  start_good k e =
      record {
        lawful = token_lawful Rest Prepare (suc w.number) e refl;
        machines = good.machines;
        finishing = same_finishing Prepare (suc w.number);
        apart = good.apart;
        lives = good.lives;
        started = λ u d h. rest_prepare d.start (starts_at Rest e u d h);
        statuses =
            λ q. prepare_status (value_at (now w) q) (value_at (at w.catalog w.opening w.number w.log) q) (value_at (at w.catalog w.opening (suc w.number) w.log) q) (seen q) (w.frozen q)
            (passed w.all w.visited w.bound q) (w.frozen q) (Unchanged w.calls q) (Held w.calls q) (Early w.calls q) (Unchanged w.calls q) (Held w.calls q) (Early w.calls q)
            (λ u d h p. absurd (rest_early d.start (starts_at Rest e u d h) p)) (w.versions q) (statuses_at Rest e q);
        recorded = good.recorded;
        sets = sets_prepare w.catalog w.opening w.log w.number (suc w.number) w.finished w.collecting w.frozen (sets_at Rest e);
        scan = tt;
        images = images_grow w.catalog w.opening w.log (Token Prepare (suc w.number)) w.finished w.finished (λ n l. refl) (le_refl _) w.images good.images;
      }

  swap_sets : (a b : Bool) → (false || a) ≡ true → (a || b) ≡ true
  swap_sets true b e = refl
  swap_sets false b e = absurd (true≢false (sym e))

  pub resolve_good : w.phase ≡ Prepare → AllStarted Prepare w.calls → Invariant (resolve w)
  unfolding history_table history_last_finished
  resolve_good e all =
      let cut : before w.number (Token Resolve w.number ∷ w.log) ≡ w.log = before-own w.log w.number in
      record {
        lawful = token_lawful Prepare Resolve w.number e refl;
        machines = good.machines;
        finishing = same_finishing Resolve w.number;
        apart = good.apart;
        lives = good.lives;
        started = λ u d h. ap (starts Resolve) (all u d h);
        statuses = subst (λ h. Statuses Resolve (now w) (history_table w.catalog w.opening h) w.calls w.versions seen w.collecting) (sym cut)
            (λ q. resolve_status (value_at (now w) q) (value_at (at w.catalog w.opening w.number w.log) q) (seen q) (w.frozen q) (seen q) (w.collecting q) _ _ _ (λ ee u d h. ee u d h (all u d h))
            (w.versions q) (no_record q) (statuses_at Prepare e q));
        recorded = λ q f. good.recorded q (swap_sets (w.collecting q) (w.frozen q) f);
        sets = sets_resolve w.catalog w.opening w.log w.number w.finished w.collecting w.frozen
            (ne_eqb w.number w.finished (λ x. let b : w.finished + 1 ≤ w.number = below Prepare e in absurd (omega arith))) good.lawful.finished (sets_at Prepare e);
        scan = tt;
        images = images_grow w.catalog w.opening w.log (Token Resolve w.number) w.finished w.finished
            (λ n l. let b : w.finished + 1 ≤ w.number = below Prepare e in before-resolve w.log n w.number (omega arith)) (le_refl _) w.images good.images;
      }

  not_bound : w.phase ≡ Resolve → (q : Bytes) (o : Option KeyVersions) → w.versions q ≡ o → is_some (w.versions q) ≡ false → value_at (at w.catalog w.opening w.number w.log) q ≡ None
  not_bound e q None i b =
      subst (λ o. status Resolve (value_at (now w) q) (value_at (at w.catalog w.opening w.number w.log) q) (seen q) (w.frozen q) (Unchanged w.calls q) (Held w.calls q) (Early w.calls q) o) i
      (statuses_at Resolve e q)
  not_bound e q (Some v) i b = yes_no (ap is_some i) b

  frozen_bound : (all : Bool) (q : Bytes) → w.frozen q ≡ true → to_visit all w.versions w.frozen q ≡ true
  frozen_bound true q f = good.recorded q (at (w.collecting q) (w.frozen q) f)
    where
      at : (a b : Bool) → b ≡ true → (a || b) ≡ true
      at true b e = refl
      at false b e = e
  frozen_bound false q f = f

  pub capture_good : (all : Bool) → w.phase ≡ Resolve → AllStarted Resolve w.calls → (w.kind ≡ Full → all ≡ true) → Invariant (capture w all)
  unfolding history_table before history_last_finished
  capture_good all e started kinds =
      record {
        lawful = token_lawful Resolve Capture w.number e refl;
        machines = good.machines;
        finishing = same_finishing Capture w.number;
        apart = good.apart;
        lives = good.lives;
        started = λ u d h. ap (starts Capture) (started u d h);
        statuses =
            λ q. capture_status (value_at (now w) q) (value_at (at w.catalog w.opening w.number w.log) q) (seen q) (w.frozen q) (passed all no_keys (to_visit all w.versions w.frozen) q) (w.frozen q)
            (Unchanged w.calls q) (Held w.calls q) (Early w.calls q)
            (λ x. resolve_not (sym (started x.0 x.1 x.2) ∙ x.3)) (w.versions q) (fresh_scan all w.versions w.frozen q) (statuses_at Resolve e q);
        recorded = good.recorded;
        sets = sets_capture w.catalog w.opening w.log w.number w.number w.finished w.collecting w.frozen (sets_at Resolve e);
        scan = record {
          entries = change_at-none;
          full = λ k q b. not_bound e q (w.versions q) refl (ap (λ x. to_visit x w.versions w.frozen q) (sym (kinds k)) ∙ b);
          covers = frozen_bound all;
        };
        images = images_grow w.catalog w.opening w.log (Token Capture w.number) w.finished w.finished (λ n l. refl) (le_refl _) w.images good.images;
      }

  -- what a visit gives
  module _ (k : Bytes) (v : KeyVersions) (may : MayVisit w k v) where
    abbrev here : Cell
    here = value_at (at w.catalog w.opening w.number w.log) k

    live_here : Unchanged w.calls k → v.live ≡ value_at (now w) k
    live_here un = ap live_version (sym may.is) ∙ good.lives.table k un

    unbound : seen k ≡ true → w.bound k ≡ false
    unbound s = at w.all (w.bound k) ((λ i. sym may.unvisited i || (w.all && not (w.bound k))) ∙ s)
      where
        at : (a b : Bool) → (a && not b) ≡ true → b ≡ false
        at true true f = sym f
        at true false f = refl
        at false b f = absurd (true≢false (sym f))

    unfrozen : w.bound k ≡ false → w.frozen k ≡ false
    unfrozen b = at (w.frozen k) refl
      where
        at : (f : Bool) → w.frozen k ≡ f → f ≡ false
        at true e = yes_no ((scan_at may.phase).covers k e) b
        at false e = refl

    nothing_kept : (kd : Kind) → w.kind ≡ kd → here ≡ None → w.frozen k ≡ false → keeps kd (w.frozen k) None ≡ keeps kd (w.frozen k) (Some here)
    nothing_kept Full e x f = ap in_full (sym x)
    nothing_kept Partial e x f = subst (λ b. keeps Partial b None ≡ keeps Partial b (Some here)) (sym f) refl

    past_kept : (kd : Kind) → w.kind ≡ kd → w.bound k ≡ false → keeps kd (w.frozen k) None ≡ keeps kd (w.frozen k) (Some here)
    past_kept Full e b = ap in_full (sym ((scan_at may.phase).full e k b))
    past_kept Partial e b = subst (λ x. keeps Partial x None ≡ keeps Partial x (Some here)) (sym (unfrozen b)) refl

    gives_here : (vis : Bool) → seen k ≡ vis → (l : Cell) (sb : Option Cell) (av : Bool) → (Unchanged w.calls k → l ≡ value_at (now w) k) →
        StatusAtCapture (value_at (now w) k) here vis (w.frozen k) (Unchanged w.calls k) av sb →
        keeps w.kind (w.frozen k) (gives_at av (record { live = l; stable = sb; available = av })) ≡ keeps w.kind (w.frozen k) (Some here)
    gives_here false s l (Some y) true li x = ap (λ c. keeps w.kind (w.frozen k) (Some c)) x
    gives_here false s l None true li x = nothing_kept w.kind refl x.0 x.1
    gives_here false s l None false li x = ap (λ c. keeps w.kind (w.frozen k) (Some c)) (li x.1 ∙ x.0)
    gives_here false s l (Some y) false li x = absurd x
    gives_here true s l None true li x = past_kept w.kind refl (unbound s)
    gives_here true s l (Some y) true li x = absurd x
    gives_here true s l sb false li x = absurd x

    status_here : StatusAtCapture (value_at (now w) k) here (seen k) (w.frozen k) (Unchanged w.calls k) v.available v.stable
    status_here =
        subst (λ o. status Capture (value_at (now w) k) here (seen k) (w.frozen k) (Unchanged w.calls k) (Held w.calls k) (Early w.calls k) o) may.is (statuses_at Capture may.phase k)

    given_here : keeps w.kind (w.frozen k) (gives v) ≡ keeps w.kind (w.frozen k) (Some here)
    given_here = gives_here (seen k) refl v.live v.stable v.available live_here status_here

    abbrev Entry : Bytes → Bool → Option Cell → Type 0
    Entry q b x = x ≡ cond (b || w.visited q) (keeps w.kind (w.frozen q) (Some (value_at (at w.catalog w.opening w.number w.log) q))) None

    old_entry : (q : Bytes) → change_at w.given q ≡ cond (w.visited q) (keeps w.kind (w.frozen q) (Some (value_at (at w.catalog w.opening w.number w.log) q))) None
    old_entry q = (scan_at may.phase).entries q

    no_entry : change_at w.given k ≡ None
    no_entry = old_entry k ∙ ap (λ b. cond b (keeps w.kind (w.frozen k) (Some here)) None) may.unvisited

    give_at : (q : Bytes) (x : Option Cell) → change_at w.given k ≡ None → change_at (give w.given k x) q ≡ cond (same q k) x (change_at w.given q)
    give_at q None e =
        elim (keys q k) [
          | inl p ↦ subst (λ z. change_at w.given z ≡ cond (same z k) None (change_at w.given z)) (sym p) (e ∙ ap (λ b. cond b None (change_at w.given k)) (sym (same_refl k)))
          | inr f ↦ ap (λ b. cond b None (change_at w.given q)) (sym f)
        ]
    give_at q (Some y) e = change_at-with w.given k y q

    entry_at :
        (q : Bytes) →
        change_at (give w.given k (keeps w.kind (w.frozen k) (gives v))) q ≡ cond (same q k || w.visited q) (keeps w.kind (w.frozen q) (Some (value_at (at w.catalog w.opening w.number w.log) q))) None
    entry_at q =
        give_at q (keeps w.kind (w.frozen k) (gives v)) no_entry
        ∙ elim (keys q k) [
          | inl p ↦
              subst (λ z. Entry z (same z k) (cond (same z k) (keeps w.kind (w.frozen k) (gives v)) (change_at w.given z))) (sym p)
              (subst (λ b. Entry k b (cond b (keeps w.kind (w.frozen k) (gives v)) (change_at w.given k))) (sym (same_refl k)) given_here)
          | inr f ↦ subst (λ b. Entry q b (cond b (keeps w.kind (w.frozen k) (gives v)) (change_at w.given q))) (sym f) (old_entry q)
        ]

    abbrev seen' : Bytes → Bool
    seen' = passed w.all (with_key k w.visited) w.bound

    abbrev StatusOf : Bytes → Bool → Type 0
    StatusOf q b =
        status Capture (value_at (now w) q) (value_at (at w.catalog w.opening w.number w.log) q) ((b || w.visited q) || (w.all && not (w.bound q))) (w.frozen q) (Unchanged w.calls q) (Held w.calls q)
        (Early w.calls q) (cond b (Some (captured_at v.available v)) (w.versions q))

    visited_status : (q : Bytes) → StatusOf q (same q k)
    visited_status q =
        elim (keys q k) [
          | inl p ↦
              subst (λ z. StatusOf z (same z k)) (sym p)
              (subst (StatusOf k) (sym (same_refl k)) (visit_status (value_at (now w) k) here (seen k) (w.frozen k) (Unchanged w.calls k) v.live v.stable v.available status_here))
          | inr f ↦ subst (StatusOf q) (sym f) (statuses_at Capture may.phase q)
        ]

    captured_live : (b : Bool) → (captured_at b v).live ≡ v.live
    captured_live true = refl
    captured_live false = refl

    visit_lives : Lives (now w) w.calls (λ q. cond (same q k) (Some (captured_at v.available v)) (w.versions q))
    visit_lives =
        record {
          own = λ s c i q x e. let (u, j, l) = good.lives.own s c i q x e in at q x u j l (keys q k);
          table = λ q un. table q (keys q k) ∙ good.lives.table q un;
        }
      where
        at :
            (q : Bytes) (x : Cell) (u : KeyVersions) → w.versions q ≡ Some u → u.live ≡ x → (q ≡ k) ⊎ (same q k ≡ false) →
            (u' : KeyVersions) × (cond (same q k) (Some (captured_at v.available v)) (w.versions q) ≡ Some u') × (u'.live ≡ x)
        at q x u j l (inl p) = (
          captured_at v.available v,
          ap (λ b. cond b (Some (captured_at v.available v)) (w.versions q)) (ap (λ z. same z k) p ∙ same_refl k),
          captured_live v.available ∙ ap (λ (o : KeyVersions). o.live) (same_Some (sym may.is ∙ ap w.versions (sym p) ∙ j)) ∙ l,
        )
        at q x u j l (inr f) = (u, ap (λ b. cond b (Some (captured_at v.available v)) (w.versions q)) f ∙ j, l)

        table : (q : Bytes) → (q ≡ k) ⊎ (same q k ≡ false) → live_version (cond (same q k) (Some (captured_at v.available v)) (w.versions q)) ≡ live_version (w.versions q)
        table q (inl p) =
            ap (λ b. live_version (cond b (Some (captured_at v.available v)) (w.versions q))) (ap (λ z. same z k) p ∙ same_refl k)
            ∙ captured_live v.available ∙ ap live_version (sym may.is) ∙ ap (λ z. live_version (w.versions z)) (sym p)
        table q (inr f) = ap (λ b. live_version (cond b (Some (captured_at v.available v)) (w.versions q))) f

    visit_some : (q : Bytes) (b : Bool) → is_some (w.versions q) ≡ true → is_some (cond b (Some (captured_at v.available v)) (w.versions q)) ≡ true
    visit_some q true e = refl
    visit_some q false e = e

    pub visit_good : Invariant (visit w k v)
    visit_good =
        versions_good (visit w k v).versions (visit w k v).given (with_key k w.visited) visit_lives
        (subst (λ p. Statuses p (now w) (at w.catalog w.opening w.number w.log) w.calls (visit w k v).versions seen' w.frozen) (sym may.phase) visited_status)
        (λ q e. visit_some q (same q k) (good.recorded q e))
        (subst (λ p. ScanKeepsIn p w.kind (at w.catalog w.opening w.number w.log) (with_key k w.visited) w.bound w.frozen (visit w k v).given) (sym may.phase)
        (record { entries = entry_at; full = (scan_at may.phase).full; covers = (scan_at may.phase).covers }))

  -- ---- the end of a checkpoint

  module _ (e : w.phase ≡ Capture) (done : (q : Bytes) → w.bound q ≡ true → w.visited q ≡ true) where
    full_entry :
        w.kind ≡ Full → (q : Bytes) (b : Bool) → w.visited q ≡ b →
        cond b (in_full (value_at (at w.catalog w.opening w.number w.log) q)) None ≡ in_full (value_at (at w.catalog w.opening w.number w.log) q)
    full_entry k q true i = refl
    full_entry k q false i = ap in_full (sym ((scan_at e).full k q (outside (w.bound q) refl)))
      where
        outside : (b : Bool) → w.bound q ≡ b → b ≡ false
        outside true j = yes_no (done q j) i
        outside false j = refl

    partial_entry : (q : Bytes) (x : Option Cell) (a b : Bool) → w.visited q ≡ a → w.frozen q ≡ b → cond a (keeps Partial b x) None ≡ cond b x None
    partial_entry q x true true i j = refl
    partial_entry q x true false i j = refl
    partial_entry q x false true i j = yes_no (done q ((scan_at e).covers q j)) i
    partial_entry q x false false i j = refl

    cuts : Cuts w.catalog w.opening w.log w.number w.finished w.collecting w.frozen
    cuts = sets_at Capture e

    kept_entry : (k : Kind) → w.kind ≡ k → (q : Bytes) → change_at w.given q ≡ cond (w.visited q) (keeps k (w.frozen q) (Some (value_at (at w.catalog w.opening w.number w.log) q))) None
    kept_entry k i q = (scan_at e).entries q ∙ ap (λ x. cond (w.visited q) (keeps x (w.frozen q) (Some (value_at (at w.catalog w.opening w.number w.log) q))) None) i

    image_cut : (k : Kind) → w.kind ≡ k → IsCut w.catalog w.opening (before w.number w.log) k (image w)
    image_cut Full i = record {
      base = ap (λ x. base_at x w.number w.finished) i;
      place = refl;
      entries = λ q. kept_entry Full i q ∙ full_entry i q (w.visited q) refl;
    }
    image_cut Partial i = record {
      base = ap (λ x. base_at x w.number w.finished) i ∙ sym cuts.base;
      place = refl;
      entries = λ q. kept_entry Partial i q
          ∙ partial_entry q (Some (value_at (at w.catalog w.opening w.number w.log) q)) (w.visited q) (w.frozen q) refl refl
          ∙ ap (λ b. cond b (Some (value_at (at w.catalog w.opening w.number w.log) q)) None)
          (cuts.frozen q ∙ ap (λ f. since w.catalog w.opening f (before w.number w.log) q) (sym cuts.base));
    }

    image_inner : (k : Kind) → w.kind ≡ k → k ≡ Partial → before (base_at k w.number w.finished) (before w.number w.log) ≡ before (base_at k w.number w.finished) w.log
    image_inner Full i j = absurd (wrong j)
      where
        wrong : Full ≡ Partial → ⊥
        wrong j = cc
    image_inner Partial i j = cuts.inner

    image_base : (k : Kind) → base_at k w.number w.finished ≤ w.number
    image_base Full = le_refl _
    image_base Partial = let b : w.finished + 1 ≤ w.number = below Capture e in omega arith

    pub complete_good : Invariant (complete w)
    unfolding history_table before history_last_finished
    complete_good =
        record {
          lawful = token_lawful Capture Complete w.number e refl;
          machines = good.machines;
          finishing = same_finishing Complete w.number;
          apart = good.apart;
          lives = good.lives;
          started = λ u d h. capture_complete d.start (starts_at Capture e u d h);
          statuses =
              λ q. complete_status (value_at (now w) q) (value_at (at w.catalog w.opening w.number w.log) q) (value_at (now w) q) (value_at (now w) q) (seen q) (w.frozen q) false (Unchanged w.calls q)
              (Held w.calls q) (Early w.calls q) (w.versions q) (statuses_at Capture e q);
          recorded = λ q f. good.recorded q (less (w.collecting q) (w.frozen q) f);
          sets = sets_complete w.catalog w.opening w.log w.number w.number w.finished w.collecting w.frozen (sets_at Capture e);
          scan = done;
          images = (
            record {
              cut = image_cut w.kind refl;
              number = le_refl _;
              base = image_base w.kind;
              resolved = subst (λ n. history_resolves n w.log) good.lawful.number (resolved_there w.log good.lawful.cyclic (ap has_cut (good.lawful.phase ∙ e)));
              inner = image_inner w.kind refl;
            },
            images_grow w.catalog w.opening w.log (Token Complete w.number) w.finished w.number (λ n l. refl) (let b : w.finished + 1 ≤ w.number = below Capture e in omega arith) w.images good.images,
          );
        }
      where
        less : (a b : Bool) → (a || false) ≡ true → (a || b) ≡ true
        less true b e = refl
        less false b e = absurd (true≢false (sym e))

  clean_live : (o : Option KeyVersions) → live_version (cleaned_versions o) ≡ live_version o
  clean_live None = refl
  clean_live (Some v) = refl

  clean_own : (q : Bytes) (x : Cell) → (v : KeyVersions) × (w.versions q ≡ Some v) × (v.live ≡ x) → (v : KeyVersions) × (cleaned_versions (w.versions q) ≡ Some v) × (v.live ≡ x)
  clean_own q x (v, i, l) = (record { live = v.live; stable = None; available = false }, ap cleaned_versions i, l)

  clean_some : (o : Option KeyVersions) → is_some o ≡ true → is_some (cleaned_versions o) ≡ true
  clean_some None e = e
  clean_some (Some v) e = refl

  pub rest_good : w.phase ≡ Complete → AllStarted Complete w.calls → Invariant (rest w)
  unfolding history_table before history_last_finished
  rest_good e all =
      record {
        lawful = token_lawful Complete Rest w.number e refl;
        machines = good.machines;
        finishing = same_finishing Rest w.number;
        apart = good.apart;
        lives = record { own = λ s c i q x f. clean_own q x (good.lives.own s c i q x f); table = λ q un. clean_live (w.versions q) ∙ good.lives.table q un };
        started = λ u d h. ap (starts Rest) (all u d h);
        statuses =
            λ q. clean_status (value_at (now w) q) (value_at (at w.catalog w.opening w.number w.log) q) (w.visited q) (w.frozen q) (Unchanged w.calls q) (Held w.calls q) (Early w.calls q)
            (w.versions q);
        recorded = λ q f. clean_some (w.versions q) (good.recorded q f);
        sets = sets_rest w.catalog w.opening w.log w.number w.number w.finished w.collecting w.frozen (sets_at Complete e);
        scan = tt;
        images = images_grow w.catalog w.opening w.log (Token Rest w.number) w.finished w.finished (λ n l. refl) (le_refl _) w.images good.images;
      }

  -- ---- a dead record goes

  module _ (k : Bytes) (v : KeyVersions) (may : MayReclaim w k v) where
    abbrev left : VersionsByKey
    left q = cond (same q k) None (w.versions q)

    free_here : Unchanged w.calls k
    free_here u d h = unwritten (good.machines u d h) k (may.free u d h).0

    elsewhere : (s : ℕ) (c : Open) → w.calls s ≡ Some c → (q : Bytes) (x : Cell) → change_at c.machine.changes q ≡ Some x → (q ≡ k) ⊎ (same q k ≡ false) → same q k ≡ false
    elsewhere s c i q x e (inl p) = none_some (sym (free_here s c i) ∙ ap (change_at c.machine.changes) (sym p) ∙ e)
    elsewhere s c i q x e (inr f) = f

    reclaim_own : (s : ℕ) (c : Open) → w.calls s ≡ Some c → (q : Bytes) (x : Cell) → change_at c.machine.changes q ≡ Some x → (v : KeyVersions) × (left q ≡ Some v) × (v.live ≡ x)
    reclaim_own s c i q x e =
        let (u, j, l) = good.lives.own s c i q x e in
        (u, ap (λ b. cond b None (w.versions q)) (elsewhere s c i q x e (keys q k)) ∙ j, l)

    reclaim_table : (q : Bytes) → (q ≡ k) ⊎ (same q k ≡ false) → Unchanged w.calls q → live_version (left q) ≡ value_at (now w) q
    reclaim_table q (inl p) un =
        ap (λ b. live_version (cond b None (w.versions q))) (ap (λ z. same z k) p ∙ same_refl k)
        ∙ sym may.dead ∙ ap live_version (sym may.is) ∙ ap (λ z. live_version (w.versions z)) (sym p) ∙ good.lives.table q un
    reclaim_table q (inr f) un = ap (λ b. live_version (cond b None (w.versions q))) f ∙ good.lives.table q un

    reclaim_recorded : (q : Bytes) → (q ≡ k) ⊎ (same q k ≡ false) → (w.collecting q || w.frozen q) ≡ true → is_some (left q) ≡ true
    reclaim_recorded q (inl p) e = yes_no e (neither (w.collecting q) (w.frozen q) (ap w.collecting p ∙ may.uncollected) ((sets_at Rest may.phase).frozen q))
      where
        neither : (a b : Bool) → a ≡ false → b ≡ false → (a || b) ≡ false
        neither true b e f = e
        neither false b e f = f
    reclaim_recorded q (inr f) e = ap (λ b. is_some (cond b None (w.versions q))) f ∙ good.recorded q e

    reclaim_status : (q : Bytes) (b : Bool) (a c : Cell) (vis fro : Bool) (U H E : Type 0) → status Rest a c vis fro U H E (w.versions q) → status Rest a c vis fro U H E (cond b None (w.versions q))
    reclaim_status q true a c vis fro U H E x = tt
    reclaim_status q false a c vis fro U H E x = x

    pub reclaim_good : Invariant (reclaim w k)
    reclaim_good =
        versions_good left w.given w.visited (record { own = reclaim_own; table = λ q un. reclaim_table q (keys q k) un })
        (subst (λ p. Statuses p (now w) (at w.catalog w.opening w.number w.log) w.calls left seen w.frozen) (sym may.phase) (λ q.
        reclaim_status q (same q k) (value_at (now w) q) (value_at (at w.catalog w.opening w.number w.log) q) (seen q) (w.frozen q) (Unchanged w.calls q) (Held w.calls q) (Early w.calls q)
        (statuses_at Rest may.phase q)))
        (λ q e. reclaim_recorded q (keys q k) e) good.scan

  -- ---- a checkpoint is given up

  module _ (ph : Phase) (e : w.phase ≡ ph) (cutting : is_cutting ph ≡ true) (next : Follows ph w.number Rest w.number) where
    abbrev again : CallsBySession
    again s = restarted_open (w.calls s)

    restart_unchanged : (q : Bytes) → Unchanged again q → Unchanged w.calls q
    restart_unchanged q un u d h = un u (record d { start = Rest }) (restarted_is w.calls u d h)

    swap_or : (a b : Bool) → ((b || a) || false) ≡ true → (a || b) ≡ true
    swap_or true b e = refl
    swap_or false true e = refl
    swap_or false false e = e

    pub abandon_good : Invariant (abandon w)
    unfolding history_table before history_last_finished
    abandon_good =
        record {
          lawful = token_lawful ph Rest w.number e next;
          machines = restarted_all (λ u d. IsAlone w.catalog (now w) d) w.calls (λ u d h. record { machine = (good.machines u d h).machine; undo = (good.machines u d h).undo });
          finishing =
              restarted_all (λ u d. MayFinish w.catalog (Token Rest w.number ∷ w.log) u d) w.calls
              (λ u d h. record { procedure = (same_finishing Rest w.number u d h).procedure; number = (same_finishing Rest w.number u d h).number });
          apart = restarted_all (λ s c. (u : ℕ) (d : Open) → again u ≡ Some d → (s == u) ≡ false → IsApart c.machine d.machine) w.calls
              (λ s c i. restarted_all (λ u d. (s == u) ≡ false → IsApart c.machine d.machine) w.calls (λ u d j. good.apart s c i u d j));
          lives = record {
            own = restarted_all (λ s c. (q : Bytes) (x : Cell) → change_at c.machine.changes q ≡ Some x → (v : KeyVersions) × (cleaned_versions (w.versions q) ≡ Some v) × (v.live ≡ x)) w.calls
                (λ s c i q x f. clean_own q x (good.lives.own s c i q x f));
            table = λ q un. clean_live (w.versions q) ∙ good.lives.table q (restart_unchanged q un);
          };
          started = restarted_all (λ u d. starts Rest d.start ≡ true) w.calls (λ u d h. refl);
          statuses = λ q. clean_status (value_at (now w) q) (value_at (at w.catalog w.opening w.number w.log) q) (w.visited q) false (Unchanged again q) (Held again q) (Early again q) (w.versions q);
          recorded = λ q f. clean_some (w.versions q) (good.recorded q (swap_or (w.collecting q) (w.frozen q) f));
          sets = sets_abandon w.catalog w.opening w.log w.number w.number w.finished w.collecting w.frozen
              (subst (λ b. Sets b w.catalog w.opening w.log w.number w.finished w.collecting w.frozen) cutting (sets_at ph e));
          scan = tt;
          images = images_grow w.catalog w.opening w.log (Token Rest w.number) w.finished w.finished (λ n l. refl) (le_refl _) w.images good.images;
        }
