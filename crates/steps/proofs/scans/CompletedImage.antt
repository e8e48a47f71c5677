-- A core whose image is finished.
use Rattle.std.proofs.Common.{◌≡◌, ℕ, ◌+◌, ◌<◌, ◌≤◌, inl, inr, arith, Bool, true, false, cond, List, [], ◌∷◌, ◌++◌, get_or, length, reverse, Option, Some, None, is_some, refl, sym, ap, ◌∙◌, subst, true≢false}
use Rattle.std.specs.Prelude.{IsSome, nat_lt}
use Rattle.std.specs.FinMap as fin
use Rattle.std.proofs.lemmas.Bool.{ltb-false}
use Rattle.procedure.specs.Bytes.{Bytes, Cell, same}
use Rattle.procedure.specs.Procedures.{Procedure}
use Rattle.procedure.specs.Table.{Changes, Table, change_at, value_at}
use Rattle.phase.specs.declared.phases.Phase.TheVariants.{Capture, Complete}
use Rattle.commitlog.specs.Cuts as cuts
use Rattle.commitlog.specs.Logs.{Log}
use Rattle.commitlog.specs.Records.{Record, Token}
use Rattle.image.proofs.Joins.{is_true}
use Rattle.image.proofs.Rising.{find_at}
use Rattle.image.proofs.Sorting.{changes_of-captured}
use Rattle.image.specs.Headers.{EachKeyOnce, FitsHeader, map_of, of_captured}
use Rattle.image.specs.Images as taken
use Rattle.image.specs.Images.{AllPresent, IsLawfulImage, SuitsKind}
use Rattle.image.specs.Merges.{table_of}
use Rattle.image.specs.declared.headers.Header.{Header}
use Rattle.image.specs.declared.images.Kind.{Kind}
use Rattle.image.specs.declared.images.Kind.TheVariants.{Full, Partial}
use Rattle.image.specs.declared.limits.TheConstants.{ENTRIES}
use Rattle.record_store.specs.ChangedSets.{ChangedSets, has, empty_set}
use Rattle.record_store.specs.Stores as store
use Rattle.record_store.specs.Versions as stored
use Rattle.record_store.specs.declared.limits.TheConstants.{STORE_RECORDS}
use Rattle.steps.specs.machine.NewestFirst.{MachineImage, IsCut, at, before, history_last_finished, history_number, since}
use Rattle.steps.specs.Checkpointing.{AdvancesTo, CompletesBy, IsImageOf}
use Rattle.steps.specs.inside.CoreFields.{IsCore, view_of}
use Rattle.steps.specs.CoreViews.{CoreView}
use Rattle.steps.specs.CutImages.{IsCutOf, IsOfKind}
use Rattle.steps.specs.machine.Invariant.{IsFinishedImage}
use Rattle.steps.specs.Refusals.{is_cutting}
use Rattle.steps.specs.Promises.{machine_plain}
use Rattle.steps.specs.inside.CheckpointFields.{IsHead, is_unfinished, machine_image}
use Rattle.steps.specs.inside.FinishedCheckpoints.{Finishes, finished_header, finished_image}
use Rattle.steps.specs.machine.ScheduleAnswers.{Among}
use Rattle.steps.specs.machine.Machine.{Completes, Runs, State, base_at, complete, image, initial, keeps, more}
use Rattle.steps.specs.declared.checkpoints.Checkpoint.{Checkpoint}
use Rattle.steps.specs.declared.checkpoints.Way.{Way}
use Rattle.steps.specs.declared.checkpoints.Way.TheVariants.{Streamed, Whole}
use Rattle.steps.specs.declared.cores.Core.TheInside.{Inside}
use Rattle.steps.proofs.scans.CapturingCore.{phase_here, recorded, scan_good, scan_here}
use Rattle.steps.proofs.log.Cuts.{at_cut-reverse, written-reverse}
use Rattle.steps.proofs.phases.AddedToken.{number_is, token_core}
use Rattle.steps.proofs.machine.CallInvariant.{initial_good}
use Rattle.steps.proofs.phases.FrozenKeys.{base_here, base_place, cuts_here, place_here}
use Rattle.steps.proofs.machine.HistoryGrowth.{finished_below, pending}
use Rattle.steps.proofs.machine.OpenCalls.{same_Some}
use Rattle.steps.proofs.phases.ResolveAndRest.{entered_log, none_in_empty, number_here}
use Rattle.steps.proofs.scans.ScanPlaces.{recorded_at}
use Rattle.steps.proofs.store.KeyCount.{few_keys, version_there}
use Rattle.steps.proofs.views.CoreState.{good}
use Rattle.steps.proofs.machine.ScheduleInvariant.{runs_good}
use Rattle.steps.specs.declared.reclaiming.Aside.TheVariants.{Unknown}

visited_by : (b : Bool) (o : Option Cell) → is_some (cond b o None) ≡ true → b ≡ true
visited_by true o e = refl
visited_by false o e = absurd (true≢false (sym e))

-- an entry of a full image is present
present_by : (b fro : Bool) (y x : Cell) → cond b (keeps Full fro (Some y)) None ≡ Some x → IsSome x
present_by true fro (Some z) x e = ap is_some (sym (same_Some e))
present_by true fro None x e = absurd (cc)
present_by false fro y x e = absurd (cc)

in_partial : (b : Bool) (x : Cell) → cond b (Some x) None ≡ cuts.in_partial b x
in_partial true x = refl
in_partial false x = refl

module _ {A : Type 0} where
  -- the image of entries that were taken from a checkpoint
  abbrev pub image_at : Checkpoint A → List taken.Entry → taken.Image
  image_at k es = of_captured k.kind k.number (base_at k.kind k.number k.finished) k.place es

module _ {A : Type 0} (c : Inside A) (ok : IsCore c) (phase_is : c.phase ≡ Capture) where
  abbrev w : State
  w = ok.world

  abbrev entries : Changes
  entries = map_of c.checkpoint.given.entries

  -- the image as the core makes it
  abbrev made : taken.Image
  made = image_at c.checkpoint c.checkpoint.given.entries

  -- what was captured is what was given
  all_given : c.checkpoint.way ≡ Whole → c.checkpoint.captured.items ≡ c.checkpoint.given.entries
  all_given way = (scan_here c ok phase_is).captured way

  pub captured_once : c.checkpoint.way ≡ Whole → EachKeyOnce c.checkpoint.captured.items
  captured_once way = subst EachKeyOnce (sym (all_given way)) (scan_here c ok phase_is).once

  cutting : is_cutting c.phase ≡ true
  cutting = ap is_cutting phase_is

  -- IT IS LAWFUL

  abbrev at_token : Table
  at_token = at w.catalog w.opening w.number w.log

  entry_is : (q : Bytes) → change_at entries q ≡ cond (w.visited q) (keeps c.checkpoint.kind (w.frozen q) (Some (value_at at_token q))) None
  entry_is q =
      ap (λ (m : Changes). change_at m q) (sym (scan_here c ok phase_is).gave) ∙ (scan_good c ok phase_is).entries q
      ∙ ap (λ k. cond (w.visited q) (keeps k (w.frozen q) (Some (value_at at_token q))) None) ok.stands.checkpoint.kind

  has_record : (q : Bytes) → is_some (change_at entries q) ≡ true → is_some (stored.version_of c.store q) ≡ true
  has_record q e =
      let (i, before, there) = (scan_here c ok phase_is).visited q (visited_by (w.visited q) _ (sym (ap is_some (entry_is q)) ∙ e)) in
      version_there c.store q (recorded_at c.checkpoint.kind c.store c.changed.frozen i q (recorded c ok) there)

  present : c.checkpoint.kind ≡ Full → AllPresent (fin.entries entries)
  present full k d within =
      let e = get_or (fin.entries entries) k d in
      let held : change_at entries e.0 ≡ Some e.1 = fin.get-entries entries e.0 ∙ find_at (fin.entries entries) k d (fin.entries_sorted entries) within in
      present_by (w.visited e.0) (w.frozen e.0) (value_at at_token e.0) e.1
      (ap (λ k. cond (w.visited e.0) (keeps k (w.frozen e.0) (Some (value_at at_token e.0))) None) (sym full) ∙ sym (entry_is e.0) ∙ held)

  base_below : c.checkpoint.finished < c.checkpoint.number
  base_below =
      let l = (good c ok).lawful in
      let low = subst (λ p. history_last_finished w.log + pending p ≤ history_number w.log) (l.phase ∙ phase_here c ok phase_is) (finished_below w.log l.cyclic) in
      let f = l.finished in
      let n = l.number in
      let g = ok.stands.checkpoint.finished in
      let m = ok.stands.checkpoint.number in
      omega (arith, low, f, n, g, m)

  suits : (kind : Kind) → c.checkpoint.kind ≡ kind → SuitsKind kind c.checkpoint.number (base_at kind c.checkpoint.number c.checkpoint.finished) (fin.entries entries)
  suits Full e = (refl, present e)
  suits Partial e = base_below

  made_lawful : store.records c.store ≤ STORE_RECORDS → IsLawfulImage made
  made_lawful most = record {
    few =
        let few = few_keys c.store entries has_record in
        subst (λ n. n ≤ ENTRIES) (fin.len-entries entries) (omega (arith, few, most));
    rises = is_true _ (fin.entries_sorted entries);
    kind = suits c.checkpoint.kind refl;
  }

  pub captured_lawful : c.checkpoint.way ≡ Whole → store.records c.store ≤ STORE_RECORDS → IsLawfulImage (finished_image c.checkpoint)
  captured_lawful way most = subst (λ l. IsLawfulImage (image_at c.checkpoint l)) (sym (all_given way)) (made_lawful most)

  -- as many entries were given as an image may have, at most
  pub few_given : store.records c.store ≤ STORE_RECORDS → length c.checkpoint.given.entries ≤ ENTRIES
  few_given most =
      let few = few_keys c.store entries has_record in
      let once = (scan_here c ok phase_is).once in
      omega (arith, few, most, once)

  -- IT IS THE MACHINE'S

  abbrev image_with : Kind → (number finished place : ℕ) → Changes → MachineImage
  image_with kind number finished place g = record { kind = kind; number = number; base = base_at kind number finished; place = place; entries = g }

  machine_is : machine_image made ≡ image w
  machine_is =
      ap (image_with c.checkpoint.kind c.checkpoint.number c.checkpoint.finished c.checkpoint.place)
      (changes_of-captured c.checkpoint.kind c.checkpoint.number (base_at c.checkpoint.kind c.checkpoint.number c.checkpoint.finished) c.checkpoint.place c.checkpoint.given.entries
      ∙ sym (scan_here c ok phase_is).gave)
      ∙ ap (λ k. image_with k c.checkpoint.number c.checkpoint.finished c.checkpoint.place w.given) (sym ok.stands.checkpoint.kind)
      ∙ ap (λ n. image_with w.kind n c.checkpoint.finished c.checkpoint.place w.given) (sym ok.stands.checkpoint.number)
      ∙ ap (λ f. image_with w.kind w.number f c.checkpoint.place w.given) (sym ok.stands.checkpoint.finished)
      ∙ ap (λ p. image_with w.kind w.number w.finished p w.given) (sym (ok.stands.checkpoint.place (ap is_cutting (phase_here c ok phase_is))))

  module _ (all : (q : Bytes) → w.bound q ≡ true → w.visited q ≡ true) where
    pub completes : Runs (initial c.catalog (table_of c.opening)) (complete w)
    completes = more ok.run (Completes (phase_here c ok phase_is) all)

    cut_taken : IsFinishedImage w.catalog w.opening (Token Complete w.number ∷ w.log) w.number (image w)
    cut_taken = (runs_good completes (initial_good c.catalog (table_of c.opening))).images.0

    before_complete : before w.number (Token Complete w.number ∷ w.log) ≡ before w.number w.log
    unfolding before
    before_complete = refl

    cut_is : IsCut w.catalog w.opening (before w.number w.log) w.kind (image w)
    cut_is = subst (λ h. IsCut w.catalog w.opening h w.kind (image w)) before_complete cut_taken.cut

    table_is : cuts.at_cut w.catalog w.opening (reverse w.log) w.number ≡ at_token
    table_is = at_cut-reverse w.catalog w.opening w.number w.log (place_here c ok cutting)

    of_kind : (k : Kind) → IsCut w.catalog w.opening (before w.number w.log) k (image w) → IsOfKind k w.catalog w.opening (reverse w.log) (machine_plain (image w))
    of_kind Full x = record {
      base = x.base;
      place = x.place ∙ sym (place_here c ok cutting);
      entries = λ q. x.entries q ∙ ap (λ (u : Table). cuts.in_full (value_at u q)) (sym table_is);
    }
    of_kind Partial x = record {
      base = based ∙ sym (base_here c ok cutting);
      place = x.place ∙ sym (place_here c ok cutting);
      entries = λ q.
          x.entries q
          ∙ in_partial (since w.catalog w.opening (history_last_finished (before w.number w.log)) (before w.number w.log) q) (value_at at_token q)
          ∙ ap (λ n. cuts.in_partial (since w.catalog w.opening n (before w.number w.log) q) (value_at at_token q)) (cuts_here c ok cutting).base
          ∙ ap (λ b. cuts.in_partial b (value_at at_token q))
          (sym (written-reverse w.catalog w.opening w.finished w.number w.log q (base_place c ok cutting) (place_here c ok cutting) (cuts_here c ok cutting).inner))
          ∙ ap (λ n. cuts.in_partial (cuts.written w.catalog w.opening (reverse w.log) (cuts.cut (reverse w.log) n) (cuts.cut (reverse w.log) w.number) q) (value_at at_token q)) (sym based)
          ∙ ap (λ (u : Table). cuts.in_partial (cuts.written w.catalog w.opening (reverse w.log) (cuts.cut (reverse w.log) (image w).base) (cuts.cut (reverse w.log) w.number) q) (value_at u q))
          (sym table_is);
    }
      where
        based : (image w).base ≡ w.finished
        based = x.base ∙ (cuts_here c ok cutting).base

    abbrev Said : List Procedure → Table → List Record → MachineImage → Type 0
    Said k t l i = IsOfKind i.kind k t l (machine_plain i)

    made_cut : IsCutOf c.catalog (table_of c.opening) c.log.records made
    made_cut =
        subst (Said c.catalog (table_of c.opening) c.log.records) (sym machine_is)
        (subst (λ l. Said c.catalog (table_of c.opening) l (image w)) ok.stands.log
        (subst (λ t. Said c.catalog t (reverse w.log) (image w)) ok.stands.opening
        (subst (λ k. Said k w.opening (reverse w.log) (image w)) ok.stands.catalog (of_kind w.kind cut_is))))

    pub made_is : (i : taken.Image) → i ≡ made → IsImageOf (view_of c) i
    made_is i e = subst (IsImageOf (view_of c)) (sym e) record {
      kind = refl;
      number = sym ok.stands.checkpoint.number ∙ number_is c ok;
      cut = made_cut;
    }

  none_waits : c.checkpoint.header ≡ None
  none_waits = ok.stands.checkpoint.none_yet (ap is_unfinished (phase_here c ok phase_is))

  module _ (log : Log) (changed : ChangedSets) (scanned : nat_lt c.checkpoint.cursor c.checkpoint.bound ≡ false)
      (log_is : log.records ≡ c.log.records ++ Token Complete c.checkpoint.number ∷ []) (changed_is : changed ≡ record c.changed { frozen = empty_set }) where
    all_visited : (q : Bytes) → w.bound q ≡ true → w.visited q ≡ true
    all_visited q wanted =
        let (j, below, there, then) = (scan_here c ok phase_is).to_visit q wanted in
        let past = ltb-false c.checkpoint.cursor c.checkpoint.bound scanned in
        then (omega (arith, below, past))

    -- what is finished is that of the cut
    pub finished_is : IsImageOf (view_of c) made
    finished_is = made_is all_visited made refl

    -- the core whose checkpoint is finished, with what waits
    completed :
        (k : Checkpoint A) → k.number ≡ c.checkpoint.number → k.finished ≡ c.checkpoint.number → k.kind ≡ c.checkpoint.kind →
        ((i : taken.Image) → k.waiting ≡ Some i → Among (machine_image i) (complete w).images) → ((h : Header) → k.header ≡ Some h → IsHead k.given.entries (complete w).images h) →
        IsCore (record c { log = log; changed = changed; phase = Complete; checkpoint = k; aside = Unknown })
    completed k number finished kind waits heads =
        token_core c ok Complete w.number log.records (number_here c ok log Complete log_is) log refl c.store changed k Unknown (complete w) (refl, refl, refl, refl, refl) (completes all_visited)
        ok.stands.versions (λ q. ok.stands.collecting q ∙ ap (λ (s : ChangedSets). has s.collecting q) (sym changed_is))
        (λ q. sym (ap (λ (s : ChangedSets). has s.frozen q) changed_is ∙ none_in_empty q))
        record {
          number = ok.stands.checkpoint.number ∙ sym number;
          finished = ok.stands.checkpoint.number ∙ sym finished;
          kind = ok.stands.checkpoint.kind ∙ sym kind;
          place = λ cut. absurd (true≢false (sym cut));
          scan = tt;
          waits = waits;
          heads = heads;
          none_yet = λ unfinished. absurd (true≢false (sym unfinished));
        }
        (λ slot key there so. tt)

    -- THE IMAGE WAITS, OR THE HEADER

    module _ (k : Checkpoint A) (f : Finishes c.checkpoint k) (most : store.records c.store ≤ STORE_RECORDS) where
      abbrev with_checkpoint : Checkpoint A → Inside A
      with_checkpoint x = record c { log = log; changed = changed; phase = Complete; checkpoint = x; aside = Unknown }

      image_is : c.checkpoint.way ≡ Whole → finished_image c.checkpoint ≡ made
      image_is way = ap (image_at c.checkpoint) (all_given way)

      abbrev with_image : Checkpoint A
      with_image = record c.checkpoint { finished = c.checkpoint.number; captured = k.captured; waiting = Some (finished_image c.checkpoint) }

      image_core : c.checkpoint.way ≡ Whole → IsCore (with_checkpoint with_image)
      image_core way =
          completed with_image refl refl refl (λ j is. inl (ap machine_image (sym (same_Some is) ∙ image_is way) ∙ machine_is))
          (λ h is. absurd (let no_header : None ≡ Some h = sym none_waits ∙ is in cc))

      image_view : c.checkpoint.way ≡ Whole → AdvancesTo Complete (view_of c) (view_of (with_checkpoint with_image))
      image_view way =
          subst (λ way. CompletesBy way (view_of c) (view_of (with_checkpoint with_image))) (sym way) (
            finished_image c.checkpoint,
            made_is all_visited (finished_image c.checkpoint) (image_is way),
            ap (λ l. record (view_of (with_checkpoint with_image)) { log = l }) (entered_log c ok log Complete log_is),
          )

      abbrev with_header : Checkpoint A
      with_header = record c.checkpoint { finished = c.checkpoint.number; header = Some (finished_header c.checkpoint) }

      fits : c.checkpoint.way ≡ Streamed → FitsHeader (finished_header c.checkpoint) c.checkpoint.given.entries
      fits way = record {
        count = (scan_here c ok phase_is).count way;
        chain = (scan_here c ok phase_is).chain way;
        once = (scan_here c ok phase_is).once;
        lawful = made_lawful most;
      }

      header_core : c.checkpoint.way ≡ Streamed → IsCore (with_checkpoint with_header)
      header_core way =
          completed with_header refl refl refl (λ i is. inr (ok.stands.checkpoint.waits i is))
          (λ h is. subst (IsHead c.checkpoint.given.entries (complete w).images) (same_Some is) record { fits = fits way; makes = inl machine_is })

      header_view : c.checkpoint.way ≡ Streamed → AdvancesTo Complete (view_of c) (view_of (with_checkpoint with_header))
      header_view way =
          subst (λ way. CompletesBy way (view_of c) (view_of (with_checkpoint with_header))) (sym way) (
            finished_header c.checkpoint,
            record { fits = fits way; image = finished_is },
            ap (λ l. record (view_of (with_checkpoint with_header)) { log = l }) (entered_log c ok log Complete log_is),
          )

      pub finished_core : IsCore (with_checkpoint k)
      finished_core = by c.checkpoint.way refl
        where
          by : (way : Way) → c.checkpoint.way ≡ way → IsCore (with_checkpoint k)
          by Whole e = subst (λ x. IsCore (with_checkpoint x)) (sym (f.whole e)) (image_core e)
          by Streamed e = subst (λ x. IsCore (with_checkpoint x)) (sym (f.streamed e)) (header_core e)

      pub finished_view : (v : CoreView) → view_of c ≡ v → AdvancesTo Complete v (view_of (with_checkpoint k))
      finished_view v same = subst (λ (u : CoreView). AdvancesTo Complete u (view_of (with_checkpoint k))) same (by c.checkpoint.way refl)
        where
          by : (way : Way) → c.checkpoint.way ≡ way → AdvancesTo Complete (view_of c) (view_of (with_checkpoint k))
          by Whole e = subst (λ x. AdvancesTo Complete (view_of c) (view_of (with_checkpoint x))) (sym (f.whole e)) (image_view e)
          by Streamed e = subst (λ x. AdvancesTo Complete (view_of c) (view_of (with_checkpoint x))) (sym (f.streamed e)) (header_view e)
