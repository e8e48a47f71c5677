-- The status of each key's record, by the machine's state for which a core stands.
use Rattle.std.proofs.Common.{◌≡◌, ℕ, ◌<◌, Bool, true, false, not, ◌&&◌, ◌||◌, List, Option, Some, None, is_some, option_map, reverse, refl, sym, ap, ◌∙◌, subst, true≢false}
use Rattle.procedure.specs.Bytes.{Bytes, Cell}
use Rattle.procedure.specs.Runs.{Front}
use Rattle.procedure.specs.Table.{Table, change_at, value_at}
use Rattle.procedure.specs.Procedures.{Procedure}
use Rattle.phase.specs.declared.phases.Phase.{Phase}
use Rattle.phase.specs.declared.phases.Phase.TheVariants.{Rest, Prepare, Resolve, Capture, Complete}
use Rattle.commitlog.specs.Cuts.{at_cut}
use Rattle.commitlog.specs.Records.{Record}
use Rattle.image.specs.Merges.{is_full, table_of}
use Rattle.image.specs.declared.images.Kind.{Kind}
use Rattle.image.specs.declared.images.Kind.TheVariants.{Full, Partial}
use Rattle.record_store.specs.ChangedSets.{has}
use Rattle.record_store.specs.Stores.{HasKeysOnce}
use Rattle.steps.specs.CoreViews.{CoreView, Underway, open_at}
use Rattle.steps.specs.Refusals.{is_cutting}
use Rattle.steps.specs.Statuses as seen
use Rattle.steps.specs.Statuses.{HadPlace, HasStatus, IsVisited, StatusIn, StatusAtCapture, StatusAtComplete, change_by, held, holds}
use Rattle.steps.specs.Versions.{KeyVersions, versions_in}
use Rattle.steps.specs.inside.CoreFields.{IsCore, IsOpen, SameCall, call_at, underway, view_of}
use Rattle.steps.specs.machine.Invariant.{Early, Held, ScanKeepsIn, Unchanged, passed, status}
use Rattle.steps.specs.machine.Machine.{Open, now}
use Rattle.steps.specs.machine.NewestFirst.{at}
use Rattle.steps.specs.declared.calls.OpenCall.{OpenCall}
use Rattle.steps.specs.declared.cores.Core.TheInside.{Inside}
use Rattle.steps.proofs.log.Cuts.{at_cut-reverse}
use Rattle.steps.proofs.machine.RecordStatus.{status_alone}
use Rattle.steps.proofs.machine.ScanKinds.{scan_in_capture, scan_in_complete}
use Rattle.steps.proofs.phases.AddedToken.{number_is}
use Rattle.steps.proofs.phases.FrozenKeys.{frozen_is, place_here}
use Rattle.steps.proofs.scans.CapturingCore.{scan_good, scan_here}
use Rattle.steps.proofs.scans.ScanPlaces.{frozen_at, one_spot}
use Rattle.steps.proofs.scans.ScannedKeys.{visited_in_the_end}
use Rattle.steps.proofs.sessions.AcceptedCalls.{shown_at}
use Rattle.steps.proofs.sessions.EndedCall.{machine_is}
use Rattle.steps.proofs.views.CoreState.{good, now_is, phase_is, some_open}

-- ONE RECORD

full_by : (k : Kind) → is_full k ≡ true → k ≡ Full
full_by Full e = refl
full_by Partial e = absurd (true≢false (sym e))

ahead_by :
    (a b : Cell) (gone frozen : Bool) (U : Type 0) → (gone ≡ true → (b ≡ None) × (frozen ≡ false)) → (available : Bool) (stable : Option Cell) → StatusAtCapture a b gone frozen U available stable →
    StatusAtCapture a b false frozen U available stable
ahead_by a b false frozen U f available stable x = x
ahead_by a b true frozen U f true None x = f refl
ahead_by a b true frozen U f true (Some y) x = absurd x
ahead_by a b true frozen U f false stable x = absurd x

-- what is passed and wasn't visited was no place of a scan of all
unvisited : (visited all bound : Bool) → visited ≡ false → (visited || (all && not bound)) ≡ true → (all ≡ true) × (bound ≡ false)
unvisited true all bound e h = absurd (true≢false e)
unvisited false true false e h = (refl, refl)
unvisited false true true e h = absurd (true≢false (sym h))
unvisited false false bound e h = absurd (true≢false (sym h))

by_visit : (visited all bound : Bool) → visited ≡ true → (visited || (all && not bound)) ≡ true
by_visit true all bound e = refl
by_visit false all bound e = absurd (true≢false (sym e))

beyond : (visited all bound : Bool) → all ≡ true → bound ≡ false → (visited || (all && not bound)) ≡ true
beyond true all bound e h = refl
beyond false true false e h = refl
beyond false true true e h = absurd (true≢false h)
beyond false false bound e h = absurd (true≢false (sym e))

either_way : {X : Type 0} (b : Bool) → (b ≡ true → X) → (b ≡ false → X) → X
either_way true f g = f refl
either_way false f g = g refl

module _ {A : Type 0} (c : Inside A) (ok : IsCore c) (q : Bytes) where
  abbrev v : CoreView
  v = view_of c

  -- OPEN CALLS

  kept_open : (s : ℕ) (u : Underway) → open_at v s ≡ Some u → (k : OpenCall A) × (call_at c s ≡ Some k) × (underway k ≡ u)
  kept_open s u e = by (call_at c s) refl (sym (shown_at c s) ∙ e)
    where
      by : (o : Option (OpenCall A)) → call_at c s ≡ o → option_map underway o ≡ Some u → (k : OpenCall A) × (call_at c s ≡ Some k) × (underway k ≡ u)
      by None is e = absurd (cc)
      by (Some k) is e = (k, is, cc)

  kept_for : (s : ℕ) (o : Open) → ok.world.calls s ≡ Some o → (k : OpenCall A) × (call_at c s ≡ Some k) × IsOpen k o
  kept_for s o e = by (call_at c s) (ok.world.calls s) refl e (ok.stands.calls s)
    where
      by : (x : Option (OpenCall A)) (y : Option Open) → call_at c s ≡ x → y ≡ Some o → SameCall x y → (k : OpenCall A) × (call_at c s ≡ Some k) × IsOpen k o
      by None None is e same = absurd (cc)
      by None (Some p) is e same = absurd same
      by (Some k) None is e same = absurd same
      by (Some k) (Some p) is e same = (k, is, subst (IsOpen k) (cc) same)

  change_is : (s : ℕ) (k : OpenCall A) (is : call_at c s ≡ Some k) → change_at (some_open c ok s k is).0.machine.changes q ≡ change_by v q (underway k)
  change_is s k is = ap (λ (m : Front). change_at m.changes q) (machine_is c ok s k is c.calls c.store c.locks c.active c.aside)

  unchanged : Unchanged ok.world.calls q → seen.Unchanged v q
  unchanged none s u e =
      let (k, is, same) = kept_open s u e in
      let o = some_open c ok s k is in
      ap (change_by v q) (sym same) ∙ sym (change_is s k is) ∙ none s o.0 o.1

  early : Early ok.world.calls q → seen.UnchangedFromPrepare v q
  early none s u e start =
      let (k, is, same) = kept_open s u e in
      let o = some_open c ok s k is in
      ap (change_by v q) (sym same) ∙ sym (change_is s k is) ∙ none s o.0 o.1 (o.2.start ∙ ap (λ (x : Underway). x.start) same ∙ start)

  held_by : Held ok.world.calls q → seen.ChangedFromPrepare v q
  held_by (s, o, is, start, some) =
      let (k, there, stands) = kept_for s o is in
      let p = some_open c ok s k there in
      let same : p.0 ≡ o = let two : Some p.0 ≡ Some o = sym p.1 ∙ is in cc in (
        s,
        underway k,
        shown_at c s ∙ ap (option_map underway) there,
        sym stands.start ∙ start,
        ap is_some (sym (change_is s k there) ∙ ap (λ (x : Open). change_at x.machine.changes q) same) ∙ some,
      )

  -- THE TABLES

  cut_is : is_cutting c.phase ≡ true → value_at (at ok.world.catalog ok.world.opening ok.world.number ok.world.log) q ≡ held v q
  cut_is cutting =
      ap (λ t. value_at t q)
      (sym (at_cut-reverse ok.world.catalog ok.world.opening ok.world.number ok.world.log (place_here c ok cutting))
      ∙ ap (λ (k : List Procedure). at_cut k ok.world.opening (reverse ok.world.log) ok.world.number) ok.stands.catalog
      ∙ ap (λ (t : Table). at_cut c.catalog t (reverse ok.world.log) ok.world.number) ok.stands.opening
      ∙ ap (λ (l : List Record). at_cut c.catalog (table_of c.opening) l ok.world.number) ok.stands.log
      ∙ ap (at_cut c.catalog (table_of c.opening) c.log.records) (number_is c ok))

  abbrev before : Cell
  before = value_at (at ok.world.catalog ok.world.opening ok.world.number ok.world.log) q

  abbrev gone : Bool
  gone = passed ok.world.all ok.world.visited ok.world.bound q

  abbrev StatusBy : Phase → Cell → Bool → Bool → Option KeyVersions → Type 0
  StatusBy p b past frozen o = status p (holds v q) b past frozen (seen.Unchanged v q) (seen.ChangedFromPrepare v q) (seen.UnchangedFromPrepare v q) o

  status_here : StatusBy c.phase before gone (has c.changed.frozen q) (versions_in c.store q)
  status_here =
      subst (λ (p : Phase). StatusBy p before gone (has c.changed.frozen q) (versions_in c.store q)) ok.stands.phase
      (subst (λ (b : Bool). StatusBy ok.world.phase before gone b (versions_in c.store q)) (ok.stands.frozen q)
      (subst (StatusBy ok.world.phase before gone (ok.world.frozen q)) (ok.stands.versions q)
      (status_alone (value_at (now ok.world) q) (holds v q) before (ap (λ t. value_at t q) (now_is c ok))
      (Unchanged ok.world.calls q) (Held ok.world.calls q) (Early ok.world.calls q) (seen.Unchanged v q) (seen.ChangedFromPrepare v q) (seen.UnchangedFromPrepare v q)
      unchanged held_by early ok.world.phase gone (ok.world.frozen q) (ok.world.versions q) ((good c ok).statuses q))))

  -- THE PHASES

  at_rest : (o : Option KeyVersions) (b : Cell) (past frozen : Bool) → StatusBy Rest b past frozen o → StatusIn Rest v q o
  at_rest None b past frozen x = tt
  at_rest (Some k) b past frozen x = x

  at_prepare : (o : Option KeyVersions) (b : Cell) (past frozen : Bool) → StatusBy Prepare b past frozen o → StatusIn Prepare v q o
  at_prepare None b past frozen x = tt
  at_prepare (Some k) b past frozen x = x

  at_resolve : (o : Option KeyVersions) (past frozen : Bool) → StatusBy Resolve (held v q) past frozen o → StatusIn Resolve v q o
  at_resolve None past frozen x = x
  at_resolve (Some k) past frozen x = x

  module _ (once : HasKeysOnce c.store) where
    module _ (capturing : c.phase ≡ Capture) where
      here : ok.world.phase ≡ Capture
      here = ok.stands.phase ∙ capturing

      by_kind : ok.world.all ≡ is_full ok.world.kind
      by_kind = scan_in_capture c.catalog (table_of c.opening) ok.world ok.run here

      -- a place that the scan has visited is passed
      passes : IsVisited v c.changed.frozen q → gone ≡ true
      passes (i, below, there) = either_way (ok.world.bound q)
          (λ is.
          let (j, within, where_is, then) = (scan_here c ok capturing).to_visit q is in
          let same : j ≡ i = one_spot c.checkpoint.kind c.store c.changed.frozen j i q once where_is there in
          by_visit (ok.world.visited q) ok.world.all (ok.world.bound q) (then (subst (λ n. n < c.checkpoint.cursor) (sym same) below)))
          (λ not_bound. by c.checkpoint.kind refl not_bound)
        where
          by : (kind : Kind) → c.checkpoint.kind ≡ kind → ok.world.bound q ≡ false → gone ≡ true
          by Full e not_bound = beyond (ok.world.visited q) ok.world.all (ok.world.bound q) (by_kind ∙ ap is_full (ok.stands.checkpoint.kind ∙ e)) not_bound
          by Partial e not_bound =
              let frozen : ok.world.frozen q ≡ true = ok.stands.frozen q ∙ frozen_at c.checkpoint.kind c.store c.changed.frozen i q there e in
              absurd (true≢false (sym ((scan_good c ok capturing).covers q frozen) ∙ not_bound))

      -- what is passed beside was absent at the cut
      absent_before : (IsVisited v c.changed.frozen q → ⊥) → gone ≡ true → (held v q ≡ None) × (has c.changed.frozen q ≡ false)
      absent_before unseen e =
          let left : ok.world.visited q ≡ false = either_way (ok.world.visited q) (λ is. absurd (unseen ((scan_here c ok capturing).visited q is))) (λ is. is) in
          let (all, bound) = unvisited (ok.world.visited q) ok.world.all (ok.world.bound q) left e in (
            sym (cut_is (ap is_cutting capturing)) ∙ (scan_good c ok capturing).full (full_by ok.world.kind (sym by_kind ∙ all)) q bound,
            sym (ok.stands.frozen q)
                ∙ either_way (ok.world.frozen q) (λ is. absurd (true≢false (sym ((scan_good c ok capturing).covers q is) ∙ bound))) (λ is. is),
          )

      at_capture : (o : Option KeyVersions) → StatusBy Capture (held v q) gone (has c.changed.frozen q) o → StatusIn Capture v q o
      at_capture None x = x
      at_capture (Some k) x = record {
        frozen = c.changed.frozen;
        is_frozen = frozen_is c ok (ap is_cutting capturing);
        visited = λ is. subst (λ (b : Bool). StatusAtCapture (holds v q) (held v q) b (has c.changed.frozen q) (seen.Unchanged v q) k.available k.stable) (passes is) x;
        ahead = λ unseen. ahead_by (holds v q) (held v q) gone (has c.changed.frozen q) (seen.Unchanged v q) (absent_before unseen) k.available k.stable x;
      }

    -- in the end the scan has passed each key that it had a place for
    passed_all : c.phase ≡ Complete → (kind : Kind) → c.checkpoint.kind ≡ kind → HadPlace kind v q → gone ≡ true
    passed_all completing Full e place =
        let there : ok.world.phase ≡ Complete = ok.stands.phase ∙ completing in
        let scans = subst (λ p. ScanKeepsIn p ok.world.kind (at ok.world.catalog ok.world.opening ok.world.number ok.world.log) ok.world.visited ok.world.bound ok.world.frozen ok.world.given) there (good c ok).scan in
        let all : ok.world.all ≡ true = scan_in_complete c.catalog (table_of c.opening) ok.world ok.run there ∙ ap is_full (ok.stands.checkpoint.kind ∙ e) in
        either_way (ok.world.bound q) (λ is. by_visit (ok.world.visited q) ok.world.all (ok.world.bound q) (scans q is))
        (λ not_bound. beyond (ok.world.visited q) ok.world.all (ok.world.bound q) all not_bound)
    passed_all completing Partial e place =
        let there : ok.world.phase ≡ Complete = ok.stands.phase ∙ completing in
        let some : ok.world.all ≡ false = scan_in_complete c.catalog (table_of c.opening) ok.world ok.run there ∙ ap is_full (ok.stands.checkpoint.kind ∙ e) in
        by_visit (ok.world.visited q) ok.world.all (ok.world.bound q) (visited_in_the_end c ok completing some q place)

    at_complete : c.phase ≡ Complete → (o : Option KeyVersions) (b : Cell) (frozen : Bool) → StatusBy Complete b gone frozen o → StatusIn Complete v q o
    at_complete completing None b frozen x = tt
    at_complete completing (Some k) b frozen x = λ place. subst (λ (b : Bool). StatusAtComplete b k.available k.stable) (passed_all completing c.checkpoint.kind refl place) x

    status_in : StatusIn c.phase v q (versions_in c.store q)
    status_in = by c.phase refl status_here
      where
        by : (p : Phase) → c.phase ≡ p → StatusBy p before gone (has c.changed.frozen q) (versions_in c.store q) → StatusIn p v q (versions_in c.store q)
        by Rest e x = at_rest (versions_in c.store q) before gone (has c.changed.frozen q) x
        by Prepare e x = at_prepare (versions_in c.store q) before gone (has c.changed.frozen q) x
        by Resolve e x =
            at_resolve (versions_in c.store q) gone (has c.changed.frozen q)
            (subst (λ (b : Cell). StatusBy Resolve b gone (has c.changed.frozen q) (versions_in c.store q)) (cut_is (ap is_cutting e)) x)
        by Capture e x =
            at_capture e (versions_in c.store q) (subst (λ (b : Cell). StatusBy Capture b gone (has c.changed.frozen q) (versions_in c.store q)) (cut_is (ap is_cutting e)) x)
        by Complete e x = at_complete e (versions_in c.store q) before (has c.changed.frozen q) x

    pub key_status : (w : CoreView) → view_of c ≡ w → HasStatus w q (versions_in w.slots q)
    key_status w same =
        subst (λ (w : CoreView). HasStatus w q (versions_in w.slots q)) same
        (subst (λ (p : Phase). StatusIn p v q (versions_in c.store q)) (phase_is c ok) status_in)
