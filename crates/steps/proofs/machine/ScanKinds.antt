-- A scan goes through all records exactly where the checkpoint is full, and in the end it has visited each key that it had to.
use Rattle.std.proofs.Common.{◌≡◌, ℕ, Bool, true, false, List, sym, ap, ◌∙◌, subst, true≢false}
use Rattle.image.specs.Merges.{is_full}
use Rattle.phase.specs.declared.phases.Phase.{Phase}
use Rattle.phase.specs.declared.phases.Phase.TheVariants.{Rest, Prepare, Resolve, Capture, Complete}
use Rattle.procedure.specs.Procedures.{Procedure}
use Rattle.procedure.specs.Table.{Table}
use Rattle.procedure.specs.Bytes.{Bytes}
use Rattle.steps.specs.Refusals.{is_cutting}
use Rattle.steps.specs.machine.Invariant.{Cuts, Invariant, ScanKeeps, ScanKeepsIn, Sets}
use Rattle.steps.specs.machine.NewestFirst.{at, before, history_last_finished, since}
use Rattle.steps.proofs.machine.CallInvariant.{initial_good}
use Rattle.steps.proofs.machine.ScheduleInvariant.{runs_good}
use Rattle.steps.specs.machine.Machine.{State, Goes, Begins, Steps, Commits, Aborts, Gives_up, Starts, Resolves, Captures, Visits, Completes, Rests, Reclaims, Abandons, Runs, complete, none, more, initial}

-- has the scan begun, of a checkpoint that still runs?
is_scanned : Phase → Bool
is_scanned Capture = true
is_scanned Complete = true
is_scanned _ = false

ScansByKind : State → Type 0
ScansByKind w = is_scanned w.phase ≡ true → w.all ≡ is_full w.kind

goes_by_kind : {w x : State} → Goes w x → ScansByKind w → ScansByKind x
unfolding is_scanned ScansByKind
goes_by_kind (Starts k e) f = λ h. absurd (true≢false (sym h))
goes_by_kind (Resolves e a) f = λ h. absurd (true≢false (sym h))
goes_by_kind (Captures all e a k) f = λ h. k
goes_by_kind (Completes e d) f = λ h. f (ap is_scanned e)
goes_by_kind (Rests e a) f = λ h. absurd (true≢false (sym h))
goes_by_kind (Abandons e) f = λ h. absurd (true≢false (sym h))
goes_by_kind _ f = f

runs_by_kind : {a w : State} → Runs a w → ScansByKind a → ScansByKind w
runs_by_kind none f = f
runs_by_kind (more r g) f = goes_by_kind g (runs_by_kind r f)

begins_by_kind : (c : List Procedure) (t : Table) → ScansByKind (initial c t)
unfolding is_scanned ScansByKind initial
begins_by_kind c t = λ h. absurd (true≢false (sym h))

module _ (c : List Procedure) (t : Table) (w : State) (r : Runs (initial c t) w) where
  pub scan_in_capture : w.phase ≡ Capture → w.all ≡ is_full w.kind
  unfolding is_scanned ScansByKind
  scan_in_capture e = runs_by_kind r (begins_by_kind c t) (ap is_scanned e)

  pub scan_in_complete : w.phase ≡ Complete → w.all ≡ is_full w.kind
  unfolding is_scanned ScansByKind
  scan_in_complete e = runs_by_kind r (begins_by_kind c t) (ap is_scanned e)

-- WHAT A SCAN HAS VISITED IN THE END

-- the checkpoint that was finished before the cut
abbrev pub base_of : State → ℕ
base_of w = history_last_finished (before w.number w.log)

pub record Scanned (w : State) : Type 0 where
  pub inner : before (base_of w) (before w.number w.log) ≡ before (base_of w) w.log
  pub visited : (q : Bytes) → since w.catalog w.opening (base_of w) (before w.number w.log) q ≡ true → w.visited q ≡ true

Ends : State → Type 0
Ends w = w.phase ≡ Complete → w.all ≡ false → Scanned w

scan_ends : (w : State) → Invariant w → w.phase ≡ Capture → ((q : Bytes) → w.bound q ≡ true → w.visited q ≡ true) → Scanned (complete w)
unfolding before since
scan_ends w g e done =
    let cuts : Cuts w.catalog w.opening w.log w.number w.finished w.collecting w.frozen =
    subst (λ b. Sets b w.catalog w.opening w.log w.number w.finished w.collecting w.frozen) (ap is_cutting e) g.sets in
    let scan : ScanKeeps w.kind (at w.catalog w.opening w.number w.log) w.visited w.bound w.frozen w.given =
    subst (λ p. ScanKeepsIn p w.kind (at w.catalog w.opening w.number w.log) w.visited w.bound w.frozen w.given) e g.scan in
    record {
      inner = ap (λ b. before b (before w.number w.log)) cuts.base ∙ cuts.inner ∙ ap (λ b. before b w.log) (sym cuts.base);
      visited = λ q is. done q (scan.covers q (cuts.frozen q ∙ ap (λ b. since w.catalog w.opening b (before w.number w.log) q) (sym cuts.base) ∙ is));
    }

goes_end : {w x : State} → Goes w x → Invariant w → Ends w → Ends x
unfolding Ends before
goes_end (Begins s n p args m) g f = λ e a. let k = f e a in record { inner = k.inner; visited = k.visited }
goes_end (Steps s c m) g f = λ e a. let k = f e a in record { inner = k.inner; visited = k.visited }
goes_end (Commits s c i e z) g f = λ e a. let k = f e a in record { inner = k.inner; visited = k.visited }
goes_end (Aborts s c i e z) g f = λ e a. let k = f e a in record { inner = k.inner; visited = k.visited }
goes_end (Gives_up s c i) g f = λ e a. let k = f e a in record { inner = k.inner; visited = k.visited }
goes_end (Starts k e) g f = λ h a. absurd (let no : Prepare ≡ Complete = h in cc)
goes_end (Resolves e a) g f = λ h all. absurd (let no : Resolve ≡ Complete = h in cc)
goes_end (Captures all e a k) g f = λ h b. absurd (let no : Capture ≡ Complete = h in cc)
goes_end (Visits k v m) g f = λ h a. absurd (let no : Capture ≡ Complete = sym m.phase ∙ h in cc)
goes_end (Completes {w = w} e d) g f = λ h a. scan_ends w g e d
goes_end (Rests e a) g f = λ h b. absurd (let no : Rest ≡ Complete = h in cc)
goes_end (Reclaims k v m) g f = λ h a. absurd (let no : Rest ≡ Complete = sym m.phase ∙ h in cc)
goes_end (Abandons e) g f = λ h a. absurd (let no : Rest ≡ Complete = h in cc)

module _ (c : List Procedure) (t : Table) where
  runs_end : {w : State} → Runs (initial c t) w → Ends w
  unfolding Ends initial
  runs_end none = λ h a. absurd (let no : Rest ≡ Complete = h in cc)
  runs_end (more r g) = goes_end g (runs_good r (initial_good c t)) (runs_end r)

  pub scanned : (w : State) → Runs (initial c t) w → w.phase ≡ Complete → w.all ≡ false → Scanned w
  unfolding Ends
  scanned w r e a = runs_end r e a
