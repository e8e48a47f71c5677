-- What a journal takes of commands.
use Rattle.std.proofs.Common.{◌≡◌, ◌⊎◌, inl, inr, true, ◌≤◌, ℕ, List, [], ◌∷◌, ◌++◌, length, drop, arith, Option, Result, Ok, Err, refl, sym, ap, subst, ◌∙◌, append_assoc}
use Rattle.std.specs.Io.KnownBytes.{Appends}
use Rattle.std.proofs.KnownBytes.{Appends-trans}
use Rattle.std.proofs.Math.Seq.{drop-append_seam}
use Rattle.std.proofs.lemmas.List.{append-nil, length-append}
use Rattle.procedure.specs.Bytes.{Bytes}
use Rattle.procedure.specs.Procedures.{Procedure}
use Rattle.commitlog.specs.Records.{Record}
use Rattle.image.specs.Images.{Image}
use Rattle.steps.specs.CoreViews.{CoreView}
use Rattle.image.specs.Openings.{is_opening}
use Rattle.steps.specs.Openings.{IsOpened}
use Rattle.calcdb.specs.Journals.{IfFault, IsKept, IsUnopened, LeavesJournal, SentUnlessUnkept, StopsFrom, StopsIn, StopsKept, Taken, taken_of, with_more}
use Rattle.calcdb.specs.Outcomes.{EndsRun}
use Rattle.calcdb.specs.Scripts.{Schedule}
use Rattle.calcdb.specs.declared.faults.Fault.{Fault}
use Rattle.calcdb.specs.declared.scripts.ScriptFault.{ScriptFault}
use Rattle.calcdb.proofs.Endings.{ends_stopped}
use Rattle.calcdb.specs.Runs.{Carried, Carries, CarriesAll}
use Rattle.calcdb.specs.declared.commands.Command.{Command}
use Rattle.calcdb.specs.declared.journals.Stop.{Stop}
use Rattle.calcdb.specs.declared.journals.Stop.TheVariants as stop
use Rattle.calcdb.proofs.CarryingOn.{Continues, carried_more, sent_after}

pub same_taken : (c d : List Procedure) (o p : Image) (r s : List Record) (is : List Image) → c ≡ d → o ≡ p → r ≡ s →
    ◌≡◌ {A = Taken} (record { catalog = c; opening = o; records = r; images = is }) (record { catalog = d; opening = p; records = s; images = is })
same_taken c d o p r s is e f g = rw (e, f, g) refl

pub noted_before : (old new : CoreView) (l : List Record) → l ≡ old.log → Continues old new → length l ≤ length new.log
noted_before old new l is h =
    let k : length l ≡ length old.log = ap (λ (x : List Record). length x) is in
    let m : length new.log ≡ length (old.log ++ h.more) = ap (λ (x : List Record). length x) h.log in
    omega (arith, k, m, length-append old.log h.more)

-- what was taken so far, and what the command added, is all that there is after it
pub all_taken : (old new : CoreView) (l : List Record) (is js : List Image) → l ≡ old.log → Continues old new → with_more (taken_of old is) (drop (length l) new.log) js ≡ taken_of new (is ++ js)
all_taken old new l is js noted h =
    let added : drop (length l) new.log ≡ h.more = ap (λ (x : List Record). drop (length l) x) h.log ∙ ap (λ (x : List Record). drop (length x) (old.log ++ h.more)) noted ∙ drop-append_seam old.log h.more in
    let log : old.log ++ drop (length l) new.log ≡ new.log = ap (λ (x : List Record). old.log ++ x) added ∙ sym h.log in
    same_taken old.catalog new.catalog old.opening new.opening (old.log ++ drop (length l) new.log) new.log (is ++ js) (sym h.catalog) (sym h.opening) log

-- commands from the front on, and the one at which they stop
pub stops_at : (A F : Type 0) (catalog : List Procedure) (commands front : List (Command (List Bytes))) (d : Command (List Bytes)) (left : List (Command (List Bytes))) (first core new : CoreView) (t u : Bytes)
    (is js : List Image) (old mid now : Option Bytes) (Has : Taken → Type 0) (Front : Taken → ℕ → Type 0) (s : Stop F) → commands ≡ front ++ (d ∷ left) →
    Carried {A = A} (CarriesAll catalog front) first core t is → Carried {A = A} (Carries catalog d) core new u js → Appends old mid t → SentUnlessUnkept {F = F} (Err s) mid now u →
    IsKept {F = F} (Err s) (Has (taken_of new (is ++ js))) (Front (taken_of new (is ++ js)) (length core.log)) → StopsIn A catalog commands first new old now Has Front s
stops_at A F catalog commands front d left first core new t u is js old mid now Has Front (stop.Fault f) parts h k out sent kept = (
  t ++ u,
  record {
    front = front ++ d ∷ [];
    left = left;
    parts = parts ∙ sym (append_assoc front (d ∷ []) left);
    images = is ++ js;
    carried = carried_more catalog front d first core new t u is js h k;
  },
  sent_after f old mid now t u out sent,
  kept,
)
stops_at A F catalog commands front d left first core new t u is js old mid now Has Front (stop.Journal e) parts h k out sent kept = (
  t,
  record { front = front; command = d; left = left; parts = parts; before = core; images = is; answered = h; last = u; taken = js; unanswered = k },
  subst (λ (x : Bytes). Appends old now x) (append-nil t) (Appends-trans old mid now t [] out sent),
  kept,
)

abbrev fault_in : {F : Type 0} → Stop F → Fault → Fault
fault_in (stop.Fault g) other = g
fault_in (stop.Journal e) other = other

module _ (A F : Type 0) (old new : Option Bytes) (Has : Taken → Type 0) (Front : Taken → ℕ → Type 0) where
  -- once the journal has begun
  pub stops_begun : (first : CoreView) (commands : List (Command (List Bytes))) (core : CoreView) (stopped : Stop F) → StopsIn A first.catalog commands first core old new Has Front stopped →
      StopsFrom A first.catalog commands first old new Has Front stopped
  stops_begun first commands core (stop.Fault f) h = (core, h)
  stops_begun first commands core (stop.Journal e) h = inr (core, h)

  -- in the words of the script
  pub stops_script : (s : Schedule) (opening : Image) (first : CoreView) (commands : List (Command (List Bytes))) (stopped : Stop F) → IsOpened s.catalog opening first → commands ≡ s.commands →
      StopsFrom A first.catalog commands first old new Has Front stopped → StopsFrom A s.catalog s.commands first old new Has Front stopped
  stops_script s opening first commands stopped opened same h =
      subst (λ (k : List Procedure). StopsFrom A k s.commands first old new Has Front stopped) opened.catalog (subst (λ (l : List (Command (List Bytes))). StopsFrom A first.catalog l first old new Has Front stopped) same h)

  -- faults end a run as they do with no journal
  pub fault_ends : (opening : Image) (says : Result Schedule ScriptFault) (s : Schedule) (Same : Type 0) (stopped : Stop F) → is_opening opening ≡ true → says ≡ Ok s →
      IsUnopened stopped Same old new ⊎ StopsKept A s opening old new Has Front stopped → IfFault (λ f. EndsRun A says opening old new f) stopped
  fault_ends opening says s Same (stop.Fault f) lawful reads (inl (is, same, out)) = ends_stopped A says opening old new s f lawful reads (inl (ap (λ (x : Stop F). fault_in x f) is, out))
  fault_ends opening says s Same (stop.Fault f) lawful reads (inr (first, opened, h)) = ends_stopped A says opening old new s f lawful reads (inr (first, h.0, h.1.0, opened, h.1.1, h.1.2))
  fault_ends opening says s Same (stop.Journal e) lawful reads h = tt

  pub leaves : (opening : Image) (says : Result Schedule ScriptFault) (s : Schedule) (Same : Type 0) (stopped : Stop F) → says ≡ Ok s →
      IsUnopened stopped Same old new ⊎ StopsKept A s opening old new Has Front stopped → LeavesJournal A says opening old new Same Has Front stopped
  leaves opening says s Same stopped reads (inl (is, same, out)) = inl same
  leaves opening says s Same stopped reads (inr h) = inr (s, reads, h)

pub if_fault_weaker : (F : Type 0) (P Q : Fault → Type 0) (s : Stop F) → ((f : Fault) → P f → Q f) → IfFault P s → IfFault Q s
if_fault_weaker F P Q (stop.Fault f) more h = more f h
if_fault_weaker F P Q (stop.Journal e) more h = tt
