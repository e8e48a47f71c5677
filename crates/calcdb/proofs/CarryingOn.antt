-- Commands carried out one after another.
use Rattle.std.proofs.Common.{◌≡◌, ℕ, suc, ◌+◌, length, arith, List, [], ◌∷◌, ◌++◌, Option, Some, None, Result, Ok, Err, refl, sym, ap, subst, ◌∙◌, append_assoc}
use Rattle.std.specs.Io.KnownBytes.{Appends}
use Rattle.std.proofs.KnownBytes.{Appends-trans}
use Rattle.std.proofs.lemmas.List.{append-nil}
use Rattle.procedure.specs.Bytes.{Bytes}
use Rattle.procedure.specs.Procedures.{Procedure}
use Rattle.phase.specs.declared.phases.Phase.{Phase}
use Rattle.phase.specs.declared.phases.Phase.TheVariants.{Rest, Prepare, Resolve, Capture, Complete}
use Rattle.commitlog.specs.Records.{Record}
use Rattle.image.specs.Images.{Image}
use Rattle.image.specs.declared.images.Kind.{Kind}
use Rattle.steps.specs.Checkpointing.{AdvancesTo, CapturesAs, CompletesBy}
use Rattle.steps.specs.CoreViews.{CoreView, Finishes, OfOpen, Steps, Underway, answer_of, open_at}
use Rattle.steps.specs.Refusals.{unfinished, unstepped}
use Rattle.steps.specs.Schedules.{AbandonsAs, AdvancesAs, BeginsAs, FinishesAs, GivesUpAs, Handles, HandlesAll, StartsAs, StepsAs, VisitsAs, image_in, images_in}
use Rattle.steps.specs.declared.captures.Captured.{Captured}
use Rattle.steps.specs.declared.captures.Captured.TheVariants.{Slot, Done}
use Rattle.steps.specs.declared.checkpoints.Way.{Way}
use Rattle.steps.specs.declared.checkpoints.Way.TheVariants.{Streamed, Whole}
use Rattle.steps.specs.declared.errors.AbandonError.{AbandonError}
use Rattle.steps.specs.declared.errors.AdvanceError.{AdvanceError}
use Rattle.steps.specs.declared.errors.CaptureError.{CaptureError}
use Rattle.steps.specs.declared.errors.StartError.{StartError}
use Rattle.steps.specs.declared.errors.BeginError.{BeginError}
use Rattle.steps.specs.declared.errors.FinishError.{FinishError}
use Rattle.steps.specs.declared.errors.NotActive.{NotActive}
use Rattle.steps.specs.declared.errors.StepError.{StepError}
use Rattle.steps.specs.declared.finish.Answer.{Answer}
use Rattle.steps.specs.declared.schedules.Event.{Event}
use Rattle.steps.specs.declared.schedules.Event.TheVariants as event
use Rattle.steps.specs.declared.schedules.Handled.{Handled}
use Rattle.steps.specs.declared.step.Stepped.{Stepped}
use Rattle.calcdb.specs.Runs.{Carried, Carries, CarriesAll, Sent}
use Rattle.procedure.specs.Streams.{IsBegun}
use Rattle.calcdb.specs.declared.commands.Command.{Command}
use Rattle.calcdb.specs.declared.faults.Fault.{Fault}
use Rattle.calcdb.specs.declared.faults.Fault.TheVariants as fault

-- THE LOG GROWS

-- the catalog and the opening stay, and the log goes on
pub record Continues (old new : CoreView) : Type 0 where
  pub catalog : new.catalog ≡ old.catalog
  pub opening : new.opening ≡ old.opening
  pub more : List Record
  pub log : new.log ≡ old.log ++ more

stays : (old new : CoreView) → new.catalog ≡ old.catalog → new.opening ≡ old.opening → new.log ≡ old.log → Continues old new
stays old new c o l = record { catalog = c; opening = o; more = []; log = l ∙ sym (append-nil old.log) }

same_core : (old new : CoreView) → new ≡ old → Continues old new
same_core old new e = stays old new (ap (λ (v : CoreView). v.catalog) e) (ap (λ (v : CoreView). v.opening) e) (ap (λ (v : CoreView). v.log) e)

-- a token more, whatever becomes of the checkpoint
token_more : (old new mid : CoreView) (r : Record) → new ≡ mid → mid.catalog ≡ old.catalog → mid.opening ≡ old.opening → mid.log ≡ old.log ++ r ∷ [] → Continues old new
token_more old new mid r e c o l =
    record { catalog = ap (λ (v : CoreView). v.catalog) e ∙ c; opening = ap (λ (v : CoreView). v.opening) e ∙ o; more = r ∷ []; log = ap (λ (v : CoreView). v.log) e ∙ l }

same_parts : (old new mid : CoreView) → new ≡ mid → mid.catalog ≡ old.catalog → mid.opening ≡ old.opening → mid.log ≡ old.log → Continues old new
same_parts old new mid e c o l = stays old new (ap (λ (v : CoreView). v.catalog) e ∙ c) (ap (λ (v : CoreView). v.opening) e ∙ o) (ap (λ (v : CoreView). v.log) e ∙ l)

pub continues_twice : (old mid new : CoreView) → Continues old mid → Continues mid new → Continues old new
continues_twice old mid new h k = record {
  catalog = k.catalog ∙ h.catalog;
  opening = k.opening ∙ h.opening;
  more = h.more ++ k.more;
  log = k.log ∙ ap (λ (l : List Record). l ++ k.more) h.log ∙ append_assoc old.log h.more k.more;
}

begin_on : (old new : CoreView) (s n p : ℕ) (args : List Bytes) (r : Result (Unit {0}) BeginError) → BeginsAs old new s n p args r → Continues old new
begin_on old new s n p args (Ok x) h = same_parts old new _ h.begun refl refl refl
begin_on old new s n p args (Err e) h = same_core old new h.refused

step_open : (old new : CoreView) (s : ℕ) (o : Option Underway) → open_at old s ≡ o → OfOpen old s (Steps old new s) → unstepped old s (open_at old s) ≡ None → Continues old new
step_open old new s None is h k = let bad = rw is at k in absurd (cc)
step_open old new s (Some c) is h k = stays old new (h c is).same.catalog (h c is).same.opening (h c is).log

step_on : (old new : CoreView) (s : ℕ) (r : Result Stepped StepError) → StepsAs old new s r → Continues old new
step_on old new s (Ok x) h = step_open old new s (open_at old s) refl h.stepped h.refusal
step_on old new s (Err e) h = same_core old new h.refused

finish_open : (old new : CoreView) (s : ℕ) (o : Option Underway) → open_at old s ≡ o → OfOpen old s (Finishes old new s) → unfinished old (open_at old s) ≡ None → Continues old new
finish_open old new s None is h k = let bad = rw is at k in absurd (cc)
finish_open old new s (Some c) is h k = record { catalog = (h c is).same.catalog; opening = (h c is).same.opening; more = answer_of old s c ∷ []; log = (h c is).log }

give_up_on : (old new : CoreView) (s : ℕ) (r : Result (Unit {0}) NotActive) → GivesUpAs old new s r → Continues old new
give_up_on old new s (Ok x) h = stays old new h.given_up.same.catalog h.given_up.same.opening h.given_up.log
give_up_on old new s (Err e) h = same_core old new h.refused

start_on : (old new : CoreView) (k : Kind) (r : Result ℕ StartError) → StartsAs old new k r → Continues old new
start_on old new k (Ok x) h = token_more old new _ _ h.started refl refl refl
start_on old new k (Err e) h = same_core old new h.refused

completed_on : (way : Way) (old new : CoreView) → CompletesBy way old new → Continues old new
completed_on Whole old new h = token_more old new _ _ h.2 refl refl refl
completed_on Streamed old new h = token_more old new _ _ h.2 refl refl refl

advanced_on : (p : Phase) (old new : CoreView) → AdvancesTo p old new → Continues old new
advanced_on Prepare old new h = absurd h
advanced_on Resolve old new h = token_more old new _ _ h refl refl refl
advanced_on Capture old new h = token_more old new _ _ h.2 refl refl refl
advanced_on Complete old new h = completed_on old.checkpoint.way old new h
advanced_on Rest old new h = token_more old new _ _ h refl refl refl

advance_on : (old new : CoreView) (r : Result Phase AdvanceError) → AdvancesAs old new r → Continues old new
advance_on old new (Ok p) h = advanced_on p old new h.advanced
advance_on old new (Err e) h = same_core old new h.refused

captured_on : (x : Captured) (old new : CoreView) → CapturesAs x old new → Continues old new
captured_on Slot old new h = same_parts old new _ h.rest refl refl refl
captured_on Done old new h = same_parts old new _ h.1 refl refl refl

capture_on : (old new : CoreView) (r : Result Captured CaptureError) → VisitsAs old new r → Continues old new
capture_on old new (Ok x) h = captured_on x old new h.captured
capture_on old new (Err e) h = same_core old new h.refused

abandon_on : (old new : CoreView) (r : Result ℕ AbandonError) → AbandonsAs old new r → Continues old new
abandon_on old new (Ok x) h = token_more old new _ _ h.abandoned refl refl refl
abandon_on old new (Err e) h = same_core old new h.refused

module _ {A : Type 0} where
  finish_on : (old new : CoreView) (s : ℕ) (r : Result (Answer A) FinishError) → FinishesAs old new s r → Continues old new
  finish_on old new s (Ok x) h = finish_open old new s (open_at old s) refl h.finished h.refusal
  finish_on old new s (Err e) h = same_core old new h.refused

  event_on : (e : Event A) (old new : CoreView) (x : Handled A) → Handles e old new x → Continues old new
  event_on (event.Begin s n p args) old new x (r, is, h) = begin_on old new s n p _ r h
  event_on (event.Step s) old new x (r, is, h) = step_on old new s r h
  event_on (event.Finish s) old new x (r, is, h) = finish_on old new s r h
  event_on (event.GiveUp s) old new x (r, is, h) = give_up_on old new s r h
  event_on (event.Start k) old new x (r, is, h) = start_on old new k r h
  event_on event.Advance old new x (r, is, h) = advance_on old new r h
  event_on event.Capture old new x (r, is, h) = capture_on old new r h
  event_on event.TakeImage old new x (i, is, h) = same_parts old new _ h.taken refl refl refl
  event_on event.Reclaim old new x (key, is, h) = same_parts old new _ h.reclaimed.rest refl refl refl
  event_on event.Abandon old new x (r, is, h) = abandon_on old new r h

  events_on : (es : List (Event A)) (old new : CoreView) (rs : List (Handled A)) → HandlesAll es old new rs → Continues old new
  events_on [] old new [] h = same_core old new (sym h)
  events_on [] old new (r ∷ rs) h = absurd h
  events_on (e ∷ es) old new [] h = absurd h
  events_on (e ∷ es) old new (r ∷ rs) (mid, h, k) = continues_twice old mid new (event_on e old mid r h) (events_on es mid new rs k)

  -- ONE AFTER ANOTHER

  pub handled_on : (es fs : List (Event A)) (old mid new : CoreView) (rs qs : List (Handled A)) → HandlesAll es old mid rs → HandlesAll fs mid new qs → HandlesAll (es ++ fs) old new (rs ++ qs)
  handled_on [] fs old mid new [] qs h k = subst (λ v. HandlesAll fs v new qs) (sym h) k
  handled_on [] fs old mid new (r ∷ rs) qs h k = absurd h
  handled_on (e ∷ es) fs old mid new [] qs h k = absurd h
  handled_on (e ∷ es) fs old mid new (r ∷ rs) qs (v, h, t) k = (v, h, handled_on es fs v mid new rs qs t k)

  carries_more : (catalog : List Procedure) (cs : List (Command (List Bytes))) (c : Command (List Bytes)) (es fs : List (Event A)) (rs qs : List (Handled A)) (t u : Bytes) →
      CarriesAll catalog cs es rs t → Carries catalog c fs qs u → CarriesAll catalog (cs ++ c ∷ []) (es ++ fs) (rs ++ qs) (t ++ u)
  carries_more catalog [] c es fs rs qs t u (no_events, no_replies, no_text) h = (
    fs,
    [],
    qs,
    [],
    u,
    [],
    ap (λ (l : List (Event A)). l ++ fs) no_events ∙ sym (append-nil fs),
    ap (λ (l : List (Handled A)). l ++ qs) no_replies ∙ sym (append-nil qs),
    ap (λ (l : Bytes). l ++ u) no_text ∙ sym (append-nil u),
    h,
    (refl, refl, refl),
  )
  carries_more catalog (d ∷ cs) c es fs rs qs t u (es1, es2, rs1, rs2, t1, t2, is_es, is_rs, is_t, first, others) h = (
    es1,
    es2 ++ fs,
    rs1,
    rs2 ++ qs,
    t1,
    t2 ++ u,
    ap (λ (l : List (Event A)). l ++ fs) is_es ∙ append_assoc es1 es2 fs,
    ap (λ (l : List (Handled A)). l ++ qs) is_rs ∙ append_assoc rs1 rs2 qs,
    ap (λ (l : Bytes). l ++ u) is_t ∙ append_assoc t1 t2 u,
    first,
    carries_more catalog cs c es2 fs rs2 qs t2 u others h,
  )

  pub carried_on : (P : List (Event A) → List (Handled A) → Bytes → Type 0) (old new : CoreView) (text : Bytes) (images : List Image) → Carried {A = A} P old new text images → Continues old new
  carried_on P old new text images c = events_on c.events old new c.each c.handled

  pub carried_none : (catalog : List Procedure) (v : CoreView) → Carried {A = A} (CarriesAll catalog []) v v [] []
  carried_none catalog v = record { events = []; each = []; handled = refl; says = (refl, refl, refl); taken = refl }

  images_on : (rs qs : List (Handled A)) → images_in rs ++ images_in qs ≡ images_in (rs ++ qs)
  images_on [] qs = refl
  images_on (r ∷ rs) qs = append_assoc (image_in r) (images_in rs) (images_in qs) ∙ ap (λ (l : List Image). image_in r ++ l) (images_on rs qs)

  pub carried_more : (catalog : List Procedure) (cs : List (Command (List Bytes))) (c : Command (List Bytes)) (old mid new : CoreView) (t u : Bytes) (is js : List Image) →
      Carried {A = A} (CarriesAll catalog cs) old mid t is → Carried {A = A} (Carries catalog c) mid new u js → Carried {A = A} (CarriesAll catalog (cs ++ c ∷ [])) old new (t ++ u) (is ++ js)
  carried_more catalog cs c old mid new t u is js h k = record {
    events = h.events ++ k.events;
    each = h.each ++ k.each;
    handled = handled_on h.events k.events old mid new h.each k.each h.handled k.handled;
    says = carries_more catalog cs c h.events k.events h.each k.each t u h.says k.says;
    taken = rw (h.taken, k.taken) (images_on h.each k.each);
  }

-- behind what went out whole
begun_after : (old mid new : Option Bytes) (t u : Bytes) → Appends old mid t → IsBegun mid new u → IsBegun old new (t ++ u)
begun_after old mid new t u h (out, left, parts, more) = (t ++ out, left, ap (λ (l : Bytes). t ++ l) parts ∙ sym (append_assoc t out left), Appends-trans old mid new t out h more)

pub sent_after : (f : Fault) (old mid new : Option Bytes) (t u : Bytes) → Appends old mid t → Sent (Err f) mid new u → Sent (Err f) old new (t ++ u)
sent_after fault.Write old mid new t u h k = begun_after old mid new t u h k
sent_after fault.NoMemory old mid new t u h k = begun_after old mid new t u h k
sent_after fault.Read old mid new t u h k = absurd k
sent_after (fault.Line n) old mid new t u h k = absurd k
sent_after fault.Size old mid new t u h k = absurd k
sent_after (fault.Refused r) old mid new t u h k = absurd k

pub length-of-cons : {X : Type 0} (xs : List X) (x : X) (ys : List X) → xs ≡ x ∷ ys → length xs ≡ length ys + 1
length-of-cons xs x ys is = let k : length xs ≡ suc (length ys) = ap (λ l. length l) is in omega (arith, k)
