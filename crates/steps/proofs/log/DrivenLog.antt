-- What a schedule's answers say of the log.
use Rattle.std.proofs.Common.{◌≡◌, ◌+◌, arith, cond, count_by, option_to_list, ℕ, zero, suc, Bool, true, false, is_some, IfSome, List, [], ◌∷◌, ◌++◌, length, map, Option, Some, None}
use Rattle.std.proofs.Common.{Ok, Err, is_ok, option_map, replicate, slice_get, slice_set, slice_index_or, refl, sym, ap, ◌∙◌, subst}
use Rattle.std.specs.declared.result.Result.{Result}
use Rattle.std.proofs.lemmas.List.{append-nil, append_assoc, length-append, map-append, map-set, set-get_or}
use Rattle.std.proofs.lemmas.List.Sums.{sum_by-cons}
use Rattle.std.proofs.Math.ListN.{get_or-map}
use Rattle.procedure.specs.Bytes.{Bytes}
use Rattle.procedure.specs.declared.limits.TheConstants.{SESSIONS}
use Rattle.phase.specs.declared.phases.Phase.{Phase}
use Rattle.phase.specs.declared.phases.Phase.TheVariants.{Rest, Prepare, Resolve, Capture, Complete}
use Rattle.commitlog.specs.Histories.{number_of}
use Rattle.commitlog.specs.Records.{Record, Token, Call}
use Rattle.image.specs.Images.{Image}
use Rattle.image.specs.Merges.{table_of}
use Rattle.image.specs.declared.images.Kind.{Kind}
use Rattle.steps.specs.CoreViews.{CoreView, Finishes, AnswersCall, Underway, front_of, one_more, open_at, Begun}
use Rattle.steps.specs.Drives.{EachStands, calls_of}
use Rattle.steps.specs.Refusals.{finish_refusal, step_refusal, unfinished, unstepped}
use Rattle.steps.specs.Checkpointing.{AdvancesTo, CapturesAs, CompletesBy, restarted}
use Rattle.steps.specs.CutImages.{AllTaken, IsTaken}
use Rattle.steps.specs.Schedules.{AbandonsAs, AdvancesAs, BeginsAs, FinishesAs, GivesUpAs, Handles, HandlesAll, HandlesWith, ReclaimsAs, StartsAs, StepsAs, TakesImage, VisitsAs, answer_to}
use Rattle.steps.specs.Schedules.{answered_call, answered_calls, begun_by, image_in, images_in, is_accepted, is_taken, replies_in}
use Rattle.steps.specs.declared.captures.Captured.{Captured}
use Rattle.steps.specs.declared.checkpoints.Way.{Way}
use Rattle.steps.specs.declared.checkpoints.Way.TheVariants.{Streamed, Whole}
use Rattle.steps.specs.declared.captures.Captured.TheVariants.{Slot, Done}
use Rattle.steps.specs.declared.errors.FinishError.{FinishError}
use Rattle.steps.specs.declared.finish.Answer.{Answer}
use Rattle.steps.specs.declared.schedules.Event.{Event}
use Rattle.steps.specs.declared.schedules.Event.TheVariants as event
use Rattle.steps.specs.declared.schedules.Handled.{Handled}
use Rattle.steps.specs.declared.schedules.Reply.{Reply}
use Rattle.steps.specs.declared.schedules.Reply.TheVariants as reply
use Rattle.steps.proofs.log.ImageChains.{all_taken-grows}
use Rattle.steps.proofs.log.SchedulePromises.{calls_of-append}
use Rattle.steps.proofs.views.OpenedCore.{map-replicate}

-- what a session's open call was begun with
abbrev begun_of : Underway → Begun
begun_of c = record { number = c.number; procedure = c.procedure; args = c.args }

abbrev pub begun_in : CoreView → List (Option Begun)
begun_in v = map (option_map begun_of) v.calls

-- a call that isn't refused is open
pub open_step : (v : CoreView) (s : ℕ) → step_refusal v s ≡ None → (c : Underway) × (open_at v s ≡ Some c)
open_step v s e = by (open_at v s) refl e
  where
    by : (o : Option Underway) → open_at v s ≡ o → unstepped v s o ≡ None → (c : Underway) × (open_at v s ≡ Some c)
    by None f e = absurd (cc)
    by (Some c) f e = (c, f)

pub open_finish : (v : CoreView) (s : ℕ) → finish_refusal v s ≡ None → (c : Underway) × (open_at v s ≡ Some c)
open_finish v s e = by (open_at v s) refl e
  where
    by : (o : Option Underway) → open_at v s ≡ o → unfinished v o ≡ None → (c : Underway) × (open_at v s ≡ Some c)
    by None f e = absurd (cc)
    by (Some c) f e = (c, f)

begun_set : (old new : CoreView) (s : ℕ) (o : Option Underway) → new.calls ≡ slice_set old.calls s o → begun_in new ≡ slice_set (begun_in old) s (option_map begun_of o)
begun_set old new s o e = ap (map (option_map begun_of)) e ∙ map-set (option_map begun_of) old.calls s o

begun_at : (v : CoreView) (s : ℕ) (c : Underway) → open_at v s ≡ Some c → slice_index_or (begun_in v) s None ≡ Some (begun_of c)
begun_at v s c e = get_or-map (option_map begun_of) v.calls s None ∙ ap (option_map begun_of) e

-- an instruction more leaves what was begun
begun_stays : (old new : CoreView) (s : ℕ) (c : Underway) → open_at old s ≡ Some c → new.calls ≡ slice_set old.calls s (Some (one_more c)) → begun_in new ≡ begun_in old
begun_stays old new s c is e =
    begun_set old new s (Some (one_more c)) e ∙ ap (slice_set (begun_in old) s) (sym (begun_at old s c is)) ∙ set-get_or (begun_in old) s None

-- ONE EVENT

-- the log grows by what is answered, which stands at its place, and by tokens
pub record Grows (old new : CoreView) (b : List (Option Begun)) (l : List (ℕ × Record)) : Type 0 where
  pub catalog : new.catalog ≡ old.catalog
  pub opening : new.opening ≡ old.opening
  pub more : List Record
  pub log : new.log ≡ old.log ++ more
  pub calls : calls_of more ≡ map (λ x. x.1) l
  pub begun : begun_in new ≡ b
  pub stands : EachStands new.log l

stays : (old new : CoreView) (b : List (Option Begun)) → new.catalog ≡ old.catalog → new.opening ≡ old.opening → new.log ≡ old.log → begun_in new ≡ b → Grows old new b []
stays old new b c o e f = record { catalog = c; opening = o; more = []; log = e ∙ sym (append-nil old.log); calls = refl; begun = f; stands = tt }

same : (old new : CoreView) → new ≡ old → Grows old new (begun_in old) []
same old new e = stays old new (begun_in old) (ap (λ (v : CoreView). v.catalog) e) (ap (λ (v : CoreView). v.opening) e) (ap (λ (v : CoreView). v.log) e) (ap begun_in e)

-- a token more
token_more :
    (old new : CoreView) (p : Phase) (n : ℕ) → new.catalog ≡ old.catalog → new.opening ≡ old.opening → new.log ≡ old.log ++ Token p n ∷ [] → begun_in new ≡ begun_in old →
    Grows old new (begun_in old) []
token_more old new p n c o e f = record { catalog = c; opening = o; more = Token p n ∷ []; log = e; calls = refl; begun = f; stands = tt }

at_end : {X : Type 0} (l : List X) (x : X) → slice_get (l ++ x ∷ []) (length l) ≡ Some x
at_end [] x = refl
at_end (y ∷ l) x = at_end l x

get_front : {X : Type 0} (l m : List X) (i : ℕ) (x : X) → slice_get l i ≡ Some x → slice_get (l ++ m) i ≡ Some x
get_front [] m i x e = absurd (cc)
get_front (y ∷ l) m zero x e = e
get_front (y ∷ l) m (suc i) x e = get_front l m i x e

stand_on : (log more : List Record) (l : List (ℕ × Record)) → EachStands log l → EachStands (log ++ more) l
stand_on log more [] h = tt
stand_on log more ((i, r) ∷ l) h = (get_front log more i r h.0, stand_on log more l h.1)

stand_both : (log : List Record) (l m : List (ℕ × Record)) → EachStands log l → EachStands log m → EachStands log (l ++ m)
stand_both log [] m h k = k
stand_both log ((i, r) ∷ l) m h k = (h.0, stand_both log l m h.1 k)

abbrev second : ℕ × Record → Record
second x = x.1

record GrowsBy (old new : CoreView) (l : List (ℕ × Record)) : Type 0 where
  catalog : new.catalog ≡ old.catalog
  opening : new.opening ≡ old.opening
  more : List Record
  log : new.log ≡ old.log ++ more
  calls : calls_of more ≡ map second l
  stands : EachStands new.log l

joined : (old between new : CoreView) (b : List (Option Begun)) (l m : List (ℕ × Record)) → Grows old between b l → GrowsBy between new m → GrowsBy old new (l ++ m)
joined old between new b l m h g = record {
  catalog = g.catalog ∙ h.catalog;
  opening = g.opening ∙ h.opening;
  more = h.more ++ g.more;
  log = g.log ∙ ap (λ k. k ++ g.more) h.log ∙ append_assoc old.log h.more g.more;
  calls = calls_of-append h.more g.more ∙ ap (λ k. k ++ calls_of g.more) h.calls ∙ ap (λ k. map second l ++ k) g.calls ∙ sym (map-append second l m);
  stands = stand_both new.log l m (subst (λ k. EachStands k l) (sym g.log) (stand_on between.log g.more l h.stands)) g.stands;
}

nothing_begun : (v : CoreView) → v.calls ≡ replicate SESSIONS None → begun_in v ≡ replicate SESSIONS None
nothing_begun v e = ap (map (option_map begun_of)) e ∙ map-replicate (option_map begun_of) SESSIONS None

step_handled : (B : Type 0) (s : ℕ) (old new : CoreView) (r : Result _ _) → StepsAs old new s r → Grows old new (begun_by {A = B} (event.Step s) (is_ok r) (begun_in old)) []
step_handled B s old new (Ok x) h =
    let there = open_step old s h.refusal in
    let went = h.stepped there.0 there.1 in
    stays old new (begun_in old) went.same.catalog went.same.opening went.log (begun_stays old new s there.0 there.1 went.same.calls)
step_handled B s old new (Err x) h = same old new h.refused

give_up_handled : (B : Type 0) (s : ℕ) (old new : CoreView) (r : Result (Unit {0}) _) → GivesUpAs old new s r → Grows old new (begun_by {A = B} (event.GiveUp s) (is_ok r) (begun_in old)) []
give_up_handled B s old new (Ok x) h =
    stays old new (begun_by {A = B} (event.GiveUp s) true (begun_in old)) h.given_up.same.catalog h.given_up.same.opening h.given_up.log (begun_set old new s None h.given_up.same.calls)
give_up_handled B s old new (Err x) h = same old new h.refused

start_handled : (B : Type 0) (k : Kind) (old new : CoreView) (r : Result ℕ _) → StartsAs old new k r → Grows old new (begun_by {A = B} (event.Start k) (is_ok r) (begun_in old)) []
start_handled B k old new (Ok x) h =
    token_more old new Prepare (suc (number_of old.log)) (ap (λ (v : CoreView). v.catalog) h.started) (ap (λ (v : CoreView). v.opening) h.started) (ap (λ (v : CoreView). v.log) h.started)
    (ap begun_in h.started)
start_handled B k old new (Err x) h = same old new h.refused

completed_by : (way : Way) (old new : CoreView) → CompletesBy way old new → Grows old new (begun_in old) []
completed_by Whole old new h =
    let e = h.2 in token_more old new Complete (number_of old.log) (ap (λ (v : CoreView). v.catalog) e) (ap (λ (v : CoreView). v.opening) e) (ap (λ (v : CoreView). v.log) e) (ap begun_in e)
completed_by Streamed old new h =
    let e = h.2 in token_more old new Complete (number_of old.log) (ap (λ (v : CoreView). v.catalog) e) (ap (λ (v : CoreView). v.opening) e) (ap (λ (v : CoreView). v.log) e) (ap begun_in e)

-- what a change of phase leaves
advanced_to : (p : Phase) (old new : CoreView) → AdvancesTo p old new → Grows old new (begun_in old) []
advanced_to Prepare old new h = absurd h
advanced_to Resolve old new h =
    token_more old new Resolve (number_of old.log) (ap (λ (v : CoreView). v.catalog) h) (ap (λ (v : CoreView). v.opening) h) (ap (λ (v : CoreView). v.log) h) (ap begun_in h)
advanced_to Capture old new h =
    let e = h.2 in token_more old new Capture (number_of old.log) (ap (λ (v : CoreView). v.catalog) e) (ap (λ (v : CoreView). v.opening) e) (ap (λ (v : CoreView). v.log) e) (ap begun_in e)
advanced_to Complete old new h = completed_by old.checkpoint.way old new h
advanced_to Rest old new h =
    token_more old new Rest (number_of old.log) (ap (λ (v : CoreView). v.catalog) h) (ap (λ (v : CoreView). v.opening) h) (ap (λ (v : CoreView). v.log) h) (ap begun_in h)

advance_handled : (B : Type 0) (old new : CoreView) (r : Result Phase _) → AdvancesAs old new r → Grows old new (begun_by {A = B} event.Advance (is_ok r) (begun_in old)) []
advance_handled B old new (Ok p) h = advanced_to p old new h.advanced
advance_handled B old new (Err x) h = same old new h.refused

captured_as : (x : Captured) (old new : CoreView) → CapturesAs x old new → Grows old new (begun_in old) []
captured_as Slot old new h = stays old new (begun_in old) (ap (λ (v : CoreView). v.catalog) h.rest) (ap (λ (v : CoreView). v.opening) h.rest) (ap (λ (v : CoreView). v.log) h.rest) (ap begun_in h.rest)
captured_as Done old new h = same old new h.1

capture_handled : (B : Type 0) (old new : CoreView) (r : Result Captured _) → VisitsAs old new r → Grows old new (begun_by {A = B} event.Capture (is_ok r) (begun_in old)) []
capture_handled B old new (Ok x) h = captured_as x old new h.captured
capture_handled B old new (Err x) h = same old new h.refused

restarted_begun : (l : List (Option Underway)) → map (option_map begun_of) (map (option_map restarted) l) ≡ map (option_map begun_of) l
restarted_begun [] = refl
restarted_begun (None ∷ l) = ap (λ (k : List (Option Begun)). None ∷ k) (restarted_begun l)
restarted_begun (Some c ∷ l) = ap (λ (k : List (Option Begun)). Some (begun_of c) ∷ k) (restarted_begun l)

abandon_handled : (B : Type 0) (old new : CoreView) (r : Result ℕ _) → AbandonsAs old new r → Grows old new (begun_by {A = B} event.Abandon (is_ok r) (begun_in old)) []
abandon_handled B old new (Ok x) h =
    token_more old new Rest (number_of old.log) (ap (λ (v : CoreView). v.catalog) h.abandoned) (ap (λ (v : CoreView). v.opening) h.abandoned) (ap (λ (v : CoreView). v.log) h.abandoned)
    (ap begun_in h.abandoned ∙ restarted_begun old.calls)
abandon_handled B old new (Err x) h = same old new h.refused

take_handled : (B : Type 0) (old new : CoreView) (i : Option Image) → TakesImage old new i → Grows old new (begun_by {A = B} event.TakeImage (is_some i) (begun_in old)) []
take_handled B old new i h = by (is_some i)
  where
    by : (b : Bool) → Grows old new (begun_by {A = B} event.TakeImage b (begun_in old)) []
    by true = stays old new (begun_in old) (ap (λ (v : CoreView). v.catalog) h.taken) (ap (λ (v : CoreView). v.opening) h.taken) (ap (λ (v : CoreView). v.log) h.taken) (ap begun_in h.taken)
    by false = stays old new (begun_in old) (ap (λ (v : CoreView). v.catalog) h.taken) (ap (λ (v : CoreView). v.opening) h.taken) (ap (λ (v : CoreView). v.log) h.taken) (ap begun_in h.taken)

reclaim_handled : (B : Type 0) (old new : CoreView) (gone : Option Bytes) → ReclaimsAs old new gone → Grows old new (begun_by {A = B} event.Reclaim (is_some gone) (begun_in old)) []
reclaim_handled B old new gone h = by (is_some gone)
  where
    by : (b : Bool) → Grows old new (begun_by {A = B} event.Reclaim b (begun_in old)) []
    by true =
        stays old new (begun_in old) (ap (λ (v : CoreView). v.catalog) h.reclaimed.rest) (ap (λ (v : CoreView). v.opening) h.reclaimed.rest) (ap (λ (v : CoreView). v.log) h.reclaimed.rest)
        (ap begun_in h.reclaimed.rest)
    by false =
        stays old new (begun_in old) (ap (λ (v : CoreView). v.catalog) h.reclaimed.rest) (ap (λ (v : CoreView). v.opening) h.reclaimed.rest) (ap (λ (v : CoreView). v.log) h.reclaimed.rest)
        (ap begun_in h.reclaimed.rest)

-- THE IMAGES OF A VIEW

abbrev Taken : CoreView → List Image → Type 0
Taken v is = AllTaken v.catalog (table_of v.opening) v.log is

taken_both : (v : CoreView) (is js : List Image) → Taken v is → Taken v js → Taken v (is ++ js)
taken_both v [] js x y = y
taken_both v (i ∷ is) js x y = (x.0, taken_both v is js x.1 y)

-- an image that was taken stays that of its cut, as the log grows
grown : (old new : CoreView) (l : List (ℕ × Record)) (is : List Image) → GrowsBy old new l → Taken old is → Taken new is
grown old new l is g x =
    subst (λ c. AllTaken c (table_of new.opening) new.log is) (sym g.catalog)
    (subst (λ (o : Image). AllTaken old.catalog (table_of o) new.log is) (sym g.opening)
    (subst (λ h. AllTaken old.catalog (table_of old.opening) h is) (sym g.log) (all_taken-grows old.catalog (table_of old.opening) old.log g.more is x)))

begin_handled :
    (A : Type 0) (s n p : ℕ) (args : List Bytes) (old new : CoreView) (r : Result (Unit {0}) _) → BeginsAs old new s n p args r →
    Grows old new (begun_by {A = A} (event.Begin s n p args) (is_ok r) (begun_in old)) []
begin_handled A s n p args old new (Ok x) h =
    stays old new (begun_by {A = A} (event.Begin s n p args) true (begun_in old)) (ap (λ (v : CoreView). v.catalog) h.begun) (ap (λ (v : CoreView). v.opening) h.begun)
    (ap (λ (v : CoreView). v.log) h.begun) (ap begun_in h.begun ∙ map-set (option_map begun_of) old.calls s _)
begin_handled A s n p args old new (Err x) h = same old new h.refused

module _ {A : Type 0} where
  answered_log :
      (s : ℕ) (old new : CoreView) (c : Underway) (a : Answer A) → Finishes old new s c → AnswersCall old c a.place a.outcome a.replies →
      new.log ≡ old.log ++ Call s c.number c.procedure c.args a.outcome a.replies ∷ []
  answered_log s old new c a h is =
      h.log ∙ ap (λ o. old.log ++ Call s c.number c.procedure c.args o (front_of old c).replies ∷ []) (sym is.1) ∙ ap (λ r. old.log ++ Call s c.number c.procedure c.args a.outcome r ∷ []) (sym is.2)

  finish_handled :
      (s : ℕ) (old new : CoreView) (r : Result (Answer A) FinishError) → FinishesAs old new s r →
      Grows old new (begun_by {A = A} (event.Finish s) (is_ok r) (begun_in old)) (answer_to (event.Finish s) (reply.Finish r) (begun_in old))
  finish_handled s old new (Ok a) h =
      let there = open_finish old s h.refusal in
      let c = there.0 in
      let log = answered_log s old new c a (h.finished c there.1) (h.answer c there.1) in
      let r = Call s c.number c.procedure c.args a.outcome a.replies in
      subst (λ (b : Option Begun). Grows old new (slice_set (begun_in old) s None) (answered_call s b a)) (sym (begun_at old s c there.1))
      (record {
        catalog = (h.finished c there.1).same.catalog;
        opening = (h.finished c there.1).same.opening;
        more = r ∷ [];
        log = log;
        calls = refl;
        begun = begun_set old new s None (h.finished c there.1).same.calls;
        stands = (ap (λ l. slice_get l a.place) log ∙ ap (slice_get (old.log ++ r ∷ [])) (h.answer c there.1).0 ∙ at_end old.log r, tt);
      })
  finish_handled s old new (Err x) h = same old new h.refused

  handled : (e : Event A) (old new : CoreView) (r : Handled A) → Handles e old new r → Grows old new (begun_by e (is_accepted r.reply) (begun_in old)) (answer_to e r.reply (begun_in old))
  handled (event.Begin s n p args) old new r h =
      subst (λ (x : Handled A). Grows old new (begun_by {A = A} (event.Begin s n p args) (is_accepted x.reply) (begun_in old)) []) (sym h.1) (begin_handled A s n p args old new h.0 h.2)
  handled (event.Step s) old new r h = subst (λ (x : Handled A). Grows old new (begun_by {A = A} (event.Step s) (is_accepted x.reply) (begun_in old)) []) (sym h.1) (step_handled A s old new h.0 h.2)
  handled (event.Finish s) old new r h =
      subst (λ (x : Handled A). Grows old new (begun_by {A = A} (event.Finish s) (is_accepted x.reply) (begun_in old)) (answer_to (event.Finish s) x.reply (begun_in old))) (sym h.1)
      (finish_handled s old new h.0 h.2)
  handled (event.GiveUp s) old new r h =
      subst (λ (x : Handled A). Grows old new (begun_by {A = A} (event.GiveUp s) (is_accepted x.reply) (begun_in old)) []) (sym h.1)
      (give_up_handled A s old new h.0 h.2)
  handled (event.Start k) old new r h =
      subst (λ (x : Handled A). Grows old new (begun_by {A = A} (event.Start k) (is_accepted x.reply) (begun_in old)) []) (sym h.1)
      (start_handled A k old new h.0 h.2)
  handled event.Advance old new r h = subst (λ (x : Handled A). Grows old new (begun_by {A = A} event.Advance (is_accepted x.reply) (begun_in old)) []) (sym h.1) (advance_handled A old new h.0 h.2)
  handled event.Capture old new r h = subst (λ (x : Handled A). Grows old new (begun_by {A = A} event.Capture (is_accepted x.reply) (begun_in old)) []) (sym h.1) (capture_handled A old new h.0 h.2)
  handled event.TakeImage old new r h = subst (λ (x : Handled A). Grows old new (begun_by {A = A} event.TakeImage (is_accepted x.reply) (begun_in old)) []) (sym h.1) (take_handled A old new h.0 h.2)
  handled event.Reclaim old new r h = subst (λ (x : Handled A). Grows old new (begun_by {A = A} event.Reclaim (is_accepted x.reply) (begun_in old)) []) (sym h.1) (reclaim_handled A old new h.0 h.2)
  handled event.Abandon old new r h = subst (λ (x : Handled A). Grows old new (begun_by {A = A} event.Abandon (is_accepted x.reply) (begun_in old)) []) (sym h.1) (abandon_handled A old new h.0 h.2)

  -- ALL OF THEM

  all_handled : (es : List (Event A)) (hs : List (Handled A)) (old new : CoreView) → HandlesAll es old new hs → GrowsBy old new (answered_calls es (replies_in hs) (begun_in old))
  all_handled [] [] old new h = record {
    catalog = ap (λ (v : CoreView). v.catalog) (sym h);
    opening = ap (λ (v : CoreView). v.opening) (sym h);
    more = [];
    log = ap (λ (v : CoreView). v.log) (sym h) ∙ sym (append-nil old.log);
    calls = refl;
    stands = tt;
  }
  all_handled [] (x ∷ hs) old new h = absurd h
  all_handled (e ∷ es) [] old new h = absurd h
  all_handled (e ∷ es) (x ∷ hs) old new h =
      let r : Reply A = x.reply in
      let rs : List (Reply A) = replies_in hs in
      let g = handled e old h.0 x h.1 in
      let rest = subst (λ b. GrowsBy h.0 new (answered_calls es rs b)) g.begun (all_handled es hs h.0 new h.2) in
      joined old h.0 new (begun_by e (is_accepted r) (begun_in old)) (answer_to e r (begun_in old)) (answered_calls es rs (begun_by e (is_accepted r) (begun_in old))) g rest

  -- THE IMAGES

  taken_here : (e : Event A) (old new : CoreView) (x : Handled A) → Handles e old new x → Taken old (image_in x)
  taken_here (event.Begin s n p args) old new x h = subst (λ (y : Handled A). Taken old (image_in y)) (sym h.1) tt
  taken_here (event.Step s) old new x h = subst (λ (y : Handled A). Taken old (image_in y)) (sym h.1) tt
  taken_here (event.Finish s) old new x h = subst (λ (y : Handled A). Taken old (image_in y)) (sym h.1) tt
  taken_here (event.GiveUp s) old new x h = subst (λ (y : Handled A). Taken old (image_in y)) (sym h.1) tt
  taken_here (event.Start k) old new x h = subst (λ (y : Handled A). Taken old (image_in y)) (sym h.1) tt
  taken_here event.Advance old new x h = subst (λ (y : Handled A). Taken old (image_in y)) (sym h.1) tt
  taken_here event.Capture old new x h = subst (λ (y : Handled A). Taken old (image_in y)) (sym h.1) tt
  taken_here event.TakeImage old new x h = subst (λ (y : Handled A). Taken old (image_in y)) (sym h.1) (by h.0 h.2.cut)
    where
      by : (i : Option Image) → IfSome i (λ i. IsTaken old.catalog (table_of old.opening) old.log i) → Taken old (option_to_list i)
      by None x = tt
      by (Some i) x = (x, tt)
  taken_here event.Reclaim old new x h = subst (λ (y : Handled A). Taken old (image_in y)) (sym h.1) tt
  taken_here event.Abandon old new x h = subst (λ (y : Handled A). Taken old (image_in y)) (sym h.1) tt

  pub images_taken : (es : List (Event A)) (hs : List (Handled A)) (old new : CoreView) → HandlesAll es old new hs → Taken new (images_in hs)
  images_taken [] [] old new h = tt
  images_taken [] (x ∷ hs) old new h = absurd h
  images_taken (e ∷ es) [] old new h = absurd h
  images_taken (e ∷ es) (x ∷ hs) old new h =
      taken_both new (image_in x) (images_in hs)
      (grown old new (answered_calls (e ∷ es) (replies_in (x ∷ hs)) (begun_in old)) (image_in x) (all_handled (e ∷ es) (x ∷ hs) old new h) (taken_here e old h.0 x h.1))
      (images_taken es hs h.0 new h.2)

  -- one image for each reply that one was taken
  one_counted : (e : Event A) (old new : CoreView) (x : Handled A) → Handles e old new x → length (image_in x) ≡ cond (is_taken x.reply) 1 0
  one_counted (event.Begin s n p args) old new x h = ap (λ (y : Handled A). length (image_in y)) h.1 ∙ sym (ap (λ (y : Handled A). cond (is_taken y.reply) 1 0) h.1)
  one_counted (event.Step s) old new x h = ap (λ (y : Handled A). length (image_in y)) h.1 ∙ sym (ap (λ (y : Handled A). cond (is_taken y.reply) 1 0) h.1)
  one_counted (event.Finish s) old new x h = ap (λ (y : Handled A). length (image_in y)) h.1 ∙ sym (ap (λ (y : Handled A). cond (is_taken y.reply) 1 0) h.1)
  one_counted (event.GiveUp s) old new x h = ap (λ (y : Handled A). length (image_in y)) h.1 ∙ sym (ap (λ (y : Handled A). cond (is_taken y.reply) 1 0) h.1)
  one_counted (event.Start k) old new x h = ap (λ (y : Handled A). length (image_in y)) h.1 ∙ sym (ap (λ (y : Handled A). cond (is_taken y.reply) 1 0) h.1)
  one_counted event.Advance old new x h = ap (λ (y : Handled A). length (image_in y)) h.1 ∙ sym (ap (λ (y : Handled A). cond (is_taken y.reply) 1 0) h.1)
  one_counted event.Capture old new x h = ap (λ (y : Handled A). length (image_in y)) h.1 ∙ sym (ap (λ (y : Handled A). cond (is_taken y.reply) 1 0) h.1)
  one_counted event.TakeImage old new x h = ap (λ (y : Handled A). length (image_in y)) h.1 ∙ by h.0 ∙ sym (ap (λ (y : Handled A). cond (is_taken y.reply) 1 0) h.1)
    where
      by : (i : Option Image) → length (option_to_list i) ≡ cond (is_some i) 1 0
      by None = refl
      by (Some i) = refl
  one_counted event.Reclaim old new x h = ap (λ (y : Handled A). length (image_in y)) h.1 ∙ sym (ap (λ (y : Handled A). cond (is_taken y.reply) 1 0) h.1)
  one_counted event.Abandon old new x h = ap (λ (y : Handled A). length (image_in y)) h.1 ∙ sym (ap (λ (y : Handled A). cond (is_taken y.reply) 1 0) h.1)

  pub images_counted : (es : List (Event A)) (hs : List (Handled A)) (old new : CoreView) → HandlesAll es old new hs → length (images_in hs) ≡ count_by is_taken (replies_in hs)
  images_counted [] [] old new h = refl
  images_counted [] (x ∷ hs) old new h = absurd h
  images_counted (e ∷ es) [] old new h = absurd h
  images_counted (e ∷ es) (x ∷ hs) old new h =
      let first = one_counted e old h.0 x h.1 in
      let others = images_counted es hs h.0 new h.2 in
      let both : length (images_in (x ∷ hs)) ≡ length (image_in x) + length (images_in hs) = length-append (image_in x) (images_in hs) in
      let counted : count_by is_taken (replies_in (x ∷ hs)) ≡ cond (is_taken x.reply) 1 0 + count_by is_taken (replies_in hs) =
      sum_by-cons (λ (r : Reply A). cond (is_taken r) 1 0) x.reply (replies_in hs) in
      omega (arith, first, others, both, counted)

  -- from an empty log
  module _
      (es : List (Event A)) (rs : List (Reply A)) (is : List Image) (first last : CoreView) (log : first.log ≡ []) (calls : first.calls ≡ replicate SESSIONS None) (h : HandlesWith es first last rs is)
    where
      whole : GrowsBy first last (answered_calls es rs (replicate SESSIONS None))
      whole =
          subst (λ qs. GrowsBy first last (answered_calls es qs (replicate SESSIONS None))) (sym h.replied)
          (subst (λ b. GrowsBy first last (answered_calls es (replies_in h.each) b)) (nothing_begun first calls) (all_handled es h.each first last h.handled))

      pub catalog_driven : last.catalog ≡ first.catalog
      catalog_driven = whole.catalog

      pub opening_driven : last.opening ≡ first.opening
      opening_driven = whole.opening

      pub calls_driven : calls_of last.log ≡ map second (answered_calls es rs (replicate SESSIONS None))
      calls_driven = ap calls_of (whole.log ∙ ap (λ l. l ++ whole.more) log) ∙ whole.calls

      pub places_driven : EachStands last.log (answered_calls es rs (replicate SESSIONS None))
      places_driven = whole.stands

      pub taken_driven : AllTaken last.catalog (table_of last.opening) last.log is
      taken_driven = subst (λ js. AllTaken last.catalog (table_of last.opening) last.log js) (sym h.taken) (images_taken es h.each first last h.handled)

      pub counted_driven : length is ≡ count_by is_taken rs
      counted_driven = ap (λ (js : List Image). length js) h.taken ∙ images_counted es h.each first last h.handled ∙ sym (ap (λ qs. count_by is_taken qs) h.replied)
