-- A scan that ends has visited each of its places.
use Rattle.std.proofs.Common.{◌≡◌, ◌≤◌, ◌+◌, not, nat_lt, ℕ, suc, arith, Bool, true, false, List, [], ◌∷◌, inl, inr, None, Ok, Err, is_ok, refl, sym, ap, ◌∙◌, subst, true≢false}
use Rattle.std.specs.declared.result.Result.{Result}
use Rattle.std.specs.Option.{option_or}
use Rattle.std.proofs.lemmas.Bool.{ltb-false}
use Rattle.phase.specs.Phases.{successor}
use Rattle.phase.specs.declared.phases.Phase.{Phase}
use Rattle.phase.specs.declared.phases.Phase.TheVariants.{Capture, Complete}
use Rattle.commitlog.specs.Histories.{phase_of}
use Rattle.steps.specs.Checkpointing.{CapturesAs}
use Rattle.steps.specs.CoreViews.{CheckpointView, CoreView}
use Rattle.steps.specs.Refusals.{advance_refusal, is_held, is_log_full, is_rest, is_scanning, refused_unless}
use Rattle.steps.specs.Schedules.{AbandonsAs, AdvancesAs, BeginsAs, FinishesAs, GivesUpAs, Handles, HandlesAll, StartsAs, StepsAs, VisitsAs, replies_in}
use Rattle.steps.specs.Visits.{ScansInTurns, ScansWhole, SendsAs, Takes, Turn, any_enters, enters, sent_visits, visits, visits_of}
use Rattle.steps.specs.declared.captures.Captured.{Captured}
use Rattle.steps.specs.declared.captures.Captured.TheVariants.{Slot, Done}
use Rattle.steps.specs.declared.errors.AdvanceError.TheVariants as advancing
use Rattle.steps.specs.declared.schedules.Event.{Event}
use Rattle.steps.specs.declared.schedules.Event.TheVariants as event
use Rattle.steps.specs.declared.schedules.Handled.{Handled}
use Rattle.steps.specs.declared.schedules.Reply.{Reply}
use Rattle.steps.specs.declared.schedules.Reply.TheVariants as reply
use Rattle.steps.proofs.log.DrivenLog.{open_finish, open_step}
use Rattle.steps.proofs.sessions.BarredTouches.{neither_of}

-- the cursor moves by so many places, below the bound
record Moves (old new : CoreView) (n : ℕ) : Type 0 where
  cursor : new.checkpoint.cursor ≡ n + old.checkpoint.cursor
  bound : new.checkpoint.bound ≡ old.checkpoint.bound
  within : old.checkpoint.cursor ≤ old.checkpoint.bound → new.checkpoint.cursor ≤ new.checkpoint.bound

stays : (old new : CoreView) → new.checkpoint.cursor ≡ old.checkpoint.cursor → new.checkpoint.bound ≡ old.checkpoint.bound → Moves old new 0
stays old new e f = record { cursor = omega (arith, e); bound = f; within = λ le. omega (arith, e, f, le) }

same_checkpoint : (old new : CoreView) → new.checkpoint ≡ old.checkpoint → Moves old new 0
same_checkpoint old new e = stays old new (ap (λ (k : CheckpointView). k.cursor) e) (ap (λ (k : CheckpointView). k.bound) e)

nothing : (old new : CoreView) → new ≡ old → Moves old new 0
nothing old new e = same_checkpoint old new (ap (λ (v : CoreView). v.checkpoint) e)

on : (a b c : CoreView) (m n k : ℕ) → k ≡ m + n → Moves a b m → Moves b c n → Moves a c k
on a b c m n k e f g = record {
  cursor = let x = f.cursor in let y = g.cursor in omega (arith, e, x, y);
  bound = g.bound ∙ f.bound;
  within = λ le. g.within (f.within le);
}

one_place : (old new : CoreView) → CapturesAs Slot old new → Moves old new 1
one_place old new h =
    let e : new.checkpoint.cursor ≡ suc old.checkpoint.cursor = ap (λ (v : CoreView). v.checkpoint.cursor) h.rest in
    let f : new.checkpoint.bound ≡ old.checkpoint.bound = ap (λ (v : CoreView). v.checkpoint.bound) h.rest in
    let below = h.below in
    record { cursor = omega (arith, e); bound = f; within = λ le. omega (arith, e, f, below) }

-- ONE EVENT

by_capture : (B : Type 0) (old new : CoreView) (r : Result Captured _) → VisitsAs old new r → Moves old new (visits {A = B} (reply.Capture r ∷ []))
by_capture B old new (Ok Slot) h = one_place old new h.captured
by_capture B old new (Ok Done) h = nothing old new h.captured.1
by_capture B old new (Err e) h = nothing old new h.refused

by_begin : (old new : CoreView) (s n p : ℕ) (args : _) (r : Result (Unit {0}) _) → BeginsAs old new s n p args r → Moves old new 0
by_begin old new s n p args (Ok x) h = same_checkpoint old new (ap (λ (v : CoreView). v.checkpoint) h.begun)
by_begin old new s n p args (Err e) h = nothing old new h.refused

by_step : (old new : CoreView) (s : ℕ) (r : Result _ _) → StepsAs old new s r → Moves old new 0
by_step old new s (Ok x) h = let there = open_step old s h.refusal in same_checkpoint old new (h.stepped there.0 there.1).same.checkpoint
by_step old new s (Err e) h = nothing old new h.refused

by_give_up : (old new : CoreView) (s : ℕ) (r : Result (Unit {0}) _) → GivesUpAs old new s r → Moves old new 0
by_give_up old new s (Ok x) h = same_checkpoint old new h.given_up.same.checkpoint
by_give_up old new s (Err e) h = nothing old new h.refused

by_start : (old new : CoreView) (k : _) (r : Result ℕ _) → StartsAs old new k r → is_ok r ≡ false → Moves old new 0
by_start old new k (Ok x) h e = absurd (true≢false e)
by_start old new k (Err x) h e = nothing old new h.refused

by_advance : (old new : CoreView) (r : Result Phase _) → AdvancesAs old new r → is_ok r ≡ false → Moves old new 0
by_advance old new (Ok x) h e = absurd (true≢false e)
by_advance old new (Err x) h e = nothing old new h.refused

by_abandon : (old new : CoreView) (r : Result ℕ _) → AbandonsAs old new r → is_ok r ≡ false → Moves old new 0
by_abandon old new (Ok x) h e = absurd (true≢false e)
by_abandon old new (Err x) h e = nothing old new h.refused

module _ {A : Type 0} where
  by_finish : (old new : CoreView) (s : ℕ) (r : Result _ _) → FinishesAs {A = A} old new s r → Moves old new 0
  by_finish old new s (Ok x) h = let there = open_finish old s h.refusal in same_checkpoint old new (h.finished there.0 there.1).same.checkpoint
  by_finish old new s (Err e) h = nothing old new h.refused

  one : (e : Event A) (old new : CoreView) (r : Handled A) → Handles e old new r → enters r.reply ≡ false → Moves old new (visits (r.reply ∷ []))
  one (event.Begin s n p args) old new r (x, is, h) f = subst (λ (y : Handled A). Moves old new (visits (y.reply ∷ []))) (sym is) (by_begin old new s n p _ x h)
  one (event.Step s) old new r (x, is, h) f = subst (λ (y : Handled A). Moves old new (visits (y.reply ∷ []))) (sym is) (by_step old new s x h)
  one (event.Finish s) old new r (x, is, h) f = subst (λ (y : Handled A). Moves old new (visits (y.reply ∷ []))) (sym is) (by_finish old new s x h)
  one (event.GiveUp s) old new r (x, is, h) f = subst (λ (y : Handled A). Moves old new (visits (y.reply ∷ []))) (sym is) (by_give_up old new s x h)
  one (event.Start k) old new r (x, is, h) f = subst (λ (y : Handled A). Moves old new (visits (y.reply ∷ []))) (sym is) (by_start old new k x h (sym (ap (λ (y : Handled A). enters y.reply) is) ∙ f))
  one event.Advance old new r (x, is, h) f = subst (λ (y : Handled A). Moves old new (visits (y.reply ∷ []))) (sym is) (by_advance old new x h (sym (ap (λ (y : Handled A). enters y.reply) is) ∙ f))
  one event.Capture old new r (x, is, h) f = subst (λ (y : Handled A). Moves old new (visits (y.reply ∷ []))) (sym is) (by_capture A old new x h)
  one event.TakeImage old new r (x, is, h) f =
      subst (λ (y : Handled A). Moves old new (visits (y.reply ∷ []))) (sym is) (stays old new (ap (λ (v : CoreView). v.checkpoint.cursor) h.taken) (ap (λ (v : CoreView). v.checkpoint.bound) h.taken))
  one event.Reclaim old new r (x, is, h) f = subst (λ (y : Handled A). Moves old new (visits (y.reply ∷ []))) (sym is) (same_checkpoint old new (ap (λ (v : CoreView). v.checkpoint) h.reclaimed.rest))
  one event.Abandon old new r (x, is, h) f = subst (λ (y : Handled A). Moves old new (visits (y.reply ∷ []))) (sym is) (by_abandon old new x h (sym (ap (λ (y : Handled A). enters y.reply) is) ∙ f))

  -- ALL OF THEM

  first_more : (r : Reply A) (rs : List (Reply A)) → visits (r ∷ rs) ≡ visits (r ∷ []) + visits rs
  first_more (reply.Capture (Ok Slot)) rs = omega arith
  first_more _ rs = omega arith

  all : (es : List (Event A)) (hs : List (Handled A)) (old new : CoreView) → HandlesAll es old new hs → any_enters (replies_in hs) ≡ false → Moves old new (visits (replies_in hs))
  all [] [] old new h f = nothing old new (sym h)
  all [] (x ∷ hs) old new h f = absurd h
  all (e ∷ es) [] old new h f = absurd h
  all (e ∷ es) (x ∷ hs) old new (between, h, more) f =
      let r : Reply A = x.reply in
      let rs : List (Reply A) = replies_in hs in
      let parts = neither_of (enters r) (any_enters rs) f in
      on old between new (visits (r ∷ [])) (visits rs) (visits (r ∷ rs)) (first_more r rs) (one e old between x h parts.0) (all es hs between new more parts.1)

-- A SCAN THAT ENDS

before_complete : (p : Phase) → Complete ≡ successor p → p ≡ Capture
before_complete Capture e = refl
before_complete _ e = absurd (cc)

scanned_by : (rest held scanning full : Bool) → option_or (refused_unless rest advancing.AtRest)
    (option_or (refused_unless held advancing.StillActive) (option_or (refused_unless (not scanning) advancing.NotScanned) (refused_unless full advancing.LogFull))) ≡ None → scanning ≡ false
scanned_by true true false full e = refl
scanned_by _ _ _ full e = absurd (cc)

-- where complete is entered no place is left
scanned : (v : CoreView) → advance_refusal v ≡ None → phase_of v.log ≡ Capture → nat_lt v.checkpoint.cursor v.checkpoint.bound ≡ false
scanned v e is =
    ap (λ p. is_scanning p v.checkpoint) (sym is)
    ∙ scanned_by (not (is_rest (phase_of v.log))) (not (is_held (phase_of v.log) v.calls)) (is_scanning (phase_of v.log) v.checkpoint) (not (is_log_full v)) e

-- the scan between has visited as many places as it had
ended_scan : (before first last after : CoreView) (n : ℕ) → AdvancesAs before first (Ok Capture) → Moves first last n → AdvancesAs last after (Ok Complete) → n ≡ first.checkpoint.bound
ended_scan before first last after n entered moves ended =
    let zero : first.checkpoint.cursor ≡ 0 = ap (λ (v : CoreView). v.checkpoint.cursor) entered.advanced.2 in
    let begun : first.checkpoint.cursor ≤ first.checkpoint.bound = omega (arith, zero) in
    let past = ltb-false last.checkpoint.cursor last.checkpoint.bound (scanned last ended.refusal (before_complete (phase_of last.log) ended.phase)) in
    let within = moves.within begun in
    let cursor = moves.cursor in
    let bound = moves.bound in
    omega (arith, zero, past, within, cursor, bound)

pub scans_whole : (A : Type 0) → ScansWhole A
scans_whole A es hs before first last after entered handled none ended = ended_scan before first last after _ entered (all es hs first last handled none) ended

-- CAPTURES INTO RINGS

by_sending : (old new : CoreView) (r : Result Captured _) → SendsAs old new r → Moves old new (sent_visits r)
by_sending old new (Ok Slot) h = one_place old new h.captured
by_sending old new (Ok Done) h = nothing old new h.captured.1
by_sending old new (Err e) h = nothing old new h.refused

module _ {A : Type 0} where
  in_turns : (ts : List (Turn A)) (old new : CoreView) → Takes ts old new → Moves old new (visits_of ts)
  in_turns [] old new h = nothing old new (sym h)
  in_turns (inl x ∷ ts) old new (between, h, none, more) =
      on old between new (visits (x.1.reply ∷ [])) (visits_of ts) (visits_of (inl x ∷ ts)) refl (one x.0 old between x.1 h none) (in_turns ts between new more)
  in_turns (inr r ∷ ts) old new (between, h, more) =
      on old between new (sent_visits r) (visits_of ts) (visits_of (inr r ∷ ts)) refl (by_sending old between r h) (in_turns ts between new more)

pub scans_in_turns : (A : Type 0) → ScansInTurns A
scans_in_turns A ts before first last after entered taken ended = ended_scan before first last after _ entered (in_turns ts first last taken) ended
