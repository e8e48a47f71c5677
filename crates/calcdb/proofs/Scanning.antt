-- A scan, capture by capture.
use Rattle.std.proofs.Common.{◌≡◌, ◌+◌, ◌-◌, ℕ, zero, suc, List, [], ◌∷◌, ◌++◌, Result, Ok, Err, arith, refl, sym, ap, subst, replicate}
use Rattle.std.specs.Prelude.{codes}
use Rattle.std.proofs.lemmas.List.{replicate_more}
use Rattle.steps.specs.CoreViews.{CoreView}
use Rattle.steps.specs.Schedules.{HandlesAll, VisitsAs, images_in, without_image}
use Rattle.steps.specs.declared.captures.Captured.{Captured}
use Rattle.steps.specs.declared.captures.Captured.TheVariants.{Slot, Done}
use Rattle.steps.specs.declared.errors.CaptureError.{CaptureError}
use Rattle.steps.specs.declared.schedules.Event.{Event}
use Rattle.steps.specs.declared.schedules.Event.TheVariants as event
use Rattle.steps.specs.declared.schedules.Handled.{Handled}
use Rattle.steps.specs.declared.schedules.Reply.TheVariants as reply
use Rattle.calcdb.specs.Output.{numbered_text}
use Rattle.calcdb.specs.Runs.{Carried, EndsScan, Scans, reply_text}
use Rattle.calcdb.proofs.CarryingOn.{handled_on}

abbrev pub captures : (A : Type 0) → ℕ → List (Event A)
captures A n = replicate n event.Capture

abbrev pub visits : (A : Type 0) → ℕ → List (Handled A)
visits A n = replicate n (without_image (reply.Capture (Ok Slot)))

-- so many places were visited
pub record Visited (A : Type 0) (first core : CoreView) : Type 0 where
  pub count : ℕ
  pub handled : HandlesAll (captures A count) first core (visits A count)
  pub cursor : core.checkpoint.cursor ≡ first.checkpoint.cursor + count

-- where a visit goes on
moves : (core new : CoreView) (r : Result Captured CaptureError) → VisitsAs core new r → r ≡ Ok Slot → new.checkpoint.cursor ≡ suc core.checkpoint.cursor
moves core new (Ok Slot) h is = ap (λ (v : CoreView). v.checkpoint.cursor) h.captured.rest
moves core new (Ok Done) h is = absurd (cc)
moves core new (Err e) h is = absurd (cc)

stays : (core new : CoreView) (r : Result Captured CaptureError) → VisitsAs core new r → r ≡ Ok Done → new.checkpoint.cursor ≡ core.checkpoint.cursor
stays core new (Ok Slot) h is = absurd (cc)
stays core new (Ok Done) h is = ap (λ (v : CoreView). v.checkpoint.cursor) h.captured.1
stays core new (Err e) h is = absurd (cc)

none_taken : (A : Type 0) (n : ℕ) (r : Result Captured CaptureError) → [] ≡ images_in {A = A} (visits A n ++ without_image (reply.Capture r) ∷ [])
none_taken A zero r = refl
none_taken A (suc n) r = none_taken A n r

module _ {A : Type 0} where
  -- one capture more
  captured_on : (first core new : CoreView) (r : Result Captured CaptureError) (v : Visited A first core) → VisitsAs core new r →
      HandlesAll (captures A v.count ++ event.Capture ∷ []) first new (visits A v.count ++ without_image (reply.Capture r) ∷ [])
  captured_on first core new r v h = handled_on (captures A v.count) (event.Capture ∷ []) first core new (visits A v.count) (without_image (reply.Capture r) ∷ []) v.handled (new, (r, refl, h), refl)

  pub one_visited : (first core new : CoreView) (r : Result Captured CaptureError) → Visited A first core → VisitsAs core new r → r ≡ Ok Slot → Visited A first new
  one_visited first core new r v h is =
      let on = moves core new r h is in
      let all = subst (λ x. HandlesAll (captures A v.count ++ event.Capture ∷ []) first new (visits A v.count ++ without_image (reply.Capture x) ∷ [])) is (captured_on first core new r v h) in
      let events : captures A v.count ++ event.Capture ∷ [] ≡ captures A (v.count + 1) = replicate_more v.count event.Capture in
      let replies : visits A v.count ++ without_image (reply.Capture (Ok Slot)) ∷ [] ≡ visits A (v.count + 1) = replicate_more v.count (without_image (reply.Capture (Ok Slot))) in
      record {
        count = v.count + 1;
        handled = subst (λ es. HandlesAll es first new (visits A (v.count + 1))) events (subst (λ rs. HandlesAll (captures A v.count ++ event.Capture ∷ []) first new rs) replies all);
        cursor = omega (arith, on, v.cursor);
      }

  ends_with : (first core new : CoreView) (r : Result Captured CaptureError) (v : Visited A first core) (text : List ℕ) → VisitsAs core new r → EndsScan v.count r text →
      Carried {A = A} Scans first new text []
  ends_with first core new r v text h ends = record {
    events = captures A v.count ++ event.Capture ∷ [];
    each = visits A v.count ++ without_image (reply.Capture r) ∷ [];
    handled = captured_on first core new r v h;
    says = (v.count, r, refl, refl, ends);
    taken = none_taken A v.count r;
  }

  -- no place is left
  pub scanned : (first core new : CoreView) (r : Result Captured CaptureError) (m : ℕ) → Visited A first core → VisitsAs core new r → r ≡ Ok Done →
      m ≡ new.checkpoint.cursor - first.checkpoint.cursor →
      Carried {A = A} Scans first new (numbered_text (codes "slots ") m) []
  scanned first core new r m v h is counted =
      let same = stays core new r h is in
      let all : m ≡ v.count = omega (arith, same, v.cursor, counted) in
      ends_with first core new r v (numbered_text (codes "slots ") m) h (subst (λ x. EndsScan v.count x (numbered_text (codes "slots ") m)) (sym is) (ap (λ n. numbered_text (codes "slots ") n) all))

  -- a capture is refused
  pub scan_refused : (first core new : CoreView) (r : Result Captured CaptureError) (e : CaptureError) → Visited A first core → VisitsAs core new r → r ≡ Err e →
      Carried {A = A} Scans first new (reply_text {A = A} (reply.Capture (Err e))) []
  scan_refused first core new r e v h is =
      ends_with first core new r v (reply_text {A = A} (reply.Capture (Err e))) h (subst (λ x. EndsScan v.count x (reply_text {A = A} (reply.Capture (Err e)))) (sym is) refl)
