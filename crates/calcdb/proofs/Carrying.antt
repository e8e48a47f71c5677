-- Events carried out one after another.
use Rattle.std.proofs.Common.{◌≡◌, inl, inr, ℕ, suc, false, is_some, length, List, [], ◌∷◌, ◌++◌, Result, Ok, Err, IfOk, OnErr, OnOk, refl, sym, ap, ◌∙◌, subst, slice_get, Option, Some, None, option_to_list}
use Rattle.std.proofs.lemmas.List.{append-nil}
use Rattle.image.specs.Images.{Image}
use Rattle.procedure.specs.Bytes.{Bytes}
use Rattle.procedure.specs.Procedures.{Procedure}
use Rattle.commitlog.specs.Records.{Record}
use Rattle.commitlog.proofs.Lists.{slice_get-seam}
use Rattle.steps.specs.CoreViews.{AnswersCall, CoreView, Finishes, OfOpen, Underway, answer_of, front_of, open_at}
use Rattle.steps.specs.Refusals.{Answers, finish_refusal, unfinished}
use Rattle.steps.specs.Schedules.{FinishesAs, GivesUpAs, Handles, StepsAs, TakesImage, image_in, without_image}
use Rattle.steps.specs.declared.errors.BeginError.{BeginError}
use Rattle.steps.specs.declared.errors.FinishError.{FinishError}
use Rattle.steps.specs.declared.errors.FinishError.TheVariants as finishing
use Rattle.steps.specs.declared.errors.NotActive.{NotActive}
use Rattle.steps.specs.declared.errors.StepError.{StepError}
use Rattle.steps.specs.declared.finish.Answer.{Answer}
use Rattle.steps.specs.declared.schedules.Event.{Event}
use Rattle.steps.specs.declared.schedules.Event.TheVariants as event
use Rattle.steps.specs.declared.schedules.Handled.{Handled}
use Rattle.steps.specs.declared.schedules.Reply.{Reply}
use Rattle.steps.specs.declared.schedules.Reply.TheVariants as reply
use Rattle.steps.specs.declared.step.Stepped.{Stepped}
use Rattle.steps.specs.declared.step.Stepped.TheVariants.{Ran, Ready}
use Rattle.calcdb.specs.Output.{answer_text, image_text}
use Rattle.calcdb.specs.Runs.{Begins, Calls, Carried, Carries, Ends, GoesOn, Says, answer_in, answered_text, count_of, handled_text, image_or, reply_text}
use Rattle.calcdb.specs.declared.commands.Command.{Command}
use Rattle.calcdb.specs.declared.commands.Command.TheVariants as command
use Rattle.calcdb.specs.declared.commands.NewCall.{NewCall}

-- how a core answers a call, and leaves the answer in the log
pub record FinishesInLog (old new : CoreView) (s : ℕ) (r : Result ℕ FinishError) : Type 0 where
  pub finished : OnOk r (OfOpen old s (Finishes old new s))
  pub place : IfOk r (λ n. n ≡ length old.log)
  pub refused : OnErr r (new ≡ old)
  pub refusal : Answers (finish_refusal old s) finishing.NoMemory r

-- a call that was answered, with its answer at a place of the log
record Stands (A : Type 0) (s : ℕ) (old new : CoreView) (place : ℕ) : Type 0 where
  a : Answer A
  finishes : FinishesAs old new s (Ok a)
  text : answered_text new.log place ≡ answer_text a.place a.outcome a.replies

text_there : (s : ℕ) (old new : CoreView) (place : ℕ) (c : Underway) → new.log ≡ old.log ++ answer_of old s c ∷ [] → place ≡ length old.log →
    answered_text new.log place ≡ answer_text place (front_of old c).outcome (front_of old c).replies
text_there s old new place c log is =
    ap (λ (l : List Record). answer_in place (slice_get l place)) log ∙ ap (λ n. answer_in place (slice_get (old.log ++ answer_of old s c ∷ []) n)) is
    ∙ ap (answer_in place) (slice_get-seam old.log (answer_of old s c) [])

module _ {A : Type 0} where
  stands : (s : ℕ) (old new : CoreView) (place : ℕ) (o : Option Underway) → open_at old s ≡ o → OfOpen old s (Finishes old new s) → place ≡ length old.log →
      unfinished old (open_at old s) ≡ None → Stands A s old new place
  stands s old new place None is h at k = let bad = rw is at k in absurd (cc)
  stands s old new place (Some c) is h at k = record {
    a = record { place = place; outcome = (front_of old c).outcome; replies = (front_of old c).replies };
    finishes = record {
      finished = h;
      answer = λ d there.
          let both : Some c ≡ Some d = sym is ∙ there in
          let one : c ≡ d = cc in
          subst (λ (u : Underway). AnswersCall old u place (front_of old c).outcome (front_of old c).replies) one (at, refl, refl);
      refused = tt;
      refusal = k;
    };
    text = text_there s old new place c (h c is).log at;
  }

  refused_finish : (s : ℕ) (old new : CoreView) (r : Result ℕ FinishError) (e : FinishError) → FinishesInLog old new s r → r ≡ Err e → FinishesAs {A = A} old new s (Err e)
  refused_finish s old new (Ok n) e h is = absurd (cc)
  refused_finish s old new (Err f) e h is =
      let one : f ≡ e = cc in
      subst (λ x. FinishesAs {A = A} old new s (Err x)) one (record { finished = tt; answer = tt; refused = h.refused; refusal = h.refusal })

  stands_there : (s : ℕ) (old new : CoreView) (r : Result ℕ FinishError) (place : ℕ) → FinishesInLog old new s r → r ≡ Ok place → Stands A s old new place
  stands_there s old new (Err e) place h is = absurd (cc)
  stands_there s old new (Ok n) place h is =
      let one : n ≡ place = cc in
      subst (Stands A s old new) one (stands s old new n (open_at old s) refl h.finished h.place h.refusal)

  -- the event by which a call is answered
  pub finished : (s : ℕ) (old new : CoreView) (r : Result ℕ FinishError) (place : ℕ) → FinishesInLog old new s r → r ≡ Ok place →
      Carried {A = A} (Says (event.Finish s)) old new (answered_text new.log place) []
  finished s old new r place h is =
      let t = stands_there s old new r place h is in
      subst (λ text. Carried {A = A} (Says (event.Finish s)) old new text []) (sym t.text) (record {
        events = event.Finish s ∷ [];
        each = without_image (reply.Finish (Ok t.a)) ∷ [];
        handled = (new, (Ok t.a, refl, t.finishes), refl);
        says = (without_image (reply.Finish (Ok t.a)), refl, refl, refl);
        taken = refl;
      })

  pub finish_refused : (s : ℕ) (old new : CoreView) (r : Result ℕ FinishError) (e : FinishError) → FinishesInLog old new s r → r ≡ Err e →
      Carried {A = A} (Says (event.Finish s)) old new (reply_text {A = A} (reply.Finish (Err e))) []
  finish_refused s old new r e h is = record {
    events = event.Finish s ∷ [];
    each = without_image (reply.Finish (Err e)) ∷ [];
    handled = (new, (Err e, refl, refused_finish s old new r e h is), refl);
    says = (without_image (reply.Finish (Err e)), refl, refl, refl);
    taken = refl;
  }

  pub ended : (s : ℕ) (old new : CoreView) (r : Result ℕ FinishError) (place : ℕ) → FinishesInLog old new s r → r ≡ Ok place →
      Carried {A = A} (Ends s) old new (answered_text new.log place) []
  ended s old new r place h is =
      let t = stands_there s old new r place h is in
      record {
        events = event.Finish s ∷ [];
        each = without_image (reply.Finish (Ok t.a)) ∷ [];
        handled = (new, (Ok t.a, refl, t.finishes), refl);
        says = inl (t.a, refl, refl, t.text);
        taken = refl;
      }

  pub end_refused : (s : ℕ) (old mid new : CoreView) (r : Result ℕ FinishError) (e : FinishError) (g : Result (Unit {0}) NotActive) → FinishesInLog old mid s r → r ≡ Err e →
      GivesUpAs mid new s g →
      Carried {A = A} (Ends s) old new (reply_text {A = A} (reply.Finish (Err e))) []
  end_refused s old mid new r e g h is up = record {
    events = event.Finish s ∷ event.GiveUp s ∷ [];
    each = without_image (reply.Finish (Err e)) ∷ without_image (reply.GiveUp g) ∷ [];
    handled = (mid, (Err e, refl, refused_finish s old mid r e h is), (new, (g, refl, up), refl));
    says = inr (e, without_image (reply.GiveUp g), refl, refl, refl);
    taken = refl;
  }

  pub ran : (n s : ℕ) (old mid new : CoreView) (r : Result Stepped StepError) (text : Bytes) (images : List Image) → StepsAs old mid s r → r ≡ Ok Ran →
      Carried {A = A} (GoesOn n s) mid new text images → Carried {A = A} (GoesOn (suc n) s) old new text images
  ran n s old mid new r text images h is c = record {
    events = event.Step s ∷ c.events;
    each = without_image (reply.Step r) ∷ c.each;
    handled = (mid, (r, refl, h), c.handled);
    says = inl (c.events, c.each, refl, ap (λ x. without_image (reply.Step x) ∷ c.each) is, c.says);
    taken = c.taken;
  }

  pub made_ready : (n s : ℕ) (old mid new : CoreView) (r : Result Stepped StepError) (text : Bytes) (images : List Image) → StepsAs old mid s r → r ≡ Ok Ready →
      Carried {A = A} (Ends s) mid new text images → Carried {A = A} (GoesOn (suc n) s) old new text images
  made_ready n s old mid new r text images h is c = record {
    events = event.Step s ∷ c.events;
    each = without_image (reply.Step r) ∷ c.each;
    handled = (mid, (r, refl, h), c.handled);
    says = inr (inl (c.events, c.each, refl, ap (λ x. without_image (reply.Step x) ∷ c.each) is, c.says));
    taken = c.taken;
  }

  pub step_refused : (n s : ℕ) (old mid new : CoreView) (r : Result Stepped StepError) (e : StepError) (g : Result (Unit {0}) NotActive) → StepsAs old mid s r → r ≡ Err e → GivesUpAs mid new s g →
      Carried {A = A} (GoesOn (suc n) s) old new (reply_text {A = A} (reply.Step (Err e))) []
  step_refused n s old mid new r e g h is up = record {
    events = event.Step s ∷ event.GiveUp s ∷ [];
    each = without_image (reply.Step r) ∷ without_image (reply.GiveUp g) ∷ [];
    handled = (mid, (r, refl, h), (new, (g, refl, up), refl));
    says = inr (inr (e, without_image (reply.GiveUp g), refl, ap (λ x. without_image (reply.Step x) ∷ without_image (reply.GiveUp g) ∷ []) is, refl));
    taken = refl;
  }

  pub call_refused : (catalog : List Procedure) (c : NewCall (List Bytes)) (b : Event A) (old new : CoreView) (r : Result (Unit {0}) BeginError) (e : BeginError) → Begins c b →
      Handles b old new (without_image (reply.Begin r)) → r ≡ Err e →
      Carried {A = A} (Calls catalog c) old new (reply_text {A = A} (reply.Begin (Err e))) []
  call_refused catalog c b old new r e begins h is = record {
    events = b ∷ [];
    each = without_image (reply.Begin r) ∷ [];
    handled = (new, h, refl);
    says = inl (e, b, begins, refl, ap (λ x. without_image (reply.Begin x) ∷ []) is, refl);
    taken = refl;
  }

  pub call_begun : (catalog : List Procedure) (c : NewCall (List Bytes)) (b : Event A) (old mid new : CoreView) (r : Result (Unit {0}) BeginError) (count : ℕ) (text : Bytes) (images : List Image) →
      Begins c b → Handles b old mid (without_image (reply.Begin r)) → r ≡ Ok tt →
      count ≡ count_of (slice_get catalog c.procedure) → Carried {A = A} (GoesOn count c.session) mid new text images → Carried {A = A} (Calls catalog c) old new text images
  call_begun catalog c b old mid new r count text images begins h is counted on = record {
    events = b ∷ on.events;
    each = without_image (reply.Begin r) ∷ on.each;
    handled = (mid, h, on.handled);
    says = inr (b, on.events, on.each, begins, refl, ap (λ x. without_image (reply.Begin x) ∷ on.each) is, subst (λ n. GoesOn {A = A} n c.session on.events on.each text) counted on.says);
    taken = on.taken;
  }

  -- one event
  pub one : (e : Event A) (old new : CoreView) (r : Handled A) → Handles e old new r → Carried {A = A} (Says e) old new (handled_text r) (image_in r)
  one e old new r h = record { events = e ∷ []; each = r ∷ []; handled = (new, h, refl); says = (r, refl, refl, refl); taken = sym (append-nil (image_in r)) }

  -- a command that is one event, which takes no image
  pub one_event : (catalog : List Procedure) (c d : Command (List Bytes)) (e : Event A) (old new : CoreView) (r : Reply A) → c ≡ d →
      ((es : List (Event A)) (rs : List (Handled A)) (text : Bytes) → Says e es rs text → Carries catalog d es rs text) → Handles e old new (without_image r) →
      Carried {A = A} (Carries catalog c) old new (reply_text r) []
  one_event catalog c d e old new r is says h =
      let one = one e old new (without_image r) h in
      subst (λ (x : Command (List Bytes)). Carried {A = A} (Carries catalog x) old new (reply_text r) []) (sym is)
      (record { events = one.events; each = one.each; handled = one.handled; says = says one.events one.each (reply_text r) one.says; taken = one.taken })

  -- an image is taken, or none waits
  pub image_taken : (old new : CoreView) (o : Option Image) (i : Image) → o ≡ Some i → TakesImage old new o → Carried {A = A} (Says event.TakeImage) old new (image_text i) (i ∷ [])
  image_taken old new o i is h =
      subst (λ (x : Option Image). Carried {A = A} (Says event.TakeImage) old new (image_or x (reply_text {A = A} (reply.TakeImage (is_some x)))) (option_to_list x)) is
      (one event.TakeImage old new (record { reply = reply.TakeImage (is_some o); image = o }) (o, refl, h))

  pub no_image_taken : (old new : CoreView) (o : Option Image) → o ≡ None → TakesImage old new o → Carried {A = A} (Says event.TakeImage) old new (reply_text {A = A} (reply.TakeImage false)) []
  no_image_taken old new o is h =
      subst (λ (x : Option Image). Carried {A = A} (Says event.TakeImage) old new (image_or x (reply_text {A = A} (reply.TakeImage (is_some x)))) (option_to_list x)) is
      (one event.TakeImage old new (record { reply = reply.TakeImage (is_some o); image = o }) (o, refl, h))

  -- by which a call begins
  pub one_begin : (catalog : List Procedure) (c : NewCall (List Bytes)) (b : Event A) (old new : CoreView) (text : Bytes) (images : List Image) → Begins c b →
      Carried {A = A} (Says b) old new text images → Carried {A = A} (Carries catalog (command.Begin c)) old new text images
  one_begin catalog c b old new text images begins h = record { events = h.events; each = h.each; handled = h.handled; says = (b, begins, h.says); taken = h.taken }
