use Rattle.std.proofs.Common.{◌≡◌, ◌≤◌, arith, List, [], ◌∷◌, ◌++◌, append_assoc, length, option_to_list, Option, None, Some, vec_capacity, suc, refl, sym, ap, ◌∙◌, subst}
use Rattle.std.specs.Vec.Iter.{into_iter_items}
use Rattle.std.proofs.lemmas.Grind.{flat_map-append}
use Rattle.std.proofs.lemmas.List.{append-nil, map-append, nil_from_length}
use Rattle.image.specs.Images.{Image}
use Rattle.steps.specs.CoreViews.{CoreView}
use Rattle.steps.specs.Schedules.{Handles, HandlesAll, image_in, images_in}
use Rattle.steps.specs.declared.schedules.Event.{Event}
use Rattle.steps.specs.declared.schedules.Handled.{Handled}
use Rattle.steps.proofs.drives.handle_all.Goals as goal

pub returns : goal.returns
returns g c =
    let i = c.loop-event.invariant in
    let left : into_iter_items c.loop-event.event-iterator ≡ [] = nil_from_length (into_iter_items c.loop-event.event-iterator) (sym i.count ∙ c.in-None.ensures.steps.0) in
    let none = subst (λ (es : List (Event g.row.A.Denot)). HandlesAll es c.loop-event.core c.loop-event.core []) (sym left) refl in
    record {
      each = i.each;
      handled = subst (λ (hs : List (Handled g.row.A.Denot)). HandlesAll c.args.events.items c.args.core.now c.loop-event.core hs) (append-nil i.each) (i.goes_on c.loop-event.core [] none);
      replied = i.replied;
      taken = i.taken;
    }

not_some : (o : Option Image) → ((i : Image) → o ≡ Some i → ⊥) → option_to_list o ≡ []
not_some None h = refl
not_some (Some i) h = absurd (h i refl)

-- one event more
abbrev on : (A : Type 0) (es : List (Event A)) (first : CoreView) (es_left : List (Event A)) (core : CoreView) (each : List (Handled A)) → Type 0
on A es first es_left core each = (new : CoreView) (hs : List (Handled A)) → HandlesAll es_left core new hs → HandlesAll es first new (each ++ hs)

on_more : (A : Type 0) (es : List (Event A)) (first : CoreView) (now left : List (Event A)) (core mid : CoreView) (each : List (Handled A)) (e : Event A) (x : Handled A) →
    on A es first now core each → now ≡ e ∷ left → Handles e core mid x → on A es first left mid (each ++ x ∷ [])
on_more A es first now left core mid each e x i is h = λ new hs rest.
    subst (λ (l : List (Handled A)). HandlesAll es first new l) (sym (append_assoc each (x ∷ []) hs))
    (i new (x ∷ hs) (subst (λ (l : List (Event A)). HandlesAll l core new (x ∷ hs)) (sym is) (mid, h, rest)))

pub loop-event-init : goal.loop-event-init
loop-event-init g c =
    let start = c.into_iter-event-iterator.ensures.into_iter_gives in
    let all : into_iter_items c.into_iter-event-iterator.result ≡ c.args.events.items = start.0 in
    let many = ap (λ (l : List (Event g.row.A.Denot)). length l) all in
    let replies : length c.args.answers.now.items ≡ 0 = ap (λ l. length l) c.requires.no_answers in
    let room : length c.args.events.items ≤ vec_capacity c.args.answers.now = c.requires.room in
    record {
      each = [];
      replied = c.requires.no_answers;
      taken = c.requires.no_images;
      goes_on = λ new hs h. subst (λ es. HandlesAll es c.args.core.now new hs) all h;
      room = omega (arith, many, replies, room);
      count = start.1 ∙ c.args.events.ok.0 ∙ sym many;
    }

pub loop-event-preserved-in-Continue-1 : goal.loop-event-preserved-in-Continue-1
loop-event-preserved-in-Continue-1 g c =
    let i = c.loop-event.invariant in
    let h = c.in-Some.ensures.steps in
    let x : Handled g.row.A.Denot = c.handle-reply.result in
    let now = into_iter_items c.loop-event.event-iterator in
    let left = into_iter_items c.next.new.self in
    let one : List Image = c.in-Some-image.image ∷ [] in
    let taken = ap (λ o. option_to_list o ++ []) c.in-Some-image.is in
    let fewer : length (into_iter_items c.loop-event.event-iterator) ≡ suc (length left) = ap (λ l. length l) h.0 in
    let replies = c.push_reserved.ensures in
    let images = c.in_ok-push.ensures in
    record {
      each = i.each ++ x ∷ [];
      replied = replies.items ∙ ap (λ l. l ++ x.reply ∷ []) i.replied ∙ sym (map-append (λ (y : Handled g.row.A.Denot). y.reply) i.each (x ∷ []));
      taken = images.items ∙ ap (λ (l : List Image). l ++ one) i.taken ∙ ap (λ (l : List Image). images_in i.each ++ l) (sym taken) ∙ sym (flat_map-append image_in i.each (x ∷ []));
      goes_on = on_more g.row.A.Denot c.args.events.items c.args.core.now now left c.loop-event.core c.handle-reply.new.self i.each c.in-Some.event x i.goes_on h.0 c.handle-reply.ensures;
      room = omega (arith, fewer, i.room, replies.len, replies.capacity);
      count = omega (arith, i.count, h.1, fewer);
    }

pub loop-event-preserved : goal.loop-event-preserved
loop-event-preserved g c =
    let i = c.loop-event.invariant in
    let h = c.in-Some.ensures.steps in
    let x : Handled g.row.A.Denot = c.handle-reply.result in
    let now = into_iter_items c.loop-event.event-iterator in
    let left = into_iter_items c.next.new.self in
    let fewer : length (into_iter_items c.loop-event.event-iterator) ≡ suc (length left) = ap (λ l. length l) h.0 in
    let replies = c.push_reserved.ensures in
    let none : option_to_list x.image ≡ [] = not_some x.image c.in_default.not-Some in
    record {
      each = i.each ++ x ∷ [];
      replied = replies.items ∙ ap (λ l. l ++ x.reply ∷ []) i.replied ∙ sym (map-append (λ (y : Handled g.row.A.Denot). y.reply) i.each (x ∷ []));
      taken = i.taken ∙ sym (append-nil (images_in i.each)) ∙ ap (λ (l : List Image). images_in i.each ++ (l ++ [])) (sym none) ∙ sym (flat_map-append image_in i.each (x ∷ []));
      goes_on = on_more g.row.A.Denot c.args.events.items c.args.core.now now left c.loop-event.core c.handle-reply.new.self i.each c.in-Some.event x i.goes_on h.0 c.handle-reply.ensures;
      room = omega (arith, fewer, i.room, replies.len, replies.capacity);
      count = omega (arith, i.count, h.1, fewer);
    }
