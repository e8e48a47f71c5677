use Rattle.std.proofs.Common.{◌≡◌, ◌<◌, ◌≤◌, ℕ, ◌+◌, List, [], ◌∷◌, ◌++◌, length, get_or, take, vec_capacity, sym, ap, subst, ◌∙◌, arith}
use Rattle.std.proofs.lemmas.List.{length-take, take_all, take_more}
use Rattle.steps.proofs.finish.copy_of_replies.Goals as goal

room_left : {X : Type 0} (copy all : List X) (i len cap : ℕ) → copy ≡ take i all → i < length all → length all ≤ cap → len ≡ length copy → len < cap
room_left copy all i len cap copied below room is = omega (arith, ap length copied, length-take i all, is)

one_more : {X : Type 0} (copy new all : List X) (i : ℕ) (x y : X) → copy ≡ take i all → new ≡ copy ++ y ∷ [] → i < length all → x ≡ get_or all i x → y ≡ x → new ≡ take (i + 1) all
one_more {X = X} copy new all i x y copied pushed below here same =
    pushed
    ∙ (λ k. copied k ++ (same ∙ here) k ∷ [])
    ∙ sym (take_more all i x below)

pub push_reserved-requires : goal.push_reserved-requires
push_reserved-requires g c =
    let l = c.loop-reply in
    room_left l.copy.items c.args.replies.now l.reply-index l.copy.len (vec_capacity l.copy) l.invariant.copied c.loop-reply-test.true l.invariant.room l.copy.ok.0

pub loop-reply-preserved : goal.loop-reply-preserved
loop-reply-preserved g c =
    let l = c.loop-reply in
    record {
      copied =
          one_more l.copy.items c.push_reserved.new.self.items c.args.replies.now l.reply-index c.reply-item.result c.in_ok-copy_of.field-0 l.invariant.copied c.push_reserved.ensures.items
          c.loop-reply-test.true c.reply-item.is
          (c.in_ok-copy_of.ensures ∙ c.as_ref.ensures.value);
      room = subst (λ n. length c.args.replies.now ≤ n) (sym c.push_reserved.ensures.capacity) l.invariant.room;
    }

pub returns : goal.returns
returns g c =
    let l = c.loop-reply in
    l.invariant.copied ∙ take_all l.reply-index c.args.replies.now c.loop-reply-test.false
