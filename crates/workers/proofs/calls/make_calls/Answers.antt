use Rattle.std.proofs.Common.{rules, ◌++◌, [], ap, sym, subst, ◌∙◌, inr, append_assoc, arith}
use Rattle.std.proofs.lemmas.List.{append-nil}
use Rattle.workers.specs.Sessions.{MakesAll, asks}
use Rattle.workers.proofs.Protocol.{made_all, made_last, made_no_more, made_one}
use Rattle.workers.proofs.calls.make_calls.Goals as goal

pub loop-call-init : goal.loop-call-init
loop-call-init g c = record {
  made = λ u rs e. subst (λ l. MakesAll g.S.Session.does c.args.turns c.args.calls.now c.args.session.now u (l ++ rs)) (sym (c.reserve.ensures.items ∙ c.requires)) e;
  room = search rules;
  so_far = search rules;
}

pub push_reserved-requires : goal.push_reserved-requires
push_reserved-requires g c = search (arith, c.loop-call.invariant.room, c.loop-call.invariant.so_far, c.loop-call-test.true)

pub loop-call-preserved : goal.loop-call-preserved
loop-call-preserved g c = record {
  made = λ u rs e. subst (λ l. MakesAll g.S.Session.does c.args.turns c.args.calls.now c.args.session.now u l) (sym (ap (λ l. l ++ rs) c.push_reserved.ensures.items ∙ append_assoc c.loop-call.answers.items _ rs)) (c.loop-call.invariant.made u _ (made_one g.S.Session.does c.args.calls.now c.loop-call.call-index c.loop-call-test.true c.call-item.is (subst (λ b. g.S.Session.does (asks b) c.loop-call.session c.goes_on.new.self) c.if-not-goes_on.false c.goes_on.ensures) c.make_call-given.ensures (sym c.if-last.false ∙ c.stops-last.ensures) e));
  room = search rules;
  so_far = search rules;
}

pub returns-after-loop-call : goal.returns-after-loop-call
returns-after-loop-call g c = inr (subst (λ l. MakesAll g.S.Session.does c.args.turns c.args.calls.now c.args.session.now c.loop-call.session l) (append-nil c.loop-call.answers.items) (c.loop-call.invariant.made _ [] (made_all g.S.Session.does c.args.calls.now c.loop-call.call-index c.loop-call-test.false)))

pub returns-then-last : goal.returns-then-last
returns-then-last g c = inr (subst (λ l. MakesAll g.S.Session.does c.args.turns c.args.calls.now c.args.session.now c.make_call-given.new.session l) (sym c.push_reserved.ensures.items) (c.loop-call.invariant.made _ _ (made_last g.S.Session.does c.args.calls.now c.loop-call.call-index c.loop-call-test.true c.call-item.is (subst (λ b. g.S.Session.does (asks b) c.loop-call.session c.goes_on.new.self) c.if-not-goes_on.false c.goes_on.ensures) c.make_call-given.ensures (sym c.if-last.true ∙ c.stops-last.ensures))))

pub returns-then-not-goes_on : goal.returns-then-not-goes_on
returns-then-not-goes_on g c = inr (subst (λ l. MakesAll g.S.Session.does c.args.turns c.args.calls.now c.args.session.now c.goes_on.new.self l) (append-nil c.loop-call.answers.items) (c.loop-call.invariant.made _ [] (made_no_more g.S.Session.does c.args.calls.now c.loop-call.call-index c.loop-call-test.true c.call-item.is (subst (λ b. g.S.Session.does (asks b) c.loop-call.session c.goes_on.new.self) c.if-not-goes_on.true c.goes_on.ensures))))
