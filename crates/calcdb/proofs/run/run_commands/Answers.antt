use Rattle.std.proofs.Common.{◌≡◌, List, [], ◌∷◌, ◌++◌, refl, sym, ap, subst, ◌∙◌, append_assoc}
use Rattle.std.proofs.KnownBytes.{Appends-nil, Appends-trans}
use Rattle.std.proofs.lemmas.List.{append-nil}
use Rattle.std.proofs.lemmas.Result.{err_from_is_err_and}
use Rattle.procedure.specs.Bytes.{Bytes}
use Rattle.calcdb.specs.Runs.{Carried, Carries, CarriesAll}
use Rattle.calcdb.specs.declared.commands.Command.{Command}
use Rattle.calcdb.proofs.CarryingOn.{carried_more, carried_none, carried_on}
use Rattle.calcdb.proofs.Keeping.{stops_at}
use Rattle.calcdb.proofs.run.run_commands.Goals as goal

pub returns-then-is_err-clause-err : goal.returns-then-is_err-clause-err
returns-then-is_err-clause-err g c = λ start has.
    let i = c.loop-command.invariant in (
      i.text,
      record { front = i.front; left = c.loop-command.commands; parts = i.parts; images = i.images; carried = i.carried },
      (i.text, [], sym (append-nil i.text), i.sent),
      i.kept start has,
    )

pub loop-command-init : goal.loop-command-init
loop-command-init g c =
    record {
      front = [];
      text = [];
      images = [];
      has = search;
      parts = search;
      carried = carried_none c.args.core.now.catalog c.args.core.now;
      sent = Appends-nil (g.W.Write.contents c.args.writer.now);
      catalog = refl;
      kept = λ start has. has;
    }

pub loop-command-preserved : goal.loop-command-preserved
loop-command-preserved g c =
    let i = c.loop-command.invariant in
    let h : c.loop-command.commands ≡ c.in-Some.command ∷ c.next.new.self = c.in-Some.ensures.first in
    let a = c.in_ok-answer.ensures in
    let d : Command (List Bytes) = c.in-Some.command in
    let first = c.args.core.now in
    let core = c.loop-command.core in
    let new = c.answer.new.core in
    let left = c.next.new.self in
    let this = subst (λ k. Carried {A = g.row.A.Denot} (Carries k d) core new a.0 a.1) i.catalog a.2 in
    record {
      front = i.front ++ d ∷ [];
      text = i.text ++ a.0;
      images = i.images ++ a.1;
      has = a.4 i.images (c.make_room.ensures.same i.images i.has);
      parts = i.parts ∙ ap (λ (l : List (Command (List Bytes))). i.front ++ l) h ∙ sym (append_assoc i.front (d ∷ []) left);
      carried = carried_more first.catalog i.front d first core new i.text a.0 i.images a.1 i.carried this;
      sent = Appends-trans (g.W.Write.contents c.args.writer.now) (g.W.Write.contents c.loop-command.writer) (g.W.Write.contents c.answer.new.writer) i.text a.0 i.sent a.3;
      catalog = (carried_on (Carries core.catalog d) core new a.0 a.1 a.2).catalog ∙ i.catalog;
      kept = λ start has. a.5 start i.images (i.kept start has);
    }

pub returns-in_err-answer-clause-err : goal.returns-in_err-answer-clause-err
returns-in_err-answer-clause-err g c = λ start has.
    let i = c.loop-command.invariant in
    let h : c.loop-command.commands ≡ c.in-Some.command ∷ c.next.new.self = c.in-Some.ensures.first in
    let a = c.in_err-answer.ensures in
    let d : Command (List Bytes) = c.in-Some.command in
    let first = c.args.core.now in
    let core = c.loop-command.core in
    let new = c.answer.new.core in
    let left = c.next.new.self in
    let this = subst (λ k. Carried {A = g.row.A.Denot} (Carries k d) core new a.0 a.1) i.catalog a.2 in
    let p = err_from_is_err_and c.from_residual.result c.from_residual.ensures.1 in
    let s = c.in_err-answer.field-0.0 in
    let parts = i.parts ∙ ap (λ (l : List (Command (List Bytes))). i.front ++ l) h in
    rw (p.1, p.2)
    (stops_at g.row.A.Denot g.row.J-Failure.Denot first.catalog c.args.commands i.front d left first core new i.text a.0 i.images a.1
    (g.W.Write.contents c.args.writer.now) (g.W.Write.contents c.loop-command.writer) (g.W.Write.contents c.answer.new.writer) (g.J.Journal.Has start c.answer.new.journal)
    (g.J.Journal.HasFront start c.answer.new.journal) s parts i.carried this i.sent a.3 (a.5 start i.images (i.kept start has)))

pub returns-clause-ok : goal.returns-clause-ok
returns-clause-ok g c =
    let i = c.loop-command.invariant in
    let left : c.loop-command.commands ≡ [] = c.in_default.ensures.none in
    let all : c.args.commands ≡ i.front = i.parts ∙ ap (λ (l : List (Command (List Bytes))). i.front ++ l) left ∙ append-nil i.front in (
      i.text,
      i.images,
      i.has,
      subst (λ (l : List (Command (List Bytes))). Carried {A = g.row.A.Denot} (CarriesAll c.args.core.now.catalog l) c.args.core.now c.loop-command.core i.text i.images) (sym all) i.carried,
      i.sent,
      i.kept,
    )
