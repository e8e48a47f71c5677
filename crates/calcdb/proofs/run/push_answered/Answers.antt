use Rattle.std.proofs.Common.{◌≡◌, ◌++◌, Option, Some, None, OnOk, sym, ap, ◌∙◌, subst, slice_get}
use Rattle.std.proofs.lemmas.List.{append-nil}
use Rattle.procedure.specs.Bytes.{Bytes}
use Rattle.commitlog.specs.Records.{Record, Token, call_of, record_of}
use Rattle.procedure.proofs.Slices.{copied_get}
use Rattle.calcdb.specs.Output.{answer_text}
use Rattle.calcdb.specs.Runs.{answer_in}
use Rattle.calcdb.proofs.run.push_answered.Goals as goal

pub returns-in_default : goal.returns-in_default
returns-in_default g c =
    let out = c.args.out.now.items in
    sym (append-nil out) ∙ ap (λ (o : Option Record). out ++ answer_in c.args.place o) (copied_get None c.args.records.now c.args.place c.in_default.ensures.lookup.3)

pub returns-in-Call : goal.returns-in-Call
returns-in-Call g c =
    let place = c.args.place in
    let is = c.in-Call in
    let at : slice_get c.args.records.now place ≡ Some (call_of is.call is.outcome is.replies) = sym (copied_get (Some c.in-Some.record) c.args.records.now c.args.place c.in-Some.ensures.lookup.3) ∙ ap Some (sym c.entry.ensures.value ∙ ap record_of is.is) in
    let text = ap (answer_text place is.outcome) c.as_slice.ensures ∙ ap (answer_in place) (sym at) in
    subst (λ (t : Bytes). OnOk c.push_answer.result (c.push_answer.new.out.items ≡ c.args.out.now.items ++ t)) text c.push_answer.ensures

pub returns-in-Token : goal.returns-in-Token
returns-in-Token g c =
    let out = c.args.out.now.items in
    let at : slice_get c.args.records.now c.args.place ≡ Some (Token c.in-Token.phase c.in-Token.number) = sym (copied_get (Some c.in-Some.record) c.args.records.now c.args.place c.in-Some.ensures.lookup.3) ∙ ap Some (sym c.entry.ensures.value ∙ ap record_of c.in-Token.is) in
    sym (append-nil out) ∙ ap (λ (o : Option Record). out ++ answer_in c.args.place o) (sym at)
