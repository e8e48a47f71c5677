use Rattle.std.proofs.Common.{refl, sym, ap, ◌++◌, ◌∷◌, [], subst}
use Rattle.commitlog.specs.Records.{record_of}
use Rattle.replay.specs.Orders.{IsAfter}
use Rattle.replay.specs.declared.orders.Order.{Order}
use Rattle.replay.proofs.Ordering.{after_token, after_call}
use Rattle.replay.proofs.orders.Order.note.Goals as goal

pub returns-in-Token : goal.returns-in-Token
returns-in-Token g c = λ l a. after_token c.args.self.now l a c.in-Token.phase c.in-Token.number (record_of c.args.entry.now) (ap record_of c.in-Token.is)

pub returns-in-Call : goal.returns-in-Call
returns-in-Call g c = λ l a.
    let call = c.in-Call.call in
    let range = rw c.in-Call.is at c.requires in
    subst (λ (o : Order). IsAfter o (l ++ record_of c.args.entry.now ∷ [])) (sym c.note_call.ensures)
    (after_call c.args.self.now l a call.session call.number call.procedure call.args c.in-Call.outcome c.in-Call.replies (record_of c.args.entry.now) _ range.0 (ap record_of c.in-Call.is) refl)
