use Rattle.std.proofs.Common.{◌≡◌, refl, sym, subst, ◌∙◌, inl, inr}
use Rattle.procedure.specs.Bytes.{Bytes}
use Rattle.image.specs.Refusals.{IsAnswer}
use Rattle.image.specs.declared.errors.ReadError.TheVariants as refused
use Rattle.image.specs.Streams.{IsAnswerFrom, TellsFrom, unread_as}
use Rattle.image.specs.declared.streams.ReadFromError.TheVariants as read_refused
use Rattle.image.proofs.Arrivals.{all_read, image_read, image_told, is_unread, refusal_is, refusal_read, tells_unread, unread}
use Rattle.image.proofs.Results.{err_of, err_with}
use Rattle.image.proofs.streams.read_from.Goals as goal

pub returns-clause-exact : goal.returns-clause-exact
returns-clause-exact g c = λ text answer known h.
    let remaining = g.R.Read.remaining in
    let all = all_read (remaining c.args.reader.now) (remaining c.read_all.new.reader) text c.in_ok-text.text.items known c.in_ok-text.ensures.read c.in_ok-text.ensures.end in
    elim (c.in-Err.ensures.exact answer (subst (λ (t : Bytes). IsAnswer t answer) (sym (c.as_slice.ensures.value ∙ all)) h)) [
      | inl given ↦ inr (sym given)
      | inr memory ↦ inl (refusal_is c.in-Err.refused refused.NoMemory memory)
    ]

pub returns-in_err-clone-clause-answer : goal.returns-in_err-clone-clause-answer
returns-in_err-clone-clause-answer g c =
    let old = g.R.Read.remaining c.args.reader.now in
    err_of (IsAnswerFrom old old) c.from_residual.result (read_refused.Image refused.NoMemory) c.from_residual.ensures.1 (unread old old (read_refused.Image refused.NoMemory) (inr refl))

pub returns-in_err-clone-clause-exact : goal.returns-in_err-clone-clause-exact
returns-in_err-clone-clause-exact g c = λ text answer known h.
    err_of (λ r. TellsFrom r answer) c.from_residual.result (read_refused.Image refused.NoMemory) c.from_residual.ensures.1 (tells_unread answer (read_refused.Image refused.NoMemory) (inr refl))

pub returns-in_err-text-clause-answer : goal.returns-in_err-text-clause-answer
returns-in_err-text-clause-answer g c =
    let old = g.R.Read.remaining c.args.reader.now in
    let new = g.R.Read.remaining c.read_all.new.reader in
    let u = c.in_err-text.field-0.0 in
    err_with (IsAnswerFrom old new) (λ e. e ≡ unread_as u) (λ e is. unread old new e (is_unread u e is)) c.from_residual-in_err-text.result c.from_residual-in_err-text.ensures.1

pub returns-in_err-text-clause-exact : goal.returns-in_err-text-clause-exact
returns-in_err-text-clause-exact g c = λ text answer known h.
    let u = c.in_err-text.field-0.0 in
    err_with (λ r. TellsFrom r answer) (λ e. e ≡ unread_as u) (λ e is. tells_unread answer e (is_unread u e is)) c.from_residual-in_err-text.result c.from_residual-in_err-text.ensures.1

pub returns-in-Ok-clause-answer : goal.returns-in-Ok-clause-answer
returns-in-Ok-clause-answer g c =
    image_read (g.R.Read.remaining c.args.reader.now) (g.R.Read.remaining c.read_all.new.reader) c.in_ok-text.text.items c.as_slice.result.now c.in_ok-text.ensures.read c.in_ok-text.ensures.end
    c.as_slice.ensures.value
    c.in-Ok.image c.in-Ok.ensures.answer

pub returns-in-Ok-clause-exact : goal.returns-in-Ok-clause-exact
returns-in-Ok-clause-exact g c = λ text answer known h.
    let remaining = g.R.Read.remaining in
    let all = all_read (remaining c.args.reader.now) (remaining c.read_all.new.reader) text c.in_ok-text.text.items known c.in_ok-text.ensures.read c.in_ok-text.ensures.end in
    image_told c.in-Ok.image answer (c.in-Ok.ensures.exact answer (subst (λ (t : Bytes). IsAnswer t answer) (sym (c.as_slice.ensures.value ∙ all)) h))

pub returns-clause-answer : goal.returns-clause-answer
returns-clause-answer g c =
    refusal_read (g.R.Read.remaining c.args.reader.now) (g.R.Read.remaining c.read_all.new.reader) c.in_ok-text.text.items c.as_slice.result.now c.in_ok-text.ensures.read c.in_ok-text.ensures.end
    c.as_slice.ensures.value
    c.in-Err.refused c.in-Err.ensures.answer
