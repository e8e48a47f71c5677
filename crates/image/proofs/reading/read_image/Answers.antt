use Rattle.std.proofs.Common.{rules, ◌≡◌, inl, Ok, Err, ap, ◌∙◌}
use Rattle.std.proofs.lemmas.Result.{err_from_is_err_and}
use Rattle.image.specs.Images.{Image}
use Rattle.image.specs.declared.errors.ReadError.{ReadError}
use Rattle.image.proofs.reading.read_image.Goals as goal

pub returns-clause-exact : goal.returns-clause-exact
returns-clause-exact g c = λ answer h.
    let same : c.in-Some.image ≡ c.in_ok-checked.checked = search rules in
    inl (ap (λ (i : Image). Ok i) same ∙ c.in_ok-checked.ensures.exact answer h)

pub returns-in_err-checked-clause-refusal : goal.returns-in_err-checked-clause-refusal
returns-in_err-checked-clause-refusal g c = λ e h.
    let p = err_from_is_err_and c.from_residual.result c.from_residual.ensures.1 in
    let same : c.in_err-checked.field-0.0 ≡ e = cc (c.in_err-checked.ensures.exact (Err e) h) in
    rw (p.1, p.2) (ap (λ (x : ReadError). Err x) same)

-- the bytes of an image aren't refused
pub returns-in_err-entries-clause-refusal : goal.returns-in_err-entries-clause-refusal
returns-in_err-entries-clause-refusal g c = λ e h. absurd (cc (c.in_ok-checked.ensures.exact (Err e) h))

pub returns-clause-refusal : goal.returns-clause-refusal
returns-clause-refusal g c = λ e h. absurd (cc (c.in_ok-checked.ensures.exact (Err e) h))
