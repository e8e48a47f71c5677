use Rattle.std.proofs.Common.{◌≡◌, true, false, refl, ap, subst, sym, ◌∙◌, arith}
use Rattle.std.proofs.lemmas.Result.{err_from_is_err_and}
use Rattle.commitlog.specs.Records.{record_of}
use Rattle.commitlog.specs.LogBytes.{body, Fits}
use Rattle.commitlog.proofs.BodyLaws.{record_takes}
use Rattle.commitlog.proofs.Refusals.{refused_body, out_of_range, error_is}
use Rattle.commitlog.proofs.bodies.record_of_body.Goals as goal

pub returns-in_err-entry-clause-malformed : goal.returns-in_err-entry-clause-malformed
returns-in_err-entry-clause-malformed g c =
    let p = err_from_is_err_and c.from_residual.result c.from_residual.ensures.1 in
    rw (p.1, p.2) (λ e. refused_body c.in_err-entry.field-0.0 c.args.version c.args.bytes.now c.in_err-entry.ensures (error_is _ _ e))

pub returns-clause-value : goal.returns-clause-value
returns-clause-value g c =
    let takes = record_takes c.args.version c.args.bytes.now (record_of c.in_ok-entry.entry) (λ i. omega (arith, c.type_inv.bytes i)) c.in_ok-entry.ensures in
    ap body c.in_ok-record_of_entry.ensures.value ∙ takes.0

pub returns-clause-fits : goal.returns-clause-fits
returns-clause-fits g c =
    let takes = record_takes c.args.version c.args.bytes.now (record_of c.in_ok-entry.entry) (λ i. omega (arith, c.type_inv.bytes i)) c.in_ok-entry.ensures in
    subst (Fits c.args.version) (sym c.in_ok-record_of_entry.ensures.value) (c.in_ok-record_of_entry.ensures.ranges.0 refl, takes.1)

pub returns-in_err-record_of_entry-clause-malformed : goal.returns-in_err-record_of_entry-clause-malformed
returns-in_err-record_of_entry-clause-malformed g c = λ _. out_of_range c.args.version c.args.bytes.now (record_of c.in_ok-entry.entry) c.in_ok-entry.ensures
    (λ h. let e : false ≡ true = c.in_err-record_of_entry.ensures.ranges.1 h in cc)
