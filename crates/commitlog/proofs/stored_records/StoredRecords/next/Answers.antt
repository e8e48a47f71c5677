use Rattle.std.proofs.Common.{◌-◌, ◌∷◌, sym, ap, subst, ◌∙◌, arith, Err}
use Rattle.commitlog.specs.StoredRecords.{AreSpelled, records_in}
use Rattle.commitlog.proofs.Standing.{more}
use Rattle.commitlog.proofs.stored_records.StoredRecords.next.Goals as goal

pub split_first-requires : goal.split_first-requires
split_first-requires g c =
    let at = c.self.inside in
    (more at.version at.count at.rest.now (omega (arith, c.if-self-eq0.false)) c.self.invariant).whole

pub invariant_of-self : goal.invariant_of-self
invariant_of-self g c =
    let at = c.self.inside in
    let m = more at.version at.count at.rest.now (omega (arith, c.if-self-eq0.false)) c.self.invariant in
    subst (AreSpelled at.version (at.count - 1)) (sym c.split_first.ensures.rest) m.others

pub unreachable-requires : goal.unreachable-requires
unreachable-requires g c =
    let at = c.self.inside in
    let m = more at.version at.count at.rest.now (omega (arith, c.if-self-eq0.false)) c.self.invariant in
    c.record_of_body.ensures.malformed (c.in-Err-Malformed.is ∙ ap Err c.in-Err-Malformed.field-0-is) m.is.0 m.is.1 (m.is.2 ∙ sym c.split_first.ensures.body)

pub returns-in-Ok-clause-next : goal.returns-in-Ok-clause-next
returns-in-Ok-clause-next g c =
    let at = c.self.inside in
    let m = more at.version at.count at.rest.now (omega (arith, c.if-self-eq0.false)) c.self.invariant in
    sym c.self.view_is ∙ m.first c.in-Ok.made c.in-Ok.ensures.fits (c.in-Ok.ensures.value ∙ c.split_first.ensures.body)
    ∙ ap (λ b. c.in-Ok.made ∷ records_in at.version (at.count - 1) b) (sym c.split_first.ensures.rest)
