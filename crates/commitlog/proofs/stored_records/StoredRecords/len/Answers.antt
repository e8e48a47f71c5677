use Rattle.std.proofs.Common.{◌≤◌, List, length, sym, ap, subst, ◌∙◌, arith}
use Rattle.commitlog.specs.Records.{Record}
use Rattle.commitlog.specs.declared.limits.TheConstants.{LOG_RECORDS}
use Rattle.commitlog.proofs.Standing.{how_many}
use Rattle.commitlog.proofs.stored_records.StoredRecords.len.Goals as goal

pub returns-clause-value : goal.returns-clause-value
returns-clause-value c =
    sym (how_many c.self.inside.version c.self.inside.count c.self.inside.rest.now c.self.invariant).0 ∙ ap (λ (l : List Record). length l) c.self.view_is

pub returns-clause-most : goal.returns-clause-most
returns-clause-most c =
    let told = how_many c.self.inside.version c.self.inside.count c.self.inside.rest.now c.self.invariant in
    subst (λ (l : List Record). length l ≤ LOG_RECORDS) c.self.view_is (omega (arith, told.0, told.1))
