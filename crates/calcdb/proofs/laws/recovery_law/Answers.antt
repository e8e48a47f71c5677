use Rattle.std.proofs.Common.{◌∷◌, subst}
use Rattle.image.specs.Images.{IsLawfulImage}
use Rattle.image.specs.Merges.{table_of}
use Rattle.steps.specs.Schedules.{images_in}
use Rattle.steps.proofs.log.DrivenLog.{images_taken}
use Rattle.calcdb.proofs.CoreFiles.{are_recovered, gives_table_now, taken_are_images}
use Rattle.calcdb.proofs.laws.recovery_law.Goals as goal

pub returns-clause-history : goal.returns-clause-history
returns-clause-history g c = λ v h catalog named. record {
  opens = c.opening.ensures.opens;
  lawful = subst IsLawfulImage c.opening.ensures.value c.entries-entries.ensures.lawful;
  catalog = catalog;
  named = named;
  legal = c.records-records.ensures.legal;
  cyclic = c.records-records.ensures.cyclic;
  few = c.records-records.ensures.small;
}

pub returns-clause-images : goal.returns-clause-images
returns-clause-images g c = λ first events each handled.
    let core = c.args.core.now in
    let lawful = subst IsLawfulImage c.opening.ensures.value c.entries-entries.ensures.lawful in (
      c.openings_law.ensures core.catalog core.opening core.log c.opening.ensures.opens lawful,
      taken_are_images core.catalog (table_of core.opening) core.log (images_in each) (images_taken events each first core handled),
    )

pub returns-clause-recovered : goal.returns-clause-recovered
returns-clause-recovered g c = λ first events each handled.
    let core = c.args.core.now in
    are_recovered core (core.opening ∷ images_in each) c.fronts_law.ensures (returns-clause-history g c) (returns-clause-images g c first events each handled)

pub returns-clause-whole : goal.returns-clause-whole
returns-clause-whole g c = λ first events each handled.
    let core = c.args.core.now in
    gives_table_now core (core.opening ∷ images_in each) c.written_log_law.ensures c.records-records.ensures.most (returns-clause-history g c) (returns-clause-images g c first events each handled)
