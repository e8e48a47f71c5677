use Rattle.procedure.proofs.Faults.{lawful_at}
use Rattle.procedure.proofs.catalogs.Catalog.procedure.Goals as goal

pub returns-clause-lawful : goal.returns-clause-lawful
returns-clause-lawful g c = lawful_at c.self.inside.procedures c.args.index c.get.result c.self.invariant c.get.ensures.value
