use Rattle.calcdb.proofs.Lawful.{lawful_procedure}
use Rattle.calcdb.proofs.preambles.Block.into_procedure.Goals as goal

pub returns-clause-lawful : goal.returns-clause-lawful
returns-clause-lawful g c =
    let i = c.self.invariant in
    rw c.in_ok-new.ensures (lawful_procedure (record { arity = c.self.inside.arity; code = c.self.inside.code.items }) i.arity i.count i.code)
