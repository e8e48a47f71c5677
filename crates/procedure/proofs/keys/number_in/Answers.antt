use Rattle.std.proofs.Common.{◌∙◌, ◌-◌, length, arith}
use Rattle.procedure.proofs.KeyOrders.{number_after}
use Rattle.procedure.proofs.keys.number_in.Goals as goal

pub returns-clause-value : goal.returns-clause-value
returns-clause-value c = c.read_u64.ensures ∙ number_after c.args.from (length c.args.places.now - c.args.from) 8 c.args.places.now (omega (arith, c.requires))

pub returns-clause-bytes : goal.returns-clause-bytes
returns-clause-bytes c i = (c.type_inv.places i).fits
