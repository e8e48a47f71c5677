use Rattle.procedure.specs.Table.{no_table}
use Rattle.std.proofs.Common.{rules}
use Rattle.view.proofs.rows.Rows.clear.Goals as goal

pub returns-clause-table : goal.returns-clause-table
unfolding no_table
returns-clause-table g c = search rules
