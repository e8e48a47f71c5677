use Rattle.procedure.specs.Table.{no_table}
use Rattle.std.proofs.Common.{rules}
use Rattle.view.proofs.rows.Rows.new.Goals as goal

pub returns : goal.returns
unfolding no_table
returns g c = search rules
