use Rattle.std.proofs.Common.{◌≡◌, Ok, ap, sym, ◌∙◌}
use Rattle.procedure.specs.Table.{Table}
use Rattle.calcdb.specs.LineByLine.{after_lines}
use Rattle.calcdb.specs.Lines.{lines}
use Rattle.calcdb.specs.Pairs.{table_after_line}
use Rattle.calcdb.proofs.Loading.{few_pairs}
use Rattle.calcdb.proofs.pairs.read_pairs.Goals as goal

pub returns-clause-few : goal.returns-clause-few
returns-clause-few g c =
    let after = λ (t : Table). after_lines table_after_line t 1 (lines c.args.text.now) in
    let read : after c.new.result ≡ Ok c.read_lines.new.said = c.in_ok-read_lines.ensures in
    few_pairs (lines c.args.text.now) c.said.inside.table (ap after (sym c.new.ensures) ∙ read ∙ ap (λ (t : Table). Ok t) (sym c.said.view_is))
