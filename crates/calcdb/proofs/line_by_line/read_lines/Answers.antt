use Rattle.std.proofs.Common.{ap, sym, ◌∙◌, option_map}
use Rattle.calcdb.proofs.LinesAfter.{nothing_left}
use Rattle.calcdb.proofs.line_by_line.read_lines.Goals as goal

pub returns : goal.returns
returns g c = sym c.loop-rest.invariant.says ∙ nothing_left g.S.LineReader.after c.loop-rest.said c.loop-rest.number (option_map (λ t. t.now) c.loop-rest.rest) (ap (option_map (λ t. t.now)) c.in_default.is)
