use Rattle.calcdb.specs.Lines.{is_line_feed}
use Rattle.calcdb.proofs.FirstBytes.{position_of_first}
use Rattle.calcdb.proofs.lines.line_end.Goals as goal

pub returns : goal.returns
returns c = position_of_first is_line_feed c.args.text.now c.memchr.result c.memchr.ensures
