use Rattle.std.proofs.Common.{◌+◌}
use Rattle.std.proofs.lemmas.List.{take_rest}
use Rattle.calcdb.specs.Lines.{is_blank}
use Rattle.calcdb.proofs.Pieces.{pieces_split, pieces_whole}
use Rattle.calcdb.proofs.lines.piece_at.Goals as goal

pub returns-in-Some-clause-pieces : goal.returns-in-Some-clause-pieces
returns-in-Some-clause-pieces c = rw (take_rest c.args.line.now (c.in-Some.at + 1)) (pieces_split is_blank c.args.line.now c.in-Some.at c.in-Some.ensures)

pub returns-in-None-clause-pieces : goal.returns-in-None-clause-pieces
returns-in-None-clause-pieces c = pieces_whole is_blank c.args.line.now c.in-None.ensures
