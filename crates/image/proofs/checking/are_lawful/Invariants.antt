use Rattle.std.proofs.Common.{length}
use Rattle.image.proofs.PieceChecks.{SoFar}
use Rattle.image.proofs.checking.are_lawful.Given as goal

-- those that are to come tell whether all are lawful
abbrev pub invariant-loop-piece : goal.invariant-loop-piece
invariant-loop-piece l = SoFar l.most l.kind l.fn.pieces l.last l.pieces

abbrev pub decreases-loop-piece : goal.decreases-loop-piece
decreases-loop-piece l = length l.pieces
