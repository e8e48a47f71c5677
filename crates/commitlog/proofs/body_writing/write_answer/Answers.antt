use Rattle.commitlog.proofs.body_writing.write_answer.Goals as goal

pub returns : goal.returns
returns g c = g.met.P.Pieces.more _ _ _ _ _ c.take.ensures c.write_replies.ensures
