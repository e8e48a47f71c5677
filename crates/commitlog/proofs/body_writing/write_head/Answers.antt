use Rattle.commitlog.proofs.body_writing.write_head.Goals as goal

pub returns : goal.returns
returns g c =
    let more = g.met.P.Pieces.more in
    more _ _ _ _ _ c.take_u16.ensures (more _ _ _ _ _ c.take_u64.ensures c.take_u16-2.ensures)
