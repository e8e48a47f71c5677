use Rattle.calcdb.proofs.engine.run_script.Goals as goal

pub returns-in-Ok-clause-run : goal.returns-in-Ok-clause-run
returns-in-Ok-clause-run g c = λ source known.
    let h = c.in-Ok.ensures.run in
    let all = h.3 source known in
    (all.0, h.0, h.1, all.1, all.2)
