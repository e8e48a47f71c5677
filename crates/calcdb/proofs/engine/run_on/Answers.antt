use Rattle.calcdb.proofs.engine.run_on.Goals as goal

pub returns-in-Err-clause-err : goal.returns-in-Err-clause-err
returns-in-Err-clause-err g c = λ start has. (c.run_commands.new.core, c.in-Err.ensures.err start has)
