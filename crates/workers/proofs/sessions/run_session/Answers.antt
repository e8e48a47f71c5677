use Rattle.workers.proofs.Counting.{unmade}
use Rattle.workers.proofs.sessions.run_session.Goals as goal

pub returns-clause-parts : goal.returns-clause-parts
returns-clause-parts g c = (unmade _ (λ l. l.tally.part.parts) (λ l. l.tally.part.amount) (λ d s t h. h) c.make_calls.ensures).0

pub returns-clause-amount : goal.returns-clause-amount
returns-clause-amount g c = (unmade _ (λ l. l.tally.part.parts) (λ l. l.tally.part.amount) (λ d s t h. h) c.make_calls.ensures).1
