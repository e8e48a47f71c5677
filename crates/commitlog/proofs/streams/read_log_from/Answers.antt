use Rattle.commitlog.proofs.Arrivals.{tells_from}
use Rattle.commitlog.proofs.streams.read_log_from.Goals as goal

pub returns-clause-only : goal.returns-clause-only
returns-clause-only g c = λ text r known h.
    tells_from (g.R.Read.remaining c.args.reader.now) (g.R.Read.remaining c.answer_from.new.reader) text c.answer_from.result r known c.answer_from.ensures h
