use Rattle.std.proofs.Common.{codes, decimal}
use Rattle.std.proofs.lemmas.Result.{on_ok_weaker}
use Rattle.calcdb.specs.Showing.{log_ending_text}
use Rattle.calcdb.proofs.Shown.{three_pushed}
use Rattle.calcdb.proofs.show.push_count.Goals as goal

pub returns : goal.returns
returns g c =
    on_ok_weaker c.push_text-2.result
    (three_pushed c.args.out.now.items (codes "log records ") (decimal c.args.count) (log_ending_text c.args.ending) c.push_text.new.out.items c.push_decimal.new.out.items c.push_text-2.new.out.items
    c.in_ok-push_text.ensures c.in_ok-push_decimal.ensures)
    (rw (← c.ending_words.ensures) c.push_text-2.ensures)
