use Rattle.std.proofs.Common.{◌≡◌, ◌+◌, ◌++◌, drop, ap}
use Rattle.std.proofs.lemmas.List.{drop_all}
use Rattle.std.proofs.lemmas.Result.{err_from_is_err_and}
use Rattle.calcdb.specs.Output.{entry_text, entries_text}
use Rattle.calcdb.proofs.Shown.{all_out, next_entry, part_breaks_off, part_gone}
use Rattle.calcdb.proofs.show.write_entries.Goals as goal
use Rattle.calcdb.proofs.show.write_entries.Goals.{After-write_entry}

parts : (g : _) (c : After-write_entry g) →
    entries_text (drop c.loop-entry.entry-index c.args.entries.now) ≡ entry_text c.entry-item.result ++ entries_text (drop (c.loop-entry.entry-index + 1) c.args.entries.now)
parts g c = next_entry c.args.entries.now c.loop-entry.entry-index c.entry-item.result c.loop-entry-test.true c.entry-item.is

pub returns-in_err-write_entry-clause-err : goal.returns-in_err-write_entry-clause-err
returns-in_err-write_entry-clause-err g c =
    let l = c.loop-entry in
    let p = err_from_is_err_and c.from_residual.result c.from_residual.ensures.1 in
    rw (p.1, p.2)
    (part_breaks_off l.invariant (g.W.Write.contents c.write_entry.new.writer) (entry_text c.entry-item.result) (entries_text (drop (l.entry-index + 1) c.args.entries.now))
    (parts g (goal.at.returns-in_err-write_entry-clause-err g c).After-write_entry) c.in_err-write_entry.field-0.0 c.in_err-write_entry.ensures.err)

pub loop-entry-preserved : goal.loop-entry-preserved
loop-entry-preserved g c =
    let l = c.loop-entry in
    part_gone l.invariant (g.W.Write.contents c.write_entry.new.writer) (entry_text c.entry-item.result) (entries_text (drop (l.entry-index + 1) c.args.entries.now))
    (parts g (goal.at.loop-entry-preserved g c).After-write_entry) c.in_ok-write_entry.ensures.ok

pub returns-clause-ok : goal.returns-clause-ok
returns-clause-ok g c =
    let l = c.loop-entry in
    all_out l.invariant (ap entries_text (drop_all l.entry-index c.args.entries.now c.loop-entry-test.false))
