use Rattle.std.proofs.Common.{◌≡◌, ◌∷◌, ◌++◌, ap}
use Rattle.std.proofs.lemmas.Result.{err_from_is_err_and}
use Rattle.std.specs.Io.KnownBytes.{Appends}
use Rattle.calcdb.specs.Output.{entries_text, entry_text}
use Rattle.procedure.proofs.WriteProgress.{Gone}
use Rattle.calcdb.proofs.Shown.{all_out, first_entry, part_breaks_off, part_gone}
use Rattle.calcdb.proofs.show.write_stored_entries.Goals as goal
use Rattle.calcdb.proofs.show.write_stored_entries.Goals.{After-write_entry}

-- the entry stands in front of those that are left then
parts : (g : _) (c : After-write_entry g) → entries_text c.loop-entry.entries ≡ entry_text c.in-Some.entry ++ entries_text c.next.new.self
parts g c =
    let told : c.loop-entry.entries ≡ c.in-Some.entry ∷ c.next.new.self = rw c.in-Some.is at c.in_ok-entry.ensures.next in
    first_entry c.in-Some.entry c.loop-entry.entries c.next.new.self told

gone : (g : _) (c : After-write_entry g) → Appends (g.W.Write.contents c.loop-entry.writer) (g.W.Write.contents c.write_entry.new.writer) (entry_text c.in-Some.entry) →
    Gone (g.W.Write.contents c.args.writer.now) (g.W.Write.contents c.write_entry.new.writer) (entries_text c.args.entries) (entries_text c.next.new.self)
gone g c = part_gone c.loop-entry.invariant (g.W.Write.contents c.write_entry.new.writer) (entry_text c.in-Some.entry) (entries_text c.next.new.self) (parts g c)

pub returns-in_err-write_entry-clause-err : goal.returns-in_err-write_entry-clause-err
returns-in_err-write_entry-clause-err g c =
    let p = err_from_is_err_and c.from_residual-in_err-write_entry.result c.from_residual-in_err-write_entry.ensures.1 in
    rw (p.1, p.2)
    (part_breaks_off c.loop-entry.invariant (g.W.Write.contents c.write_entry.new.writer) (entry_text c.in-Some.entry) (entries_text c.next.new.self)
    (parts g (goal.at.returns-in_err-write_entry-clause-err g c).After-write_entry) c.in_err-write_entry.field-0.0 c.in_err-write_entry.ensures.err)

pub loop-entry-preserved-in_ok-write_entry : goal.loop-entry-preserved-in_ok-write_entry
loop-entry-preserved-in_ok-write_entry g c = gone g (goal.at.loop-entry-preserved-in_ok-write_entry g c).After-write_entry c.in_ok-write_entry.ensures.ok

pub loop-entry-preserved-in_ok-write_entry-2 : goal.loop-entry-preserved-in_ok-write_entry-2
loop-entry-preserved-in_ok-write_entry-2 g c = gone g (goal.at.loop-entry-preserved-in_ok-write_entry-2 g c).After-write_entry c.in_ok-write_entry.ensures.ok

pub loop-entry-preserved : goal.loop-entry-preserved
loop-entry-preserved g c = gone g (goal.at.loop-entry-preserved g c).After-write_entry c.in_ok-write_entry.ensures.ok

pub returns-clause-ok : goal.returns-clause-ok
returns-clause-ok g c =
    let told = rw c.in_default.is at c.in_ok-entry.ensures.next in
    all_out c.loop-entry.invariant (ap entries_text told.0)
