use Rattle.std.proofs.Common.{◌≡◌, ◌+◌, List, ◌∷◌, ◌++◌, length, ap, arith}
use Rattle.std.proofs.lemmas.Result.{err_from_is_err_and}
use Rattle.std.specs.Io.KnownBytes.{Appends}
use Rattle.commitlog.specs.Records.{Record}
use Rattle.calcdb.specs.Showing.{record_text, records_text}
use Rattle.procedure.proofs.WriteProgress.{Gone}
use Rattle.calcdb.proofs.Shown.{all_out, next_record, no_record, part_breaks_off, part_gone}
use Rattle.calcdb.proofs.show.write_records.Goals as goal
use Rattle.calcdb.proofs.show.write_records.Goals.{After-write_record}

-- the record stands in front of those that are left then
found : (g : _) (c : After-write_record g) → c.loop-found.records ≡ c.in-Some.found ∷ c.next.new.self
found g c = rw c.in-Some.is at c.in_ok-found.ensures.next

parts : (g : _) (c : After-write_record g) →
    records_text c.loop-found.place c.loop-found.records ≡ record_text c.loop-found.place c.in-Some.found ++ records_text (c.loop-found.place + 1) c.next.new.self
parts g c = next_record c.loop-found.place c.in-Some.found c.loop-found.records c.next.new.self (found g c)

count : (g : _) (c : After-write_record g) → c.loop-found.place + 1 + length c.next.new.self ≡ length c.args.records
count g c = omega (arith, c.loop-found.invariant.count, ap (λ (x : List Record). length x) (found g c))

gone : (g : _) (c : After-write_record g) → Appends (g.W.Write.contents c.loop-found.writer) (g.W.Write.contents c.write_record.new.writer) (record_text c.loop-found.place c.in-Some.found) →
    Gone (g.W.Write.contents c.args.writer.now) (g.W.Write.contents c.write_record.new.writer) (records_text 0 c.args.records) (records_text (c.loop-found.place + 1) c.next.new.self)
gone g c =
    let l = c.loop-found in
    part_gone l.invariant.gone (g.W.Write.contents c.write_record.new.writer) (record_text l.place c.in-Some.found) (records_text (l.place + 1) c.next.new.self) (parts g c)

pub returns-in_err-write_record-clause-err : goal.returns-in_err-write_record-clause-err
returns-in_err-write_record-clause-err g c =
    let l = c.loop-found in
    let p = err_from_is_err_and c.from_residual-in_err-write_record.result c.from_residual-in_err-write_record.ensures.1 in
    rw (p.1, p.2)
    (part_breaks_off l.invariant.gone (g.W.Write.contents c.write_record.new.writer) (record_text l.place c.in-Some.found) (records_text (l.place + 1) c.next.new.self)
    (parts g (goal.at.returns-in_err-write_record-clause-err g c).After-write_record) c.in_err-write_record.field-0.0 c.in_err-write_record.ensures.err)

pub loop-found-preserved-in_ok-write_record : goal.loop-found-preserved-in_ok-write_record
loop-found-preserved-in_ok-write_record g c =
    let after = (goal.at.loop-found-preserved-in_ok-write_record g c).After-write_record in
    record { gone = gone g after c.in_ok-write_record.ensures.ok; count = count g after }

pub loop-found-preserved : goal.loop-found-preserved
loop-found-preserved g c =
    let after = (goal.at.loop-found-preserved g c).After-write_record in
    record { gone = gone g after c.in_ok-write_record.ensures.ok; count = count g after }

pub returns-clause-ok : goal.returns-clause-ok
returns-clause-ok g c =
    let l = c.loop-found in
    let told = rw c.in_default.is at c.in_ok-found.ensures.next in
    all_out l.invariant.gone (no_record l.place l.records told.0)
