use Rattle.std.proofs.Common.{◌≡◌, List, sym, ap, subst, ◌∙◌}
use Rattle.std.proofs.lemmas.Result.{err_from_is_err_and}
use Rattle.sha2.specs.Sha256.{sha256}
use Rattle.procedure.specs.Bytes.{Bytes}
use Rattle.commitlog.specs.LogReadings.{EndsAfter, IsReading, Log, StopsAfter}
use Rattle.commitlog.specs.Records.{Record}
use Rattle.commitlog.specs.StoredLogs.{checked_reading}
use Rattle.commitlog.proofs.Begins.{ends_so, header_is, stops_so, stops_unlike}
use Rattle.commitlog.proofs.Standing.{spelled_are}
use Rattle.commitlog.proofs.checking.check_whole.Goals as goal

pub returns-in_err-count-clause-answer : goal.returns-in_err-count-clause-answer
returns-in_err-count-clause-answer c =
    let v = c.in-Some.version in
    let h = c.header_in-header.result in
    let front = header_is v h _ _ _ c.in-Some.ensures.found c.split_at.ensures.front c.split_at-2.ensures.back c.header_in-header.ensures.digests in
    let digest = c.digest.ensures ∙ ap sha256 c.split_at.ensures.front in
    let p = err_from_is_err_and c.from_residual.result c.from_residual.ensures.1 in
    let e = c.in_err-count.field-0.0 in
    rw (p.1, p.2) (stops_so checked_reading v h c.digest.result e _ c.header_in-header.ensures.lengths front digest
    (subst (λ (b : Bytes). StopsAfter v c.digest.result b e) c.split_at.ensures.back c.in_err-count.ensures.err))

pub returns-in_err-count-clause-memory : goal.returns-in_err-count-clause-memory
returns-in_err-count-clause-memory c =
    let p = err_from_is_err_and c.from_residual.result c.from_residual.ensures.1 in
    rw (p.1, p.2) (stops_unlike c.in-Some.version c.digest.result c.in_err-count.field-0.0 c.split_at.result.1.now c.in_err-count.ensures.err)

pub returns-clause-answer : goal.returns-clause-answer
returns-clause-answer c =
    let v = c.in-Some.version in
    let h = c.header_in-header.result in
    let front = header_is v h _ _ _ c.in-Some.ensures.found c.split_at.ensures.front c.split_at-2.ensures.back c.header_in-header.ensures.digests in
    let digest = c.digest.ensures ∙ ap sha256 c.split_at.ensures.front in
    let told = c.in_ok-count.ensures.read in
    let ends = subst (λ (b : Bytes). EndsAfter v c.digest.result b told.0 c.in_ok-count.ending) c.split_at.ensures.back told.2 in
    let read = ends_so v h c.digest.result told.0 c.in_ok-count.ending _ c.header_in-header.ensures.lengths front digest ends in
    let made : c.new.result ≡ told.0 = c.new.ensures ∙ spelled_are v c.in_ok-count.count c.split_at.result.1.now (c.digest.result, told.0, told.2.0, told.2.1, told.1) in
    subst (λ (rs : List Record). IsReading c.args.bytes.now (Log v h rs c.in_ok-count.ending)) (sym made) read
