use Rattle.std.proofs.Common.{rules, ◌≡◌, sym, ap, ◌∙◌, subst, length}
use Rattle.std.proofs.lemmas.List.{take_all}
use Rattle.workers.specs.Claims.{OneFault, times}
use Rattle.workers.specs.declared.gathering.Claim.{Claim}
use Rattle.workers.proofs.Faults.{fault_of, fit_more, mark_more}
use Rattle.workers.proofs.gathering.mark.Goals as goal

pub returns-in-Err-clause-err : goal.returns-in-Err-clause-err
returns-in-Err-clause-err g c =
    let i = c.loop-claim.invariant in
    fault_of c.args.records.now c.args.claims.now c.loop-claim.seen.items c.loop-claim.claim-index c.claim-item.result c.loop-claim-test.true i.once c.in-Err.e
    (subst (λ (x : Claim g.row.A.Denot). OneFault c.args.records.now x c.loop-claim.seen.items c.in-Err.e) c.claim-item.is c.in-Err.ensures.err)

pub loop-claim-preserved : goal.loop-claim-preserved
loop-claim-preserved g c =
    let i = c.loop-claim.invariant in
    let e = c.in_default.ensures in
    let lens : length c.loop-claim.seen.items ≡ length c.args.records.now = search rules in
    record {
      len = e.len;
      fit = fit_more c.args.records.now c.args.claims.now c.loop-claim.claim-index c.claim-item.result c.claim-item.is i.fit c.loop-claim-test.true e.ok.0;
      once = mark_more c.args.records.now c.args.claims.now c.loop-claim.seen.items c.mark_one.new.seen.items c.loop-claim.claim-index c.claim-item.result c.loop-claim-test.true c.claim-item.is lens i.once e.ok.1 e.ok.2 e.ok.3;
    }

pub returns-clause-once : goal.returns-clause-once
returns-clause-once g c = λ p low. ap (times p) (sym (take_all c.loop-claim.claim-index c.args.claims.now c.loop-claim-test.false)) ∙ c.loop-claim.invariant.once p low
