use Rattle.std.proofs.Common.{◌≡◌, [], sym, ◌∙◌}
use Rattle.workers.specs.Claims.{all_claims}
use Rattle.workers.proofs.Faults.{only_memory}
use Rattle.workers.proofs.gathering.gather.Goals as goal

pub returns-clause-err : goal.returns-clause-err
returns-clause-err g c =
    let same : all_claims c.args.shares.items ≡ c.as_slice.result.now = sym c.in_ok-claims.ensures.claims ∙ sym c.as_slice.ensures.value in
    rw same c.judge.ensures.err

pub returns-clause-only : goal.returns-clause-only
returns-clause-only g c =
    let same : all_claims c.args.shares.items ≡ c.as_slice.result.now = sym c.in_ok-claims.ensures.claims ∙ sym c.as_slice.ensures.value in
    rw same (λ w. only_memory c.args.records.now c.as_slice.result.now (record { session = 0; number = 0; answer = record { place = 0; outcome = 0; replies = [] } }) w c.judge.result c.judge.ensures.err)
