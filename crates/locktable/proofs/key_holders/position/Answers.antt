use Rattle.std.proofs.Common.{◌≡◌, ◌-◌, drop, length, sym, ◌∙◌, subst, None}
use Rattle.procedure.proofs.Maps.{at_key}
use Rattle.locktable.proofs.Few.{found_at, not_from}
use Rattle.locktable.proofs.Listing.{after_before, before, still_within}
use Rattle.locktable.proofs.key_holders.position.Goals as goal

pub returns-then-eq-clause-entry : goal.returns-then-eq-clause-entry
returns-then-eq-clause-entry c =
    let few = c.args.few.now in
    let within = before (length few) c.loop-index.index c.loop-index.invariant.0 c.loop-index-test.true in
    found_at few c.args.key.now (c.loop-index.index - 1) within c.index-few-index.result c.index-few-index.is (sym c.eq.ensures ∙ c.if-eq.true)

pub loop-index-preserved : goal.loop-index-preserved
loop-index-preserved c =
    let few = c.args.few.now in
    let k = c.args.key.now in
    let within = before (length few) c.loop-index.index c.loop-index.invariant.0 c.loop-index-test.true in
    let next = after_before (length few) c.loop-index.index c.loop-index.invariant.0 c.loop-index-test.true in (
      still_within (length few) c.loop-index.index c.loop-index.invariant.0 c.loop-index-test.true,
      not_from few k (c.loop-index.index - 1) within c.index-few-index.result c.index-few-index.is
          (subst (λ n. at_key (drop n few) k ≡ None) next c.loop-index.invariant.1) (sym c.eq.ensures ∙ c.if-eq.false),
    )
