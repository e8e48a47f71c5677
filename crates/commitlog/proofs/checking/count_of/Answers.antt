use Rattle.std.proofs.Common.{sym, subst}
use Rattle.procedure.specs.Bytes.{Bytes}
use Rattle.commitlog.specs.LogReadings.{StandsFirst}
use Rattle.commitlog.proofs.Chains.{counts_on}
use Rattle.commitlog.proofs.checking.count_of.Goals as goal

pub loop-ending-preserved : goal.loop-ending-preserved
loop-ending-preserved c =
    let l = c.loop-ending in
    let told = rw c.in-Entry.is at c.in_ok-ending.ensures.next in
    let stands = subst (λ (b : Bytes). StandsFirst c.args.version l.digest c.in-Entry.after l.rest.now b) (sym c.split_at.ensures.back) told.1 in
    counts_on c.args.version c.args.digest l.digest c.in-Entry.after l.count l.rest.now c.split_at.result.1.now c.args.bytes.now told.0 stands l.invariant
