use Rattle.std.proofs.Common.{sym, subst}
use Rattle.commitlog.specs.Records.{Call, IsInRange}
use Rattle.steps.proofs.finish.end_call.Goals as goal

pub record_of-requires : goal.record_of-requires
record_of-requires g c =
    let k = c.args.call in
    subst (λ args. IsInRange (Call c.args.session k.number k.procedure args c.args.outcome c.into_parts-args.result.1)) (sym c.into_parts-args.ensures.args)
    (subst (λ replies. IsInRange (Call c.args.session k.number k.procedure k.machine.args c.args.outcome replies)) (sym c.into_parts-args.ensures.replies) c.requires.range)
