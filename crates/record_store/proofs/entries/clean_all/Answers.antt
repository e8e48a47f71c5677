use Rattle.std.proofs.Common.{arith}
use Rattle.record_store.proofs.Fields.{cleaned_all}
use Rattle.record_store.proofs.entries.clean_all.Goals as goal

pub returns : goal.returns
returns g c =
    cleaned_all c.args.slots.now.items c.loop-slot.slots.items c.loop-slot.invariant.len
    (λ slot below. c.loop-slot.invariant.done slot (omega (arith, c.loop-slot-test.false, c.len-slot-end.ensures)))
