use Rattle.std.proofs.Common.{◌∙◌, add-zero}
use Rattle.workers.specs.Streams.{StreamsAs}
use Rattle.workers.proofs.CoreGrowth.{streams}
use Rattle.workers.proofs.Growth.{adds_some, cuts_grow}
use Rattle.workers.proofs.checkpointed.Checkpointed.start_streamed.Goals as goal
use Rattle.workers.proofs.checkpointed.Checkpointed.start_streamed.Goals.{After-start_streamed}

promise : (g : _) (c : After-start_streamed g) → StreamsAs c.self.inside.core c.start_streamed.new.self c.args.kind c.start_streamed.result
promise g c = let e = c.start_streamed.ensures in record { started = e.started; number = e.number; refused = e.refused; refusal = e.refusal }

pub invariant_of-self : goal.invariant_of-self
invariant_of-self g c =
    let grown = streams _ _ _ _ (promise g (goal.at.invariant_of-self g c).After-start_streamed) in
    cuts_grow c.images_stay_law.ensures c.self.inside.core c.start_streamed.new.self 0 _ grown c.records-records.ensures.cyclic c.self.invariant

pub returns : goal.returns
returns g c =
    let a = adds_some _ _ _ 0 (λ old. StreamsAs old c.start_streamed.new.self c.args.kind c.start_streamed.result)
    c.self.view_is (promise g (goal.at.returns g c).After-start_streamed) (λ old. streams old _ _ _) in
    record { core = a.core; images = a.images; origin = a.origin; log = a.log; calls = a.calls ∙ add-zero _ }
