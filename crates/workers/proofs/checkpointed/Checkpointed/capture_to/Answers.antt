use Rattle.workers.specs.Streams.{SendsAs}
use Rattle.workers.proofs.CoreGrowth.{sends}
use Rattle.workers.proofs.Growth.{adds_none, cuts_keep}
use Rattle.workers.proofs.checkpointed.Checkpointed.capture_to.Goals as goal
use Rattle.workers.proofs.checkpointed.Checkpointed.capture_to.Goals.{After-capture_to}

promise : (g : _) (c : After-capture_to g) → SendsAs c.self.inside.core c.capture_to.new.self c.args.tap.now c.capture_to.new.tap c.capture_to.result
promise g c = let e = c.capture_to.ensures in record { captured = e.captured; sent = e.sent; refused = e.refused; refusal = e.refusal }

pub invariant_of-self : goal.invariant_of-self
invariant_of-self g c = cuts_keep c.self.inside.core c.capture_to.new.self _ (sends _ _ _ _ _ (promise g (goal.at.invariant_of-self g c).After-capture_to)) c.self.invariant

pub returns : goal.returns
returns g c =
    let a = adds_none _ _ _ (λ old. SendsAs old c.capture_to.new.self c.args.tap.now c.capture_to.new.tap c.capture_to.result)
    c.self.view_is (promise g (goal.at.returns g c).After-capture_to) (λ old. sends old _ _ _ _) in
    record { core = a.core; ring = c.capture_to.ensures.ring; images = a.images; origin = a.origin; log = a.log; calls = a.calls }
