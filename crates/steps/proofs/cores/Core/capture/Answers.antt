use Rattle.std.proofs.Common.{refl, ap, arith, ◌∙◌}
use Rattle.steps.specs.CoreViews.{CoreView}
use Rattle.steps.specs.inside.Spots.{key_of_spot}
use Rattle.steps.proofs.scans.Spots.{once_there, same_changed}
use Rattle.steps.proofs.scans.CapturingCore.{IsVisit, visit_by, capture_core, capture_view, roomy_scan, scan_here}
use Rattle.steps.proofs.views.CoreState.{phase_by}
use Rattle.steps.proofs.cores.Core.capture.Given.{Over}
use Rattle.steps.proofs.cores.Core.capture.Goals as goal
use Rattle.steps.proofs.cores.Core.capture.Goals.{After-keep}

pub overflow_add-self : goal.overflow_add-self
overflow_add-self g c =
    let within = (scan_here c.self.inside c.self.invariant (phase_by c.self.inside c.self.invariant c.self.view_is c.in_ok-may_scan.ensures.ok.0)).within in
    omega (arith, within)

pub invariant_of-self : goal.invariant_of-self
invariant_of-self g c = roomy_scan c.self.inside c.self.invariant c.reserve.new.self c.reserve.ensures.items c.self.inside.store refl

pub invariant_of-self-in-Err : goal.invariant_of-self-in-Err
invariant_of-self-in-Err g c =
    same_changed _ c.spot_at-spot.new.changed c.spot_at-spot.ensures.same
    (roomy_scan c.self.inside c.self.invariant c.reserve.new.self c.reserve.ensures.items c.visit.new.store c.in-Err.ensures.err)

-- the place that was visited
visited : (g : Over) (c : After-keep g) →
    IsVisit c.self.inside c.self.invariant c.visit.new.store c.keep.new.captured c.keep.new.given c.self.inside.checkpoint.tally (key_of_spot c.spot_at-spot.result)
visited g c =
    visit_by c.self.inside c.self.invariant c.visit.new.store c.keep.new.captured c.keep.new.given c.self.inside.checkpoint.tally (key_of_spot c.spot_at-spot.result)
    c.reserve.new.self.items c.in-Ok.held (ap (λ (v : CoreView). v.checkpoint.way) c.self.view_is ∙ c.in_ok-may_scan.ensures.ok.1)
    (phase_by c.self.inside c.self.invariant c.self.view_is c.in_ok-may_scan.ensures.ok.0) c.if-self.false c.spot_at-spot.ensures.key
    (once_there c.self.inside.store c.spot_at-spot.result c.spot_at-spot.ensures.found) c.in-Ok.ensures.visits
    c.keep.ensures.captured c.keep.ensures.given c.reserve.ensures.items c.in-Ok.ensures.given

pub invariant_of-self-2 : goal.invariant_of-self-2
invariant_of-self-2 g c = same_changed _ c.spot_at-spot.new.changed c.spot_at-spot.ensures.same (capture_core _ _ _ _ _ _ _ (visited g (goal.at.invariant_of-self-2 g c).After-keep))

pub returns-clause-captured : goal.returns-clause-captured
returns-clause-captured g c = capture_view _ _ _ _ _ _ _ (visited g (goal.at.returns-clause-captured g c).After-keep) c.args.self.now c.self.view_is
