use Rattle.std.proofs.Common.{rules, ap, arith, ◌∙◌, ◌≤◌, inr, sym, subst, ℕ}
use Rattle.image.specs.declared.limits.TheConstants.{ENTRIES}
use Rattle.steps.specs.CoreViews.{CoreView}
use Rattle.steps.specs.inside.Spots.{key_of_spot}
use Rattle.steps.proofs.scans.Spots.{once_there, same_changed}
use Rattle.steps.proofs.scans.CapturingCore.{IsVisit, capture_core, capture_view, refused_to, scan_here, unsent_core, visit_to}
use Rattle.steps.proofs.scans.CompletedImage.{few_given}
use Rattle.steps.proofs.views.CoreState.{phase_by}
use Rattle.steps.proofs.cores.Core.capture_to.Given.{Over}
use Rattle.steps.proofs.cores.Core.capture_to.Goals as goal
use Rattle.steps.proofs.cores.Core.capture_to.Goals.{In-Ok}

pub overflow_add-self : goal.overflow_add-self
overflow_add-self g c =
    let within = (scan_here c.self.inside c.self.invariant (phase_by c.self.inside c.self.invariant c.self.view_is c.in_ok-may_scan.ensures.ok.0)).within in
    omega (arith, within)

pub send_spot-requires : goal.send_spot-requires
send_spot-requires g c =
    let here = phase_by c.self.inside c.self.invariant c.self.view_is c.in_ok-may_scan.ensures.ok.0 in record {
      found = c.spot_at-spot.ensures.found;
      few =
          subst (λ (n : ℕ). n ≤ ENTRIES) (sym ((scan_here c.self.inside c.self.invariant here).count (ap (λ (v : CoreView). v.checkpoint.way) c.self.view_is ∙ c.in_ok-may_scan.ensures.ok.1)))
          (few_given c.self.inside c.self.invariant here c.len-records.ensures.most);
    }

pub invariant_of-self : goal.invariant_of-self
invariant_of-self g c =
    same_changed _ c.spot_at-spot.new.changed c.spot_at-spot.ensures.same
    (unsent_core c.self.inside c.self.invariant c.send_spot.new.store c.send_spot.new.given c.send_spot.new.tally c.in-Err.ensures.err c.in-Err.ensures.refused.gave c.in-Err.ensures.refused.counted)

pub returns-in-Err-clause-refusal : goal.returns-in-Err-clause-refusal
returns-in-Err-clause-refusal g c =
    inr (
      search rules,
      refused_to c.self.inside c.self.invariant (phase_by c.self.inside c.self.invariant c.self.view_is c.in_ok-may_scan.ensures.ok.0)
          (key_of_spot c.spot_at-spot.result) c.spot_at-spot.ensures.key c.args.tap.now c.in-Err.refused c.in-Err.ensures.why
          c.args.self.now c.self.view_is,
    )

-- the place that was visited
visited : (g : Over) (c : In-Ok g) →
    IsVisit c.self.inside c.self.invariant c.send_spot.new.store c.self.inside.checkpoint.captured c.send_spot.new.given c.send_spot.new.tally (key_of_spot c.spot_at-spot.result)
visited g c =
    visit_to c.self.inside c.self.invariant c.send_spot.new.store c.self.inside.checkpoint.captured c.send_spot.new.given c.send_spot.new.tally (key_of_spot c.spot_at-spot.result)
    (ap (λ (v : CoreView). v.checkpoint.way) c.self.view_is ∙ c.in_ok-may_scan.ensures.ok.1) (phase_by c.self.inside c.self.invariant c.self.view_is c.in_ok-may_scan.ensures.ok.0)
    c.if-self.false c.spot_at-spot.ensures.key (once_there c.self.inside.store c.spot_at-spot.result c.spot_at-spot.ensures.found) c.in-Ok.ensures.visits c.in-Ok.ensures.sent

pub invariant_of-self-2 : goal.invariant_of-self-2
invariant_of-self-2 g c = same_changed _ c.spot_at-spot.new.changed c.spot_at-spot.ensures.same (capture_core _ _ _ _ _ _ _ (visited g (goal.at.invariant_of-self-2 g c).In-Ok))

pub returns-clause-captured : goal.returns-clause-captured
returns-clause-captured g c = capture_view _ _ _ _ _ _ _ (visited g (goal.at.returns-clause-captured g c).In-Ok) c.args.self.now c.self.view_is
