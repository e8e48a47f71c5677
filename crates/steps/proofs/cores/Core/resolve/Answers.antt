use Rattle.std.proofs.Common.{ap}
use Rattle.phase.specs.declared.phases.Phase.TheVariants.{Prepare}
use Rattle.record_store.specs.ChangedSets.{ChangedSets}
use Rattle.steps.proofs.phases.AddedToken.{same_core}
use Rattle.steps.proofs.phases.PhaseEnds.{advances_from}
use Rattle.steps.proofs.phases.ResolveAndRest.{resolve_core, resolve_view}
use Rattle.steps.proofs.cores.Core.resolve.Goals as goal

pub invariant_of-self : goal.invariant_of-self
invariant_of-self g c = same_core c.self.inside c.self.invariant c.push_token.new.log c.in_err-push_token.ensures.err

pub invariant_of-self-2 : goal.invariant_of-self-2
invariant_of-self-2 g c =
    let free = advances_from c.self.inside c.self.invariant c.args.self.now c.self.view_is Prepare c.requires.phase c.requires.free in
    resolve_core c.self.inside c.self.invariant c.push_token.new.log c.freeze.new.self c.len-place.result free.is free.held c.in_ok-push_token.ensures.ok
    (ap (λ (s : ChangedSets). s.collecting) c.freeze.ensures) (ap (λ (s : ChangedSets). s.frozen) c.freeze.ensures) c.len-place.ensures

pub returns : goal.returns
returns g c =
    let free = advances_from c.self.inside c.self.invariant c.args.self.now c.self.view_is Prepare c.requires.phase c.requires.free in
    resolve_view c.self.inside c.self.invariant c.push_token.new.log c.freeze.new.self c.len-place.result free.is free.held c.in_ok-push_token.ensures.ok
    (ap (λ (s : ChangedSets). s.collecting) c.freeze.ensures) (ap (λ (s : ChangedSets). s.frozen) c.freeze.ensures) c.len-place.ensures c.args.self.now c.self.view_is
