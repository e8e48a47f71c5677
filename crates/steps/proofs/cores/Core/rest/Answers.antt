use Rattle.phase.specs.declared.phases.Phase.TheVariants.{Complete}
use Rattle.steps.proofs.phases.AddedToken.{same_core}
use Rattle.steps.proofs.phases.PhaseEnds.{advances_from}
use Rattle.steps.proofs.phases.ResolveAndRest.{rest_core, rest_view}
use Rattle.steps.proofs.cores.Core.rest.Goals as goal

pub invariant_of-self : goal.invariant_of-self
invariant_of-self g c = same_core c.self.inside c.self.invariant c.push_token.new.log c.in_err-push_token.ensures.err

pub invariant_of-self-2 : goal.invariant_of-self-2
invariant_of-self-2 g c =
    let free = advances_from c.self.inside c.self.invariant c.args.self.now c.self.view_is Complete c.requires.phase c.requires.free in
    rest_core c.self.inside c.self.invariant c.push_token.new.log c.next_number.new.self free.is free.held c.in_ok-push_token.ensures.ok c.next_number.ensures

pub returns : goal.returns
returns g c =
    let free = advances_from c.self.inside c.self.invariant c.args.self.now c.self.view_is Complete c.requires.phase c.requires.free in
    rest_view c.self.inside c.self.invariant c.push_token.new.log c.next_number.new.self free.is free.held c.in_ok-push_token.ensures.ok c.next_number.ensures c.args.self.now c.self.view_is
