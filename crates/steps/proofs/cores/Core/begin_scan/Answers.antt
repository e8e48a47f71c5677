use Rattle.phase.specs.declared.phases.Phase.TheVariants.{Resolve}
use Rattle.steps.proofs.scans.Spots.{same_changed}
use Rattle.steps.proofs.scans.CapturingCore.{begin_core, begin_view, listed_core}
use Rattle.steps.proofs.phases.AddedToken.{same_core}
use Rattle.steps.proofs.phases.PhaseEnds.{advances_from}
use Rattle.steps.proofs.cores.Core.begin_scan.Goals as goal

pub invariant_of-self : goal.invariant_of-self
invariant_of-self g c =
    let free = advances_from c.self.inside c.self.invariant c.args.self.now c.self.view_is Resolve c.requires.phase c.requires.free in
    listed_core c.self.inside c.self.invariant c.make_room.new.captured free.is

pub invariant_of-self-in_err-push_token : goal.invariant_of-self-in_err-push_token
invariant_of-self-in_err-push_token g c =
    let free = advances_from c.self.inside c.self.invariant c.args.self.now c.self.view_is Resolve c.requires.phase c.requires.free in
    same_core _ (listed_core c.self.inside c.self.invariant c.make_room.new.captured free.is) c.push_token.new.log c.in_err-push_token.ensures.err

pub invariant_of-self-2 : goal.invariant_of-self-2
invariant_of-self-2 g c =
    let free = advances_from c.self.inside c.self.invariant c.args.self.now c.self.view_is Resolve c.requires.phase c.requires.free in
    same_changed _ c.order_places.new.changed c.order_places.ensures
    (begin_core c.self.inside c.self.invariant c.push_token.new.log c.places-bound.result c.make_room.new.captured c.nothing-self-inside.result c.none-self-inside.result free.is
    free.held c.in_ok-push_token.ensures.ok c.places-bound.ensures c.make_room.ensures c.nothing-self-inside.ensures c.none-self-inside.ensures.count
    c.none-self-inside.ensures.chain)

pub returns : goal.returns
returns g c =
    let free = advances_from c.self.inside c.self.invariant c.args.self.now c.self.view_is Resolve c.requires.phase c.requires.free in
    begin_view c.self.inside c.self.invariant c.push_token.new.log c.places-bound.result c.make_room.new.captured c.nothing-self-inside.result c.none-self-inside.result free.is
    free.held c.in_ok-push_token.ensures.ok c.places-bound.ensures c.make_room.ensures c.nothing-self-inside.ensures c.none-self-inside.ensures.count
    c.none-self-inside.ensures.chain
    c.args.self.now c.self.view_is
