use Rattle.phase.specs.declared.phases.Phase.TheVariants.{Capture}
use Rattle.steps.proofs.scans.CompletedImage.{captured_lawful, captured_once, finished_core, finished_view}
use Rattle.steps.proofs.phases.AddedToken.{same_core}
use Rattle.steps.proofs.phases.PhaseEnds.{advances_from}
use Rattle.steps.proofs.cores.Core.complete.Goals as goal

pub invariant_of-self : goal.invariant_of-self
invariant_of-self g c = same_core c.self.inside c.self.invariant c.push_token.new.log c.in_err-push_token.ensures.err

pub finish-requires-clause-once : goal.finish-requires-clause-once
finish-requires-clause-once g c =
    let free = advances_from c.self.inside c.self.invariant c.args.self.now c.self.view_is Capture c.requires.phase c.requires.free in
    captured_once c.self.inside c.self.invariant free.is

pub finish-requires-clause-lawful : goal.finish-requires-clause-lawful
finish-requires-clause-lawful g c =
    let free = advances_from c.self.inside c.self.invariant c.args.self.now c.self.view_is Capture c.requires.phase c.requires.free in
    λ way. captured_lawful c.self.inside c.self.invariant free.is way c.len-records.ensures.most

pub invariant_of-self-2 : goal.invariant_of-self-2
invariant_of-self-2 g c =
    let free = advances_from c.self.inside c.self.invariant c.args.self.now c.self.view_is Capture c.requires.phase c.requires.free in
    finished_core c.self.inside c.self.invariant free.is c.push_token.new.log c.clear_frozen.new.self free.scanned c.in_ok-push_token.ensures.ok c.clear_frozen.ensures
    c.finish.new.checkpoint c.finish.ensures c.len-records.ensures.most

pub returns : goal.returns
returns g c =
    let free = advances_from c.self.inside c.self.invariant c.args.self.now c.self.view_is Capture c.requires.phase c.requires.free in
    finished_view c.self.inside c.self.invariant free.is c.push_token.new.log c.clear_frozen.new.self free.scanned c.in_ok-push_token.ensures.ok c.clear_frozen.ensures
    c.finish.new.checkpoint c.finish.ensures c.len-records.ensures.most c.args.self.now c.self.view_is
