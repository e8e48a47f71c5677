use Rattle.std.proofs.Common.{subst}
use Rattle.commitlog.specs.Histories.{IsCyclic, IsLegal, IsOrderly}
use Rattle.image.specs.Merges.{table_of}
use Rattle.steps.specs.CoreViews.{CoreView, IsSmall}
use Rattle.steps.proofs.views.CoreState.{history, sessions_seen}
use Rattle.steps.proofs.cores.Core.records.Goals as goal

pub returns-clause-legal : goal.returns-clause-legal
returns-clause-legal g c = subst (λ (v : CoreView). IsLegal v.catalog (table_of v.opening) v.log) c.self.view_is (history c.self.inside c.self.invariant).0

pub returns-clause-orderly : goal.returns-clause-orderly
returns-clause-orderly g c = subst (λ (v : CoreView). IsOrderly v.log) c.self.view_is (history c.self.inside c.self.invariant).1

pub returns-clause-cyclic : goal.returns-clause-cyclic
returns-clause-cyclic g c = subst (λ (v : CoreView). IsCyclic v.log) c.self.view_is (history c.self.inside c.self.invariant).2

pub returns-clause-small : goal.returns-clause-small
returns-clause-small g c = subst (λ (v : CoreView). IsSmall v.catalog (table_of v.opening) v.log) c.self.view_is c.self.invariant.small

pub returns-clause-sessions : goal.returns-clause-sessions
returns-clause-sessions g c = sessions_seen c.self.inside c.self.invariant c.self.view_is
