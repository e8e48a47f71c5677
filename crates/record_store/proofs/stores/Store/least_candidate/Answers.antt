use Rattle.std.proofs.Common.{subst}
use Rattle.record_store.specs.Stores.{Slots, IsLeastCandidate, HasKeysOnce}
use Rattle.record_store.proofs.Fields.{key_once, least_is}
use Rattle.record_store.proofs.stores.Store.least_candidate.Goals as goal

pub returns-clause-least : goal.returns-clause-least
returns-clause-least g c =
    subst (λ (slots : Slots). IsLeastCandidate slots c.least.result) c.self.view_is
    (least_is c.self.inside c.self.invariant c.least.result c.least.ensures.some c.least.ensures.none)

pub returns-clause-once : goal.returns-clause-once
returns-clause-once g c = subst (λ (slots : Slots). HasKeysOnce slots) c.self.view_is (key_once c.self.inside c.self.invariant)
