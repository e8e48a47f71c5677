use Rattle.std.proofs.Common.{◌∙◌, subst}
use Rattle.record_store.specs.Stores.{Slots, Finds, HasKeysOnce}
use Rattle.record_store.proofs.Fields.{finds, key_once}
use Rattle.record_store.proofs.stores.Store.find.Goals as goal

pub returns-clause-found : goal.returns-clause-found
returns-clause-found g c =
    subst (λ (slots : Slots). Finds slots c.args.key.now c.copied.result) c.self.view_is
    (finds c.self.inside c.self.invariant c.args.key.now c.copied.result (c.copied.ensures ∙ c.get.ensures.value))

pub returns-clause-once : goal.returns-clause-once
returns-clause-once g c = subst (λ (slots : Slots). HasKeysOnce slots) c.self.view_is (key_once c.self.inside c.self.invariant)
