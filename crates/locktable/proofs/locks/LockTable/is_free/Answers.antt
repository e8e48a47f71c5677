use Rattle.std.proofs.Common.{IsTrue, ◌↔◌, sym, ◌∙◌, subst}
use Rattle.locktable.specs.Locks.{IsFree}
use Rattle.locktable.specs.Tables.{keys_in}
use Rattle.locktable.proofs.Tables.{free_if_none, free_only_if_none}
use Rattle.locktable.proofs.locks.LockTable.is_free.Goals as goal

pub returns : goal.returns
returns g c =
    let k = c.args.key.now in
    let holders = c.self.inside.holders in
    let held = keys_in c.self.inside.held.items in
    subst (λ locks. IsTrue c.is_nobody.result ↔ IsFree locks k) c.self.view_is (
      λ yes. free_if_none holders held c.self.invariant k (sym c.get.ensures ∙ c.is_nobody.ensures.0 yes),
      λ free. c.is_nobody.ensures.1 (c.get.ensures ∙ free_only_if_none holders held c.self.invariant k free),
    )
