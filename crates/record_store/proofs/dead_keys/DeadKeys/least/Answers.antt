use Rattle.std.proofs.Common.{ℕ, List, ◌≡◌, sym, ◌∙◌, subst, ap, None, Option}
use Rattle.procedure.specs.Bytes.{Bytes}
use Rattle.record_store.specs.DeadKeys.{IsLeast, Nodes, node_at, offer_at}
use Rattle.record_store.proofs.Tournaments.{least_some, least_none}
use Rattle.record_store.proofs.dead_keys.DeadKeys.least.Goals as goal

pub returns-in-Some-clause-some : goal.returns-in-Some-clause-some
returns-in-Some-clause-some g c =
    subst (λ (offers : List (Option Bytes)). IsLeast (offer_at offers) c.in-Some.best.slot) c.self.view_is
    (least_some c.self.inside c.self.invariant c.in-Some.best (sym (c.in-Some.ensures ∙ ap (λ (nodes : Nodes). node_at nodes 1) c.deref.ensures.value)))

pub returns-in-None-clause-none : goal.returns-in-None-clause-none
returns-in-None-clause-none g c =
    subst (λ (offers : List (Option Bytes)). (slot : ℕ) → offer_at offers slot ≡ None) c.self.view_is
    (least_none c.self.inside c.self.invariant (sym (c.in-None.ensures ∙ ap (λ (nodes : Nodes). node_at nodes 1) c.deref.ensures.value)))
