use Rattle.std.proofs.Common.{sym, ap, ◌∙◌, ◌≤◌, subst, ℕ}
use Rattle.record_store.specs.Stores.{records}
use Rattle.record_store.specs.declared.limits.TheConstants.{STORE_RECORDS}
use Rattle.record_store.proofs.Fields.{records_are}
use Rattle.record_store.proofs.stores.Store.len.Goals as goal

pub returns-clause-value : goal.returns-clause-value
returns-clause-value g c = sym (records_are c.self.inside c.self.invariant) ∙ ap records c.self.view_is

pub returns-clause-most : goal.returns-clause-most
returns-clause-most g c = subst (λ (n : ℕ). n ≤ STORE_RECORDS) (sym (records_are c.self.inside c.self.invariant) ∙ ap records c.self.view_is) c.self.invariant.few
