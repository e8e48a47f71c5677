use Rattle.std.proofs.Common.{arith, ap, ◌∙◌, refl, None}
use Rattle.record_store.specs.Stores.{Slots, changed, with_stable}
use Rattle.record_store.specs.Entries.{with_entry_stable}
use Rattle.record_store.specs.declared.records.Stable.TheVariants.{Empty}
use Rattle.record_store.proofs.Seen.{seen_erased}
use Rattle.record_store.specs.declared.stores.Store.TheInside.{Inside}
use Rattle.record_store.proofs.Fields.{changed_view, changed_sound, offers_kept}
use Rattle.record_store.proofs.stores.Store.erase_stable.Goals as goal

pub invariant_of-self : goal.invariant_of-self
invariant_of-self g c =
    let new : Inside g.row.A.Denot = record c.self.inside { slots = c.erase_stable.new.slots } in
    changed_sound c.self.inside new (with_entry_stable None 0) c.args.slot c.self.invariant refl c.erase_stable.ensures refl (λ e. refl) (λ e m. record { mark = m.mark; copied = omega arith })
    (offers_kept c.self.inside new (with_entry_stable None 0) c.args.slot c.self.invariant c.erase_stable.ensures refl (λ e. refl))

pub returns : goal.returns
returns g c =
    let new : Inside g.row.A.Denot = record c.self.inside { slots = c.erase_stable.new.slots } in
    changed_view c.self.inside new (with_entry_stable None 0) (with_stable Empty) c.args.slot refl c.erase_stable.ensures
    (λ e. seen_erased c.self.inside.number e c.self.invariant.number)
    ∙ ap (λ (slots : Slots). changed (with_stable Empty) slots c.args.slot) c.self.view_is
