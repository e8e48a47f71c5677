use Rattle.std.proofs.Common.{arith, ap, sym, ◌∙◌, refl, None}
use Rattle.record_store.specs.Stores.{Slots, changed, with_stable, stable_at, stable_of}
use Rattle.record_store.specs.Entries.{entry_at, with_entry_stable}
use Rattle.record_store.specs.declared.records.Stable.TheVariants.{Empty}
use Rattle.record_store.proofs.Seen.{seen_erased, stable_seen_in}
use Rattle.record_store.specs.declared.stores.Store.TheInside.{Inside}
use Rattle.record_store.proofs.Fields.{changed_view, changed_sound, offers_kept, view_at}
use Rattle.record_store.proofs.stores.Store.take_stable.Goals as goal

pub invariant_of-self : goal.invariant_of-self
invariant_of-self g c =
    let new : Inside g.row.A.Denot = record c.self.inside { slots = c.take_stable.new.slots } in
    changed_sound c.self.inside new (with_entry_stable None 0) c.args.slot c.self.invariant refl c.take_stable.ensures.changed refl (λ e. refl)
    (λ e m. record { mark = m.mark; copied = omega arith })
    (offers_kept c.self.inside new (with_entry_stable None 0) c.args.slot c.self.invariant c.take_stable.ensures.changed refl (λ e. refl))

pub returns-clause-changed : goal.returns-clause-changed
returns-clause-changed g c =
    let new : Inside g.row.A.Denot = record c.self.inside { slots = c.take_stable.new.slots } in
    changed_view c.self.inside new (with_entry_stable None 0) (with_stable Empty) c.args.slot refl c.take_stable.ensures.changed
    (λ e. seen_erased c.self.inside.number e c.self.invariant.number)
    ∙ ap (λ (slots : Slots). changed (with_stable Empty) slots c.args.slot) c.self.view_is

pub returns-clause-value : goal.returns-clause-value
returns-clause-value g c = c.take_stable.ensures.stable ∙ sym (stable_seen_in c.self.inside.number (entry_at c.self.inside.slots.items c.args.slot)) ∙
    sym (ap stable_of (view_at c.self.inside c.args.slot)) ∙ ap (λ (slots : Slots). stable_at slots c.args.slot) c.self.view_is
