use Rattle.std.proofs.Common.{ap, ◌∙◌, refl}
use Rattle.record_store.specs.Stores.{Slots, changed, with_available}
use Rattle.record_store.specs.Entries.{with_entry_mark}
use Rattle.record_store.proofs.Seen.{seen_marked, mark_most}
use Rattle.record_store.specs.declared.stores.Store.TheInside.{Inside}
use Rattle.record_store.proofs.Fields.{changed_view, changed_sound, offers_kept}
use Rattle.record_store.proofs.stores.Store.set_available.Goals as goal

pub invariant_of-self : goal.invariant_of-self
invariant_of-self g c =
    let new : Inside g.row.A.Denot = record c.self.inside { slots = c.set_mark.new.slots } in
    changed_sound c.self.inside new (with_entry_mark c.mark_of-mark.result) c.args.slot c.self.invariant refl c.set_mark.ensures refl (λ e. refl)
    (λ e m. record { mark = mark_most c.self.inside.number c.args.available c.mark_of-mark.result c.mark_of-mark.ensures; copied = m.copied })
    (offers_kept c.self.inside new (with_entry_mark c.mark_of-mark.result) c.args.slot c.self.invariant c.set_mark.ensures refl (λ e. refl))

pub returns : goal.returns
returns g c =
    let new : Inside g.row.A.Denot = record c.self.inside { slots = c.set_mark.new.slots } in
    changed_view c.self.inside new (with_entry_mark c.mark_of-mark.result) (with_available c.args.available) c.args.slot refl c.set_mark.ensures
    (λ e. seen_marked c.self.inside.number c.args.available c.mark_of-mark.result e c.mark_of-mark.ensures c.self.invariant.number)
    ∙ ap (λ (slots : Slots). changed (with_available c.args.available) slots c.args.slot) c.self.view_is
