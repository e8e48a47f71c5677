use Rattle.std.proofs.Common.{arith, ap, ◌∙◌, refl}
use Rattle.record_store.specs.Stores.{Slots, changed, with_stable}
use Rattle.record_store.specs.Entries.{with_entry_stable}
use Rattle.record_store.specs.declared.records.Stable.TheVariants.{Was}
use Rattle.record_store.proofs.Seen.{seen_put}
use Rattle.record_store.specs.declared.stores.Store.TheInside.{Inside}
use Rattle.record_store.proofs.Fields.{changed_view, changed_sound, offers_kept}
use Rattle.record_store.proofs.stores.Store.put_stable.Goals as goal

pub invariant_of-self : goal.invariant_of-self
invariant_of-self g c =
    let new : Inside g.row.A.Denot = record c.self.inside { slots = c.set_stable.new.slots } in
    changed_sound c.self.inside new (with_entry_stable c.args.stable c.self.inside.number) c.args.slot c.self.invariant refl c.set_stable.ensures refl (λ e. refl)
    (λ e m. record { mark = m.mark; copied = omega arith })
    (offers_kept c.self.inside new (with_entry_stable c.args.stable c.self.inside.number) c.args.slot c.self.invariant c.set_stable.ensures refl (λ e. refl))

pub returns : goal.returns
returns g c =
    let new : Inside g.row.A.Denot = record c.self.inside { slots = c.set_stable.new.slots } in
    changed_view c.self.inside new (with_entry_stable c.args.stable c.self.inside.number) (with_stable (Was c.args.stable)) c.args.slot refl
    c.set_stable.ensures
    (λ e. seen_put c.self.inside.number c.args.stable e)
    ∙ ap (λ (slots : Slots). changed (with_stable (Was c.args.stable)) slots c.args.slot) c.self.view_is
