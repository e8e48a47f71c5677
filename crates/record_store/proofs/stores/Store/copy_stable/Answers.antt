use Rattle.std.proofs.Common.{IsSome, arith, ap, refl, sym, ◌∙◌, subst}
use Rattle.procedure.specs.Bytes.{Cell}
use Rattle.record_store.specs.Stores.{Slots, changed, live_at, with_copy}
use Rattle.record_store.specs.Entries.{with_entry_stable, with_entry_copy}
use Rattle.record_store.specs.declared.stores.Store.TheInside.{Inside}
use Rattle.record_store.proofs.Fields.{changed_sound, changed_view, live_is, offers_kept, on_err, copied_entry}
use Rattle.record_store.proofs.Seen.{seen_copied}
use Rattle.record_store.proofs.stores.Store.copy_stable.Goals as goal

pub returns-in_err-copy-clause-memory : goal.returns-in_err-copy-clause-memory
returns-in_err-copy-clause-memory g c =
    on_err c.from_residual.result (subst (λ (x : Cell). IsSome x)
    (sym (live_is c.self.inside c.args.slot) ∙ ap (λ (slots : Slots). live_at slots c.args.slot) c.self.view_is)
    c.in_err-copy.ensures.memory)

pub invariant_of-self : goal.invariant_of-self
invariant_of-self g c =
    let new : Inside g.row.A.Denot = record c.self.inside { slots = c.set_stable.new.slots } in
    changed_sound c.self.inside new (with_entry_stable c.in_ok-copy.copy c.self.inside.number) c.args.slot c.self.invariant refl c.set_stable.ensures refl (λ e. refl)
    (λ e m. record { mark = m.mark; copied = omega arith })
    (offers_kept c.self.inside new (with_entry_stable c.in_ok-copy.copy c.self.inside.number) c.args.slot c.self.invariant c.set_stable.ensures refl (λ e. refl))

pub returns-clause-ok : goal.returns-clause-ok
returns-clause-ok g c =
    let new : Inside g.row.A.Denot = record c.self.inside { slots = c.set_stable.new.slots } in
    changed_view c.self.inside new (with_entry_copy c.self.inside.number) with_copy c.args.slot refl
    (c.set_stable.ensures ∙ copied_entry c.self.inside.slots.items c.args.slot c.self.inside.number c.in_ok-copy.copy
    c.in_ok-copy.ensures.value) (λ e. seen_copied c.self.inside.number e)
    ∙ ap (λ (slots : Slots). changed with_copy slots c.args.slot) c.self.view_is
