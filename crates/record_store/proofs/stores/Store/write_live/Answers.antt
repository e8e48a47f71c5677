use Rattle.std.proofs.Common.{ap, is_some, ◌∙◌, refl, sym}
use Rattle.record_store.specs.Stores.{Slots, changed, live_at, with_live}
use Rattle.record_store.specs.Entries.{entry_at, with_entry_live}
use Rattle.record_store.proofs.Fields.{changed_view, kept_offer, live_of_record, live_seen, renewed_same, renewed_sound, view_at}
use Rattle.record_store.proofs.Offers.{not_other}
use Rattle.record_store.proofs.stores.Store.write_live.Goals as goal

pub renew_offer_where-requires-clause-same : goal.renew_offer_where-requires-clause-same
renew_offer_where-requires-clause-same g c =
    renewed_same c.self.inside (with_entry_live c.args.live) c.args.slot c.set_live-before.new.slots.items c.set_live-before.new.slots.items c.self.invariant refl c.set_live-before.ensures.changed (λ e. refl)

pub renew_offer_where-requires-clause-as_before : goal.renew_offer_where-requires-clause-as_before
renew_offer_where-requires-clause-as_before g c same =
    let before = c.set_live-before.ensures.before in
    let lives = ap is_some (sym before) ∙ sym c.is_some.ensures ∙ not_other c.is_some.result c.is_some-lives.result same ∙ c.is_some-lives.ensures in
    kept_offer c.self.inside c.args.live c.args.slot c.set_live-before.new.slots.items c.set_live-before.new.slots.items c.self.invariant refl c.set_live-before.ensures.changed lives

pub invariant_of-self : goal.invariant_of-self
invariant_of-self g c =
    renewed_sound c.self.inside (record c.self.inside { slots = c.set_live-before.new.slots; dead = c.renew_offer_where.new.dead }) (with_entry_live c.args.live) c.args.slot c.set_live-before.new.slots.items c.self.invariant refl
    c.set_live-before.ensures.changed refl c.renew_offer_where.ensures (λ e. refl) (λ e m. record { mark = m.mark; copied = m.copied })

pub returns-clause-changed : goal.returns-clause-changed
returns-clause-changed g c =
    changed_view c.self.inside (record c.self.inside { slots = c.set_live-before.new.slots; dead = c.renew_offer_where.new.dead }) (with_entry_live c.args.live) (with_live c.args.live) c.args.slot refl c.set_live-before.ensures.changed (λ e. refl)
    ∙ ap (λ (slots : Slots). changed (with_live c.args.live) slots c.args.slot) c.self.view_is

pub returns-clause-before : goal.returns-clause-before
returns-clause-before g c = c.set_live-before.ensures.before ∙ sym (live_seen c.self.inside.number (entry_at c.self.inside.slots.items c.args.slot)) ∙
    sym (ap live_of_record (view_at c.self.inside c.args.slot)) ∙ ap (λ (slots : Slots). live_at slots c.args.slot) c.self.view_is
