use Rattle.std.proofs.Common.{◌≡◌, ap, length, refl, subst, sym, ◌∙◌}
use Rattle.std.specs.Bool.{IsTrue}
use Rattle.image.specs.Images.{Image}
use Rattle.image.specs.Openings.{is_opening}
use Rattle.steps.specs.CoreViews.{CoreView, table_now}
use Rattle.steps.specs.Versions.{live_version, versions_in}
use Rattle.steps.proofs.renewal.NextOpening.{live_is}
use Rattle.steps.proofs.renewal.RestedStore.{rested_fills}
use Rattle.steps.proofs.cores.Core.next_store.Goals as goal

pub returns-then-entries-slots-clause-none : goal.returns-then-entries-slots-clause-none
returns-then-entries-slots-clause-none g c =
    let v : CoreView = c.args.self.now in
    let next : Image = c.args.next.now in
    let len : length next.entries ≡ length v.slots =
    ap length (sym c.entries.ensures.value) ∙ c.if-entries-slots.true ∙ c.slots.ensures ∙ ap (λ (v : CoreView). length v.slots) c.self.view_is in
    λ none.
    rested_fills v.slots (table_now v) next c.requires.next len (sym c.requires.count ∙ len)
    (λ q. ap (λ (v : CoreView). live_version (versions_in v.slots q)) (sym c.self.view_is) ∙ live_is c.self.inside c.self.invariant v c.self.view_is c.requires.free q)

pub store_of-requires : goal.store_of-requires
store_of-requires g c = subst (λ (i : Image). IsTrue (is_opening i)) (sym c.requires.next) refl
