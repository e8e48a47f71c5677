use Rattle.std.proofs.Common.{◌≡◌, ◌∷◌, subst, sym, ◌∙◌}
use Rattle.std.specs.Prelude.{◌↔◌, IsTrue, None, Some, slice_get}
use Rattle.phase.specs.declared.phases.Phase.TheVariants.{Resolve}
use Rattle.commitlog.specs.Records.{Record, Token}
use Rattle.replay.proofs.Reruns.{first_from, none_from, stands_not, stands_there}
use Rattle.replay.proofs.recovery.is_placed.Goals as goal

pub returns-in-Some : goal.returns-in-Some
returns-in-Some g c =
    let l = c.args.records.now in
    let i = c.args.image.now in
    let told : c.from_place-records.result ≡ c.in-Some.found ∷ c.next.new.self = rw c.in-Some.is at c.in_ok-found.ensures.next in
    let here : slice_get l i.place ≡ Some c.in-Some.found =
    subst (λ k. slice_get l k ≡ Some c.in-Some.found) c.place.ensures
    (first_from l c.place.result c.in-Some.found c.next.new.self (sym c.from_place-records.ensures ∙ told)) in
    let is = stands_there l i.place c.in-Some.found (Token Resolve i.number) here in
    let same = subst (λ (r : Record). IsTrue c.resolves.result ↔ (r ≡ Token Resolve c.number.result)) c.entry.ensures.value c.resolves.ensures in
    let resolves = subst (λ n. IsTrue c.resolves.result ↔ (c.in-Some.found ≡ Token Resolve n)) c.number.ensures same in
    (λ yes. is.0 (resolves.0 yes), λ placed. resolves.1 (is.1 placed))

pub returns-in-None : goal.returns-in-None
returns-in-None g c =
    let l = c.args.records.now in
    let i = c.args.image.now in
    let told = rw c.in-None.is at c.in_ok-found.ensures.next in
    let nothing = subst (λ k. slice_get l k ≡ None) c.place.ensures (none_from l c.place.result (sym c.from_place-records.ensures ∙ told.0)) in
    (λ no. absurd (cc), λ placed. absurd (stands_not l i.place (Token Resolve i.number) nothing placed))
